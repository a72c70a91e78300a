use Prim.Native.Nat.{min}
use mathlib.Core.Path.{◌≡◌, sym, ap, ◌∙◌}
use native.Mathlib.Omega.{arith}
use Rattle.session.specs.Internal.{resend_count}
use Rattle.session.proofs.resend_count.Goals as goal

pub returns-then-outstanding-eq0 : goal.returns-then-outstanding-eq0
returns-then-outstanding-eq0 c = let none : 0 ≡ min 1 c.args.outstanding = omega (arith, c.if-outstanding-eq0.true) in none ∙ ap (resend_count c.args.outstanding) (sym c.in-Earliest.is)

pub returns-else-outstanding-eq0 : goal.returns-else-outstanding-eq0
returns-else-outstanding-eq0 c = let one : 1 ≡ min 1 c.args.outstanding = omega (arith, c.if-outstanding-eq0.false) in one ∙ ap (resend_count c.args.outstanding) (sym c.in-Earliest.is)
