use native.Mathlib.Omega.{arith}
use mathlib.Core.Path.{◌≡◌, ◌∙◌, ap}
use Prim.Native.Nat.{ℕ, ◌≤◌, ◌<◌, ◌-◌, ◌+◌}
use mathlib.Core.List.{List, []}
use lib.ListN.{length, set, get_or}
use Rattle.schedule.specs.Internal.{raised}
use Rattle.schedule.proofs.Lists.{raise_none, raise_more}
use Rattle.schedule.proofs.order.move_up.Goals as goal

turn : (n i : ℕ) (l s : List (List ℕ)) → 0 < i → i ≤ n → n < length l → s ≡ raised n i l → set s (i - 1 + 1) (get_or s (i - 1) []) ≡ raised n (i - 1) l
turn n i l s p h k e =
    let back : i - 1 + 1 ≡ i = omega arith in
    ap (λ (m : ℕ). set s m (get_or s (i - 1) [])) back ∙ ap (λ (xs : List (List ℕ)). set xs i (get_or xs (i - 1) [])) e ∙ raise_more [] n i l p h k

pub loop-i-init : goal.loop-i-init
loop-i-init c = raise_none c.args.n c.args.s.now (omega arith)

pub loop-i-preserved : goal.loop-i-preserved
loop-i-preserved c = turn c.args.n c.loop-i.i c.args.s.now c.loop-i.s (omega arith) (omega arith) c.requires c.loop-i.invariant

pub returns : goal.returns
returns c = let e : c.loop-i.i ≡ 0 = omega arith in
    c.loop-i.invariant ∙ ap (λ (k : ℕ). raised c.args.n k c.args.s.now) e
