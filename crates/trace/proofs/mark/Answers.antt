use Prim.Native.Nat.{ℕ}
use mathlib.Core.Path.{◌≡◌}
use borrow.Author.Tests.{eq-eqb, ne_eqb}
use Rattle.rows.specs.Rows.{as_number, is_set}
use Rattle.trace.proofs.mark.Goals as goal

set : (n : ℕ) → n ≡ 1 → 1 ≡ as_number (is_set n)
set n e = rw (eq-eqb n 1 e)

unset : (n : ℕ) → (n ≡ 1 → ⊥) → 0 ≡ as_number (is_set n)
unset n e = rw (ne_eqb n 1 e)

pub returns-then-again-eq1 : goal.returns-then-again-eq1
returns-then-again-eq1 c = set c.args.again c.if-again-eq1.true

pub returns-else-again-eq1 : goal.returns-else-again-eq1
returns-else-again-eq1 c = unset c.args.again c.if-again-eq1.false
