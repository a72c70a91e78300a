use Rattle.std.specs.Prelude.{None, Some}
use Prim.Native.Nat.{ℕ, ◌+◌, ◌≤◌, ◌<◌}
use mathlib.Core.Path.{◌≡◌, sym, ◌∙◌}
use mathlib.Core.List.{List}
use native.Mathlib.Omega.{arith}
use lib.ListN.{length, get_or}
use borrow.Author.Tests.{lt-ltb, le-ltb, eq-eqb, ne_eqb}
use Rattle.text.specs.Reading.{read_decimal}
use Rattle.text.specs.Field.{followed, read_field}
use Rattle.text.proofs.read_field.Goals as goal

module _ (s : List ℕ) (at max letter : ℕ) where
  no_number : read_decimal s at max ≡ None → None ≡ read_field s at max letter
  unfolding read_field followed
  no_number q = rw q

  module _ {n next : ℕ} (q : read_decimal s at max ≡ Some (n, next)) where
    ends : length s ≤ next → None ≡ read_field s at max letter
    unfolding read_field followed
    ends h = rw (q, le-ltb next (length s) h)

    other : next < length s → (get_or s next 0 ≡ letter → ⊥) → None ≡ read_field s at max letter
    unfolding read_field followed
    other h g = rw (q, lt-ltb next (length s) h, ne_eqb (get_or s next 0) letter g)

    same : next < length s → get_or s next 0 ≡ letter → Some (n, next + 1) ≡ read_field s at max letter
    unfolding read_field followed
    same h g = rw (q, lt-ltb next (length s) h, eq-eqb (get_or s next 0) letter g)

pub returns-in_err-n : goal.returns-in_err-n
returns-in_err-n c = let a = c.args in
    rw c.from_residual.ensures (no_number a.s.now a.at a.max a.letter (sym c.read_decimal.ensures ∙ c.in_err-n.was))

pub returns-then-s-next : goal.returns-then-s-next
returns-then-s-next c = let a = c.args in
    ends a.s.now a.at a.max a.letter (sym c.read_decimal.ensures ∙ c.in_ok-n.was) (omega arith)

pub returns-then-b-letter : goal.returns-then-b-letter
returns-then-b-letter c = let a = c.args in
    other a.s.now a.at a.max a.letter (sym c.read_decimal.ensures ∙ c.in_ok-n.was) (omega arith) c.if-b-letter.true

pub returns : goal.returns
returns c = let a = c.args in
    same a.s.now a.at a.max a.letter (sym c.read_decimal.ensures ∙ c.in_ok-n.was) (omega arith) (omega arith)
