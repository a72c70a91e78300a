use Rattle.std.specs.Prelude.{None}
use Prim.Native.Nat.{ℕ}
use mathlib.Core.Path.{◌≡◌, sym, ◌∙◌}
use mathlib.Core.Bool.{true, false}
use mathlib.Core.List.{List}
use Rattle.text.specs.Reading.{digit_run, capped_reading, plain_reading, read_decimal}
use lib.ListN.{drop}
use Rattle.text.specs.Decimal.{is_plain}
use Rattle.text.proofs.read_decimal.Goals as goal

module _ (s : List ℕ) (at max : ℕ) where
  plain : is_plain (digit_run (drop at s)) ≡ true → capped_reading max (digit_run (drop at s)) at ≡ read_decimal s at max
  unfolding read_decimal plain_reading
  plain e = rw e

  other : is_plain (digit_run (drop at s)) ≡ false → None ≡ read_decimal s at max
  unfolding read_decimal plain_reading
  other e = rw e

pub returns-then-starts_plain : goal.returns-then-starts_plain
returns-then-starts_plain c = let a = c.args in
    c.read_run.ensures ∙ plain a.s.now a.at a.max (sym c.starts_plain.ensures ∙ c.if-starts_plain.true)

pub returns : goal.returns
returns c = let a = c.args in
    other a.s.now a.at a.max (sym c.starts_plain.ensures ∙ c.if-starts_plain.false)
