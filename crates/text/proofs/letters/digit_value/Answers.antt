use mathlib.Core.Path.{refl}
use native.Mathlib.Omega.{arith}
use Rattle.text.proofs.Digits.{digit_bounds}
use Rattle.text.proofs.letters.digit_value.Goals as goal

pub overflow_sub-result : goal.overflow_sub-result
overflow_sub-result c = let h = digit_bounds c.args.b c.requires in omega arith

pub returns : goal.returns
returns c = let h = digit_bounds c.args.b c.requires in (refl, omega arith)
