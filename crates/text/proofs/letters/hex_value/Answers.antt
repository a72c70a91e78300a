use mathlib.Core.Path.{sym, ◌∙◌}
use native.Mathlib.Omega.{arith}
use Rattle.text.proofs.Digits.{digit_bounds}
use Rattle.text.proofs.Hex.{letter, value_low, value_high, hex_low}
use Rattle.text.proofs.letters.hex_value.Goals as goal

pub overflow_sub-result : goal.overflow_sub-result
overflow_sub-result c = let b = c.args.b in
    let h = digit_bounds b (sym (hex_low b (omega arith)) ∙ c.requires) in omega arith

pub returns-then-b-lt97 : goal.returns-then-b-lt97
returns-then-b-lt97 c = let b = c.args.b in
    let v = value_low b (omega arith) in
    let h = (letter b c.requires).below in (sym v, omega arith)

pub returns : goal.returns
returns c = let b = c.args.b in
    let v = value_high b (omega arith) in
    let h = (letter b c.requires).below in (omega arith, omega arith)
