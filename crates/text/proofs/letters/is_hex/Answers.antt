use mathlib.Core.Path.{sym, ◌∙◌}
use native.Mathlib.Omega.{arith}
use Rattle.text.proofs.Hex.{hex_low, hex_high}
use Rattle.text.proofs.letters.is_hex.Goals as goal

pub returns-then-b-lt97 : goal.returns-then-b-lt97
returns-then-b-lt97 c = c.is_digit.ensures ∙ sym (hex_low c.args.b (omega arith))

pub returns : goal.returns
returns c = sym (hex_high c.args.b (omega arith))
