use mathlib.Core.Path.{sym}
use native.Mathlib.Omega.{arith}
use Rattle.text.proofs.Hex.{letter_low, letter_high}
use Rattle.text.proofs.letters.hex_letter.Goals as goal

pub returns-then-d-lt10 : goal.returns-then-d-lt10
returns-then-d-lt10 c = sym (letter_low c.args.d (omega arith))

pub returns-else-d-lt10 : goal.returns-else-d-lt10
returns-else-d-lt10 c = let v = letter_high c.args.d (omega arith) in omega arith
