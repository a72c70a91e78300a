use mathlib.Core.Path.{◌≡◌, refl, ◌∙◌}
use mathlib.Core.Bool.{Bool, true, false, cond, ◌&&◌}
use lib.Dec.{leb}
use Rattle.text.specs.Decimal.{is_digit}
use Rattle.text.specs.Letters.{digit_zero, digit_nine}
use Rattle.text.proofs.letters.is_digit.Goals as goal

both : (a b : Bool) → (a && b) ≡ cond a b false
both true b = refl
both false b = refl

pub returns : goal.returns
unfolding is_digit
returns c = c.is_ascii_digit.ensures.value ∙ both (leb digit_zero c.args.b) (leb c.args.b digit_nine)
