-- Small texts by computation; a large number's digits by what they mean.
use Rattle.std.specs.Prelude.{None, Some}
use mathlib.Core.Path.{◌≡◌, refl, sym}
use mathlib.Core.Bool.{false}
use mathlib.Core.List.{[], ◌∷◌}
use Rattle.refusal.specs.Refusal.{ascii}
use Rattle.text.specs.Decimal.{is_digit, all_digits, is_plain, value, digits_in, digits, right_in, left_in}
use Rattle.text.specs.Reading.{digit_run, capped_reading, plain_reading, read_decimal}
use Rattle.text.specs.Hexadecimal.{hex_letter, hex_text, is_hex, all_hex}
use Rattle.text.proofs.Unique.{decimal_digits}

pub record KnownValues : Type 0 where
  pub zero : digits 0 ≡ ascii "0"
  pub fold : digits 510 ≡ ascii "510"
  pub largest : digits 4294967295 ≡ ascii "4294967295"
  pub right : right_in 4 (digits 5) ≡ ascii "   5"
  pub left : left_in 8 (ascii "first") ≡ ascii "first   "
  pub read : read_decimal (ascii "510\t") 0 65535 ≡ Some (510, 3)
  pub leading : read_decimal (ascii "05") 0 65535 ≡ None
  pub above : read_decimal (ascii "510") 0 509 ≡ None
  pub none : read_decimal (ascii "-") 0 9 ≡ None
  pub octets : hex_text (254 ∷ 10 ∷ []) ≡ ascii "fe0a"
  pub upper : all_hex (ascii "0A") ≡ false

pub known_values : KnownValues
unfolding is_digit all_digits is_plain value digits_in digits right_in left_in digit_run capped_reading plain_reading read_decimal hex_letter hex_text is_hex all_hex
known_values =
    record {
      zero = refl;
      fold = refl;
      largest = sym (decimal_digits 4294967295 (ascii "4294967295") (record { letters = refl; plain = refl; worth = refl }));
      right = refl;
      left = refl;
      read = refl;
      leading = refl;
      above = refl;
      none = refl;
      octets = refl;
      upper = refl;
    }
