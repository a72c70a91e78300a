-- Plain decimal numbers: letters 0 to 9, the most significant first, no leading zero ("0" alone is zero).
use Rattle.std.specs.Prelude.{ℕ, zero, suc, ◌+◌, ◌-◌, ◌*◌, ◌/◌, ◌%◌, ◌^◌, ◌≡◌, Bool, true, false, not, cond, List, []}
use Rattle.std.specs.Prelude.{◌∷◌, ◌++◌, length, replicate, ltb, leb, eqb}
use Rattle.text.specs.Letters.{digit_zero, digit_nine, blank}

-- one of the letters 0 to 9
unfoldable pub is_digit : ℕ → Bool
is_digit b = cond (leb digit_zero b) (leb b digit_nine) false

-- each letter is a digit
unfoldable pub all_digits : List ℕ → Bool
all_digits [] = true
all_digits (b ∷ bs) = cond (is_digit b) (all_digits bs) false

-- what the letters are worth: each digit times ten to the number of digits after it
unfoldable pub value : List ℕ → ℕ
value [] = 0
value (b ∷ bs) = (b - digit_zero) * 10 ^ length bs + value bs

-- at least one letter, and no leading zero
unfoldable pub is_plain : List ℕ → Bool
is_plain [] = false
is_plain (b ∷ []) = true
is_plain (b ∷ (c ∷ bs)) = not (eqb b digit_zero)

-- text is n in plain decimal
pub record Decimal (n : ℕ) (text : List ℕ) : Type 0 where
  pub letters : all_digits text ≡ true
  pub plain : is_plain text ≡ true
  pub worth : value text ≡ n

-- the last digit below its tens, in at most steps + 1 digits
unfoldable pub digits_in : ℕ → ℕ → List ℕ
digits_in zero n = (digit_zero + n) ∷ []
digits_in (suc steps) n =
    cond (ltb n 10) ((digit_zero + n) ∷ []) (digits_in steps (n / 10) ++ ((digit_zero + n % 10) ∷ []))

-- n in plain decimal: the one text with Decimal n text (laws digits-decimal, decimal-digits)
unfoldable pub digits : ℕ → List ℕ
digits n = digits_in n n

-- text at the right end of a column, blanks before it
unfoldable pub right_in : ℕ → List ℕ → List ℕ
right_in width text = replicate (width - length text) blank ++ text

-- text at the left end of a column, blanks after it
unfoldable pub left_in : ℕ → List ℕ → List ℕ
left_in width text = text ++ replicate (width - length text) blank
