-- Steps of the definitions of decimal text, for the functions' proofs and the laws.
use Prim.Native.Nat.{ℕ, zero, suc, ◌+◌, ◌-◌, ◌*◌, ◌/◌, ◌%◌, ◌^◌, ◌≤◌, ◌<◌}
use mathlib.Core.Path.{◌≡◌, refl, sym, ap, subst, ◌∙◌}
use mathlib.Core.Bool.{Bool, true, false, not, cond}
use mathlib.Core.List.{List, [], ◌∷◌, ◌++◌}
use native.Mathlib.Omega.{arith}
use native.Mathlib.Nat.{div-lt_iff_lt-mul, le-div_iff_mul-le, pow-suc, mod-lt, div-add-mod'}
use native.Mathlib.Numerals.{add-one}
use lib.ListN.{length, length-append}
use lib.Dec.{ltb, leb}
use borrow.Author.Tests.{lt-ltb, le-ltb, le-leb, ltb-true, ltb-false, leb-true, ne_eqb}
use Rattle.text.specs.Decimal.{is_digit, all_digits, value, is_plain, Decimal, digits_in, digits}
use Rattle.text.specs.Letters.{digit_nine, digit_zero}

pub tenth_below : (n k : ℕ) → n < k * 10 → n / 10 < k
tenth_below n k h = (div-lt_iff_lt-mul {k = 10} {x = n} {y = k} (omega arith)).1 h

pub tenth_less : (n : ℕ) → 10 ≤ n → n / 10 < n
tenth_less n h = tenth_below n n (omega arith)

pub low_in : (steps n : ℕ) → n < 10 → digits_in steps n ≡ (digit_zero + n) ∷ []
unfolding digits_in
low_in zero n h = refl
low_in (suc steps) n h = simp (lt-ltb n 10 h)

high_in : (steps n : ℕ) → 10 ≤ n → digits_in (suc steps) n ≡ digits_in steps (n / 10) ++ ((digit_zero + n % 10) ∷ [])
unfolding digits_in
high_in steps n h = simp (le-ltb n 10 h)

enough_step : (a b n : ℕ) → n ≤ suc a → n ≤ suc b → (n / 10 ≤ a → n / 10 ≤ b → digits_in a (n / 10) ≡ digits_in b (n / 10))
    → (t : Bool) → ltb n 10 ≡ t → digits_in (suc a) n ≡ digits_in (suc b) n
enough_step a b n p q f true e = low_in (suc a) n (ltb-true n 10 e) ∙ sym (low_in (suc b) n (ltb-true n 10 e))
enough_step a b n p q f false e =
    let h = ltb-false n 10 e in
    let l = tenth_less n h in
    high_in a n h ∙ ap (λ (x : List ℕ). x ++ ((digit_zero + n % 10) ∷ [])) (f (omega arith) (omega arith)) ∙ sym (high_in b n h)

-- more steps than the number change nothing
enough : (a b n : ℕ) → n ≤ a → n ≤ b → digits_in a n ≡ digits_in b n
enough zero b n p q = low_in zero n (omega arith) ∙ sym (low_in b n (omega arith))
enough (suc a) zero n p q = low_in (suc a) n (omega arith) ∙ sym (low_in zero n (omega arith))
enough (suc a) (suc b) n p q = enough_step a b n p q (enough a b (n / 10)) (ltb n 10) refl

pub digits_low : (n : ℕ) → n < 10 → digits n ≡ (digit_zero + n) ∷ []
unfolding digits
digits_low n h = low_in n n h

below_none : (n : ℕ) → n < 0 → ⊥
below_none n h = omega arith

none : 10 ≤ 0 → ⊥
none h = omega arith

pub digits_high : (n : ℕ) → 10 ≤ n → digits n ≡ digits (n / 10) ++ ((digit_zero + n % 10) ∷ [])
unfolding digits
digits_high zero h = absurd (none h)
digits_high (suc m) h =
    high_in m (suc m) h ∙ ap (λ (x : List ℕ). x ++ ((digit_zero + suc m % 10) ∷ [])) (enough m (suc m / 10) (suc m / 10) (let l = tenth_less (suc m) h in omega arith) (omega arith))

-- at least one digit, and one more than the tenth has
pub length_high : (n : ℕ) → 10 ≤ n → length (digits n) ≡ length (digits (n / 10)) + 1
length_high n h = ap length (digits_high n h) ∙ length-append (digits (n / 10)) ((digit_zero + n % 10) ∷ [])

pub length_low : (n : ℕ) → n < 10 → length (digits n) ≡ 1
length_low n h = ap length (digits_low n h)

length_step : (k n : ℕ) → n < 10 ^ suc (suc k) → (n / 10 < 10 ^ suc k → length (digits (n / 10)) ≤ suc k)
    → (t : Bool) → ltb n 10 ≡ t → length (digits n) ≤ suc (suc k)
length_step k n h f true e = let l = length_low n (ltb-true n 10 e) in omega arith
length_step k n h f false e =
    let l = length_high n (ltb-false n 10 e) in
    let m = f (tenth_below n (10 ^ suc k) (rw pow-suc at h)) in omega arith

pub digits_length : (k n : ℕ) → n < 10 ^ suc k → length (digits n) ≤ suc k
digits_length zero n h = let l = length_low n h in omega arith
digits_length (suc k) n h = length_step k n h (digits_length k (n / 10)) (ltb n 10) refl

-- a digit and its bounds
both : (a b : Bool) → cond a b false ≡ true → (a ≡ true) × (b ≡ true)
both true b e = (refl, e)
both false b e = (e, cc)

pub digit_bounds : (b : ℕ) → is_digit b ≡ true → (digit_zero ≤ b) × (b ≤ digit_nine)
unfolding is_digit
digit_bounds b e = let h = both (leb digit_zero b) (leb b digit_nine) e in (leb-true digit_zero b h.0, leb-true b digit_nine h.1)

pub bounds_digit : (b : ℕ) → digit_zero ≤ b → b ≤ digit_nine → is_digit b ≡ true
unfolding is_digit
bounds_digit b p q = simp (le-leb digit_zero b p, le-leb b digit_nine q)

pub all_cons : (b : ℕ) (bs : List ℕ) → all_digits (b ∷ bs) ≡ true → (is_digit b ≡ true) × (all_digits bs ≡ true)
unfolding all_digits
all_cons b bs e = both (is_digit b) (all_digits bs) e

all_append : (xs ys : List ℕ) → all_digits xs ≡ true → all_digits ys ≡ true → all_digits (xs ++ ys) ≡ true
unfolding all_digits
all_append [] ys p q = q
all_append (x ∷ xs) ys p q = let h = all_cons x xs p in rw h.0 (all_append xs ys h.1 q)

-- the value of one more digit
horner : (a p v d : ℕ) → a * (p * 10) + (v * 10 + d) ≡ (a * p + v) * 10 + d
horner a p v d = omega arith

pub power_more : (k : ℕ) → 10 ^ (k + 1) ≡ 10 ^ k * 10
power_more k = rw add-one (pow-suc 10 k)

value_snoc : (xs : List ℕ) (b : ℕ) → value (xs ++ (b ∷ [])) ≡ value xs * 10 + (b - digit_zero)
unfolding value
value_snoc [] b = omega arith
value_snoc (x ∷ xs) b =
    rw (length-append xs (b ∷ []), power_more (length xs), value_snoc xs b) (horner (x - digit_zero) (10 ^ length xs) (value xs) (b - digit_zero))

plain_snoc : (xs : List ℕ) (b : ℕ) → is_plain xs ≡ true → 0 < value xs → is_plain (xs ++ (b ∷ [])) ≡ true
unfolding is_plain value
plain_snoc [] b p h = cc
plain_snoc (x ∷ []) b p h = ap not (ne_eqb x digit_zero (λ e. omega arith))
plain_snoc (x ∷ (y ∷ xs)) b p h = p

-- a number of at least 1 and a last digit
decimal_snoc : (m d : ℕ) (xs : List ℕ) → 0 < m → d < 10 → Decimal m xs → Decimal (m * 10 + d) (xs ++ ((digit_zero + d) ∷ []))
unfolding all_digits
decimal_snoc m d xs p h k =
    record {
      letters = all_append xs ((digit_zero + d) ∷ []) k.letters (rw (bounds_digit (digit_zero + d) (omega arith) (omega arith)));
      plain = plain_snoc xs (digit_zero + d) k.plain (rw k.worth p);
      worth = value_snoc xs (digit_zero + d) ∙ rw k.worth (omega arith);
    }

decimal_one : (n : ℕ) → n < 10 → Decimal n ((digit_zero + n) ∷ [])
unfolding all_digits is_plain value
decimal_one n h = record { letters = rw (bounds_digit (digit_zero + n) (omega arith) (omega arith)); plain = refl; worth = omega arith }

tenth_positive : (n : ℕ) → 10 ≤ n → 0 < n / 10
tenth_positive n h = (le-div_iff_mul-le {k = 10} {x = 1} {y = n} (omega arith)).1 h

digits_step : (n : ℕ) → (n / 10 < n → Decimal (n / 10) (digits (n / 10))) → (t : Bool) → ltb n 10 ≡ t → Decimal n (digits n)
digits_step n f true e = let h = ltb-true n 10 e in rw (digits_low n h) (decimal_one n h)
digits_step n f false e =
    let h = ltb-false n 10 e in
    rw (digits_high n h)
    (subst (λ (m : ℕ). Decimal m (digits (n / 10) ++ ((digit_zero + n % 10) ∷ []))) (div-add-mod' n 10)
    (decimal_snoc (n / 10) (n % 10) (digits (n / 10)) (tenth_positive n h) (mod-lt n {m = 10} (omega arith)) (f (tenth_less n h))))

digits_up_to : (bound n : ℕ) → n < bound → Decimal n (digits n)
digits_up_to zero n h = absurd (below_none n h)
digits_up_to (suc bound) n h = digits_step n (λ l. digits_up_to bound (n / 10) (omega arith)) (ltb n 10) refl

-- the digits of n are n in plain decimal
pub digits_decimal : (n : ℕ) → Decimal n (digits n)
digits_decimal n = digits_up_to (suc n) n (omega arith)

pub digits_some : (n : ℕ) → 1 ≤ length (digits n)
digits_some n = go (ltb n 10) refl
  where
    go : (t : Bool) → ltb n 10 ≡ t → 1 ≤ length (digits n)
    go true e = let l = length_low n (ltb-true n 10 e) in omega arith
    go false e = let l = length_high n (ltb-false n 10 e) in omega arith
