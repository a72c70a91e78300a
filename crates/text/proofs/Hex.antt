-- Hexadecimal letters and octets, there and back.
use Prim.Native.Nat.{ℕ, zero, suc, ◌+◌, ◌-◌, ◌*◌, ◌/◌, ◌%◌, ◌≤◌, ◌<◌}
use mathlib.Core.Path.{◌≡◌, refl, sym, ap, ◌∙◌}
use mathlib.Core.Bool.{Bool, true, false, cond, ◌&&◌}
use Rattle.std.specs.List.{list_all}
use mathlib.Core.List.{List, [], ◌∷◌}
use native.Mathlib.Omega.{arith}
use native.Mathlib.Nat.{div-lt_iff_lt-mul, mod-lt, div-add-mod', mul-add-div_right, mul-add-mod_self_right, div-eq_of_lt, mod-eq_of_lt}
use lib.ListN.{length, get_or}
use lib.Dec.{ltb, leb}
use borrow.Author.Tests.{ltb-true, ltb-false, leb-true, leb-false, lt-ltb, le-ltb, le-leb, lt-leb}
use Rattle.text.specs.Decimal.{is_digit}
use Rattle.text.specs.Hexadecimal.{hex_letter, hex_text, is_hex, all_hex, hex_value, octets_of}
use Rattle.text.proofs.Digits.{digit_bounds, bounds_digit}
use Rattle.text.specs.Letters.{digit_zero, small_a, small_f}

pub both : (a b : Bool) → cond a b false ≡ true → (a ≡ true) × (b ≡ true)
both true b e = (refl, e)
both false b e = (e, cc)

pub letter_low : (d : ℕ) → d < 10 → hex_letter d ≡ digit_zero + d
unfolding hex_letter
letter_low d h = simp (lt-ltb d 10 h)

pub letter_high : (d : ℕ) → 10 ≤ d → hex_letter d ≡ small_a + (d - 10)
unfolding hex_letter
letter_high d h = simp (le-ltb d 10 h)

pub value_low : (b : ℕ) → b < small_a → hex_value b ≡ b - digit_zero
unfolding hex_value
value_low b h = simp (lt-leb small_a b h)

pub value_high : (b : ℕ) → small_a ≤ b → hex_value b ≡ b - small_a + 10
unfolding hex_value
value_high b h = simp (le-leb small_a b h)

pub hex_low : (b : ℕ) → b < small_a → is_hex b ≡ is_digit b
unfolding is_hex
hex_low b h = simp (lt-leb small_a b h)

pub hex_high : (b : ℕ) → small_a ≤ b → is_hex b ≡ leb b small_f
unfolding is_hex
hex_high b h = simp (le-leb small_a b h)

-- a letter, what it is worth, and back
pub record Letter (b : ℕ) : Type 0 where
  pub below : hex_value b < 16
  pub back : hex_letter (hex_value b) ≡ b

pub letter : (b : ℕ) → is_hex b ≡ true → Letter b
letter b e = go (leb small_a b) refl
  where
    go : (t : Bool) → leb small_a b ≡ t → Letter b
    go true p =
        let h = leb-true small_a b p in
        let l = leb-true b small_f (sym (hex_high b h) ∙ e) in
        let v = value_high b h in
        record { below = omega arith; back = letter_high (hex_value b) (omega arith) ∙ omega arith }
    go false p =
        let h = leb-false small_a b p in
        let l = digit_bounds b (sym (hex_low b h) ∙ e) in
        let v = value_low b h in
        record { below = omega arith; back = letter_low (hex_value b) (omega arith) ∙ omega arith }

pub record Worth (d : ℕ) : Type 0 where
  pub is : is_hex (hex_letter d) ≡ true
  pub back : hex_value (hex_letter d) ≡ d

pub worth : (d : ℕ) → d < 16 → Worth d
worth d h = go (ltb d 10) refl
  where
    go : (t : Bool) → ltb d 10 ≡ t → Worth d
    go true p =
        let l = letter_low d (ltb-true d 10 p) in
        let k = ltb-true d 10 p in
        record {
          is = hex_low (hex_letter d) (omega arith) ∙ bounds_digit (hex_letter d) (omega arith) (omega arith);
          back = value_low (hex_letter d) (omega arith) ∙ omega arith;
        }
    go false p =
        let l = letter_high d (ltb-false d 10 p) in
        let k = ltb-false d 10 p in
        record {
          is = hex_high (hex_letter d) (omega arith) ∙ le-leb (hex_letter d) small_f (omega arith);
          back = value_high (hex_letter d) (omega arith) ∙ omega arith;
        }

pub sixteenth : (b : ℕ) → b < 256 → b / 16 < 16
sixteenth b h = (div-lt_iff_lt-mul {k = 16} {x = b} {y = 16} (omega arith)).1 h

pub rest_sixteen : (b : ℕ) → b % 16 < 16
rest_sixteen b = mod-lt b {m = 16} (omega arith)

pub length_hex : (bs : List ℕ) → length (hex_text bs) ≡ length bs * 2
unfolding hex_text
length_hex [] = omega arith
length_hex (b ∷ bs) = let h = length_hex bs in omega arith

-- written octets are letters, and are read back
pub hex_letters : (bs : List ℕ) → ((i : ℕ) → get_or bs i 0 < 256) → all_hex (hex_text bs) ≡ true
unfolding hex_text all_hex
hex_letters [] h = refl
hex_letters (b ∷ bs) h =
    rw ((worth (b / 16) (sixteenth b (h 0))).is, (worth (b % 16) (rest_sixteen b)).is) (hex_letters bs (λ i. h (suc i)))

pub octets_hex : (bs : List ℕ) → ((i : ℕ) → get_or bs i 0 < 256) → octets_of (hex_text bs) ≡ bs
unfolding hex_text octets_of
octets_hex [] h = refl
octets_hex (b ∷ bs) h =
    rw ((worth (b / 16) (sixteenth b (h 0))).back, (worth (b % 16) (rest_sixteen b)).back, div-add-mod' b 16, octets_hex bs (λ i. h (suc i)))

high_four : (a b : ℕ) → b < 16 → (a * 16 + b) / 16 ≡ a
high_four a b h = mul-add-div_right {m = 16} (omega arith) a b ∙ ap (λ (k : ℕ). a + k) (div-eq_of_lt h) ∙ omega arith

low_four : (a b : ℕ) → b < 16 → (a * 16 + b) % 16 ≡ b
low_four a b h = mul-add-mod_self_right a 16 b ∙ mod-eq_of_lt h

pub hex_cons : (b : ℕ) (bs : List ℕ) → all_hex (b ∷ bs) ≡ true → (is_hex b ≡ true) × (all_hex bs ≡ true)
unfolding all_hex
hex_cons b bs e = both (is_hex b) (all_hex bs) e

pub all_hex_each : (bs : List ℕ) → all_hex bs ≡ list_all is_hex bs
unfolding all_hex
all_hex_each [] = refl
all_hex_each (b ∷ bs) = rw (all_hex_each bs) (go (is_hex b))
  where
    go : (t : Bool) → cond t (list_all is_hex bs) false ≡ (t && list_all is_hex bs)
    go true = refl
    go false = refl

-- accepted letters, an even number of them, are what is written of the octets that they name
pub hex_octets : (n : ℕ) (s : List ℕ) → length s ≡ n * 2 → all_hex s ≡ true → hex_text (octets_of s) ≡ s
unfolding hex_text octets_of
hex_octets n [] l e = refl
hex_octets n (a ∷ []) l e = absurd (none n l)
  where
    none : (n : ℕ) → 1 ≡ n * 2 → ⊥
    none n h = omega arith
hex_octets zero (a ∷ (b ∷ s)) l e = absurd (none (length s) l)
  where
    none : (n : ℕ) → suc (suc n) ≡ 0 * 2 → ⊥
    none n h = omega arith
hex_octets (suc n) (a ∷ (b ∷ s)) l e =
    let p = hex_cons a (b ∷ s) e in
    let q = hex_cons b s p.1 in
    let x = letter a p.0 in
    let y = letter b q.0 in
    rw (high_four (hex_value a) (hex_value b) y.below, low_four (hex_value a) (hex_value b) y.below, x.back, y.back, hex_octets n s (omega arith) q.1)

pub length_octets : (n : ℕ) (s : List ℕ) → length s ≡ n * 2 → length (octets_of s) ≡ n
unfolding octets_of
length_octets n [] l = omega arith
length_octets n (a ∷ []) l = omega arith
length_octets zero (a ∷ (b ∷ s)) l = omega arith
length_octets (suc n) (a ∷ (b ∷ s)) l = let h = length_octets n s (omega arith) in omega arith
