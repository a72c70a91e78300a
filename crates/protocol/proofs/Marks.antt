-- Laws of `lead`, the lowest number not noted, and of `note`; and what a receiver holds of the numbers noted.
use Rattle.std.specs.Prelude.{Option, None, Some}
use mathlib.Core.Path.{◌≡◌, refl, sym, ap, ◌∙◌}
use mathlib.Core.Logic.{◌≢◌}
use mathlib.Core.Bool.{Bool, true, false}
use mathlib.Core.List.{List, [], ◌∷◌, ◌++◌}
use Prim.Native.Nat.{ℕ, zero, suc, ◌+◌, ◌≤◌, ◌<◌, zero-le, suc-le-suc}
use native.Mathlib.Nat.{le_of_suc-le-suc, not-suc-le-zero}
use native.Mathlib.Omega.{arith}
use native.Mathlib.Decide.{dec_lt}
use lib.ListN.{length, get_or, take, drop}
use Rattle.protocol.specs.Runs.{lead}
use Rattle.protocol.specs.Machine.{Chunk, held_run}
use Rattle.protocol.specs.PlainMachine.{note}

-- number n is noted
abbrev pub On : List Bool → ℕ → Type 0
On marks n = get_or marks n false ≡ true

pub false_true : {X : Type 0} → false ≡ true → X
false_true e = let z : ◌≡◌ {A = ℕ} 0 1 = cc in absurd (omega arith)

pub not_on : (b : Bool) → (b ≡ true → ⊥) → b ≡ false
not_on true f = absurd (f refl)
not_on false f = refl

pub lead_below : (l : List Bool) (i : ℕ) → i < lead l → On l i
lead_below [] i h = absurd (not-suc-le-zero h)
lead_below (true ∷ l) zero h = refl
lead_below (true ∷ l) (suc i) h = lead_below l i (le_of_suc-le-suc h)
lead_below (false ∷ l) i h = absurd (not-suc-le-zero h)

pub lead_stop : (l : List Bool) → get_or l (lead l) false ≡ false
lead_stop [] = refl
lead_stop (true ∷ l) = lead_stop l
lead_stop (false ∷ l) = refl

-- no lower number is free
pub lead_least : (l : List Bool) (n : ℕ) → get_or l n false ≡ false → lead l ≤ n
lead_least [] n e = zero-le
lead_least (true ∷ l) zero e = false_true (sym e)
lead_least (true ∷ l) (suc n) e = suc-le-suc (lead_least l n e)
lead_least (false ∷ l) n e = zero-le

-- all below n are noted
pub lead_reaches : (l : List Bool) (n : ℕ) → ((i : ℕ) → i < n → On l i) → n ≤ lead l
lead_reaches l zero f = zero-le
lead_reaches [] (suc n) f = false_true (f 0 (suc-le-suc zero-le))
lead_reaches (true ∷ l) (suc n) f = suc-le-suc (lead_reaches l n (λ i h. f (suc i) (suc-le-suc h)))
lead_reaches (false ∷ l) (suc n) f = false_true (f 0 (suc-le-suc zero-le))

-- what is noted in l is noted in m
pub lead_mono : (l m : List Bool) → ((i : ℕ) → On l i → On m i) → lead l ≤ lead m
lead_mono l m f = lead_reaches m (lead l) (λ i h. f i (lead_below l i h))

pub lead_same : (l m : List Bool) → ((i : ℕ) → get_or l i false ≡ get_or m i false) → lead l ≡ lead m
lead_same l m f =
    let x : lead l ≤ lead m = lead_mono l m (λ i e. sym (f i) ∙ e) in
    let y : lead m ≤ lead l = lead_mono m l (λ i e. f i ∙ e) in
    omega arith

pub lead_below_all : (l : List Bool) (n : ℕ) → ((i : ℕ) → On l i → i < n) → lead l ≤ n
lead_below_all l n f = go (dec_lt n (lead l))
  where
    go : Dec (n < lead l) → lead l ≤ n
    go (yes h) = let x = f n (lead_below l n h) in absurd (omega arith)
    go (no h) = omega arith

pub lead_drop : (k : ℕ) (l : List Bool) → k ≤ lead l → lead l ≡ k + lead (drop k l)
lead_drop zero l h = omega arith
lead_drop (suc k) [] h = absurd (not-suc-le-zero h)
lead_drop (suc k) (true ∷ l) h = let ih = lead_drop k l (le_of_suc-le-suc h) in omega arith
lead_drop (suc k) (false ∷ l) h = absurd (not-suc-le-zero h)

pub note_same : (l : List Bool) (n : ℕ) → On (note l n) n
note_same [] zero = refl
note_same [] (suc n) = note_same [] n
note_same (b ∷ l) zero = refl
note_same (b ∷ l) (suc n) = note_same l n

pub note_other : (l : List Bool) (n i : ℕ) → i ≢ n → get_or (note l n) i false ≡ get_or l i false
note_other [] zero zero h = absurd (h refl)
note_other [] zero (suc i) h = refl
note_other [] (suc n) zero h = refl
note_other [] (suc n) (suc i) h = note_other [] n i (λ e. h (ap suc e))
note_other (b ∷ l) zero zero h = absurd (h refl)
note_other (b ∷ l) zero (suc i) h = refl
note_other (b ∷ l) (suc n) zero h = refl
note_other (b ∷ l) (suc n) (suc i) h = note_other l n i (λ e. h (ap suc e))

pub on_note : (l : List Bool) (n i : ℕ) → On l i → On (note l n) i
on_note [] n i e = false_true e
on_note (b ∷ l) zero zero e = refl
on_note (b ∷ l) zero (suc i) e = e
on_note (b ∷ l) (suc n) zero e = e
on_note (b ∷ l) (suc n) (suc i) e = on_note l n i e

pub note_on : (l : List Bool) (n : ℕ) → On l n → note l n ≡ l
note_on [] n e = false_true e
note_on (b ∷ l) zero e = ap (λ (x : Bool). x ∷ l) (sym e)
note_on (b ∷ l) (suc n) e = ap (λ (x : List Bool). b ∷ x) (note_on l n e)

pub get_d_more : (l : List Bool) (i : ℕ) → get_or (l ++ (false ∷ [])) i false ≡ get_or l i false
get_d_more [] zero = refl
get_d_more [] (suc i) = refl
get_d_more (b ∷ l) zero = refl
get_d_more (b ∷ l) (suc i) = get_d_more l i

-- what the receiver has in the place of a number: its chunk if it is noted
abbrev pub place : Bool → Chunk → Option Chunk
place true c = Some c
place false c = None

pub place_same : (b : Bool) (x y : Chunk) → (b ≡ true → x ≡ y) → place b x ≡ place b y
place_same true x y f = ap Some (f refl)
place_same false x y f = refl

pub run_is : (held : List (Option Chunk)) (m : List Bool) (s : List Chunk)
    → ((i : ℕ) → i < length held → get_or held i None ≡ place (get_or m i false) (get_or s i [])) → lead m ≤ length held → lead m ≤ length s
    → held_run held ≡ take (lead m) s
run_is [] m s f h k = let z : lead m ≡ 0 = omega arith in rw z
run_is (x ∷ held) [] s f h k = rw (f 0 (suc-le-suc zero-le))
run_is (x ∷ held) (false ∷ m) s f h k = rw (f 0 (suc-le-suc zero-le))
run_is (x ∷ held) (true ∷ m) [] f h k = absurd (not-suc-le-zero k)
run_is (x ∷ held) (true ∷ m) (c ∷ s) f h k = rw (f 0 (suc-le-suc zero-le)) (ap (λ (r : List Chunk). c ∷ r)
    (run_is held m s (λ i l. f (suc i) (suc-le-suc l)) (le_of_suc-le-suc h) (le_of_suc-le-suc k)))
