-- A field is read exactly where the writer's field stands.
use Rattle.std.specs.Prelude.{None, Option, Some}
use Prim.Native.Nat.{ℕ, ◌+◌, ◌≤◌, ◌<◌}
use mathlib.Core.Path.{◌≡◌, refl, sym, ap, ◌∙◌}
use mathlib.Core.Bool.{Bool, true, false, cond}
use mathlib.Core.List.{List, [], ◌∷◌, ◌++◌, append_assoc}
use native.Mathlib.Omega.{arith}
use native.Mathlib.Numerals.{add-one}
use lib.ListN.{length, drop, get_or, length-append, length-drop}
use lib.Seq.{drop-cons, drop-drop, drop-append_seam}
use lib.Dec.{ltb, eqb}
use borrow.Author.Tests.{ltb-true, eqb-true, lt-ltb, eq-eqb}
use Rattle.std.proofs.lemmas.Option.{some_pair_parts}
use Rattle.text.specs.Decimal.{digits}
use Rattle.text.specs.Reading.{read_decimal}
use Rattle.text.proofs.Numbers.{Accepted, read_accepted, read_digits, stops_at}
use Rattle.text.specs.Field.{field, followed, read_field}
use Rattle.text.specs.Letters.{digit_zero}

pub record FieldAt (s : List ℕ) (at max letter n next : ℕ) : Type 0 where
  pub bound : n ≤ max
  pub after : next ≡ at + length (field n letter)
  pub text : drop at s ≡ field n letter ++ drop next s

none : {n next : ℕ} → ◌≡◌ {A = Option (ℕ × ℕ)} None (Some (n, next)) → ⊥
none e = let z : ◌≡◌ {A = ℕ} 0 1 = cc in omega arith

module _ (s : List ℕ) (at max letter n next : ℕ) where
  at_letter : (m k : ℕ) → Accepted s at max m k → k < length s → get_or s k 0 ≡ letter → ◌≡◌ {A = Option (ℕ × ℕ)} (Some (m, k + 1)) (Some (n, next)) → FieldAt s at max letter n next
  unfolding field
  at_letter m k a h g e =
      let q = some_pair_parts m n (k + 1) next e in
      let m' = q.0 in
      let k' = q.1 in
      let l = length-append (digits m) (letter ∷ []) in
      let f = a.after in
      let d : drop k s ≡ letter ∷ drop (k + 1) s = drop-cons s k 0 h ∙ rw (g, add-one) in
      record {
        bound = rw (← m') a.bound;
        after = rw (← m') (omega arith);
        text = a.text ∙ rw (d, ← m', ← k', append_assoc (digits m) (letter ∷ []) (drop (k + 1) s));
      }

  letter_test : (m k : ℕ) → Accepted s at max m k → k < length s → (t : Bool) → eqb (get_or s k 0) letter ≡ t
      → cond {A = Option (ℕ × ℕ)} t (Some (m, k + 1)) None ≡ Some (n, next) → FieldAt s at max letter n next
  letter_test m k a h true g e = at_letter m k a h (eqb-true (get_or s k 0) letter g) e
  letter_test m k a h false g e = absurd (none e)

  length_test : (m k : ℕ) → Accepted s at max m k → (t : Bool) → ltb k (length s) ≡ t
      → cond {A = Option (ℕ × ℕ)} t (cond {A = Option (ℕ × ℕ)} (eqb (get_or s k 0) letter) (Some (m, k + 1)) None) None ≡ Some (n, next) → FieldAt s at max letter n next
  length_test m k a true h e = letter_test m k a (ltb-true k (length s) h) (eqb (get_or s k 0) letter) refl e
  length_test m k a false h e = absurd (none e)

  by_reading_lem : (r : Option (ℕ × ℕ)) → read_decimal s at max ≡ r → followed s letter r ≡ Some (n, next) → FieldAt s at max letter n next
  unfolding followed
  by_reading_lem (Some (m, k)) q e = length_test m k (read_accepted s at max m k q) (ltb k (length s)) refl e
  by_reading_lem None q e = absurd (none e)

  -- an accepted field is the writer's
  pub field_accepted : read_field s at max letter ≡ Some (n, next) → FieldAt s at max letter n next
  unfolding read_field
  field_accepted e = by_reading_lem (read_decimal s at max) refl e

-- and the writer's field is accepted, unless the letter is a digit
pub field_read : (s : List ℕ) (at max letter n : ℕ) (rest : List ℕ) → letter < digit_zero → n ≤ max → drop at s ≡ field n letter ++ rest
    → read_field s at max letter ≡ Some (n, at + length (field n letter))
unfolding read_field followed field
field_read s at max letter n rest l h e =
    let d : drop at s ≡ digits n ++ (letter ∷ rest) = e ∙ append_assoc (digits n) (letter ∷ []) rest in
    let r = read_digits s at max n (letter ∷ rest) d (stops_at letter rest l) h in
    let k = length-append (digits n) (letter ∷ []) in
    let f : drop (at + length (digits n)) s ≡ letter ∷ rest =
    sym (drop-drop (length (digits n)) at s) ∙ ap (drop (length (digits n))) d ∙ drop-append_seam (digits n) (letter ∷ rest) in
    let i : at + length (digits n) < length s = let q = ap length f in omega (arith, simp length-drop at q) in
    let g : get_or s (at + length (digits n)) 0 ≡ letter = ap (λ (x : List ℕ). get_or x 0 0) (sym (drop-cons s (at + length (digits n)) 0 i) ∙ f) in
    rw (r, lt-ltb (at + length (digits n)) (length s) i, eq-eqb (get_or s (at + length (digits n)) 0) letter g) (ap ((λ x. Some (n, x))) (let z : at + length (digits n) + 1 ≡ at + length (digits n ++ (letter ∷ [])) = omega arith in z))
