-- A property of every member of a list.
use mathlib.Core.Path.{◌≡◌, refl, subst⁻¹}
use mathlib.Core.Logic.{◌⊎◌, inl, inr}
use mathlib.Core.List.Memᴰ
use mathlib.Core.List.{List, [], ◌∷◌, ◌++◌, Memᴰ}

-- a record, so that P and l are seen in the type and need not be written
pub record Every {ℓ} {X : Type ℓ} (P : X → Type 0) (l : List X) : Type ℓ where
  pub all : (x : X) → Memᴰ x l → P x

module _ {ℓ} {X : Type ℓ} {P : X → Type 0} where
  pub every_nil : Every P []
  every_nil = record { all = λ x m. absurd (Memᴰ.not-nil m) }

  pub every_cons : {y : X} {t : List X} → P y → Every P t → Every P (y ∷ t)
  every_cons {y} {t} h k = record { all = λ x m. go x (Memᴰ.cases_cons m) }
    where
      go : (x : X) → (x ≡ y) ⊎ Memᴰ x t → P x
      go x (inl e) = subst⁻¹ P e h
      go x (inr m) = k.all x m

  pub every_append : {s t : List X} → Every P s → Every P t → Every P (s ++ t)
  every_append {s} {t} f g = record { all = λ x m. go x (Memᴰ.append_cases s m) }
    where
      go : (x : X) → Memᴰ x s ⊎ Memᴰ x t → P x
      go x (inl h) = f.all x h
      go x (inr h) = g.all x h

  pub every_snoc : {s : List X} {y : X} → Every P s → P y → Every P (s ++ (y ∷ []))
  every_snoc f h = every_append f (every_cons h every_nil)

  pub every_mono : {Q : X → Type 0} {l : List X} → ((x : X) → P x → Q x) → Every P l → Every Q l
  every_mono f g = record { all = λ x m. f x (g.all x m) }

  pub every_head : {y : X} {t : List X} → Every P (y ∷ t) → P y
  every_head {y} f = f.all y (Memᴰ.head refl)

  pub every_tail : {y : X} {t : List X} → Every P (y ∷ t) → Every P t
  every_tail f = record { all = λ x m. f.all x (Memᴰ.tail m) }
