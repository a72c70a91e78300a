-- Lists of numbers: what is left of a prefix, and a prefix that moves up or down by one.
use Rattle.std.proofs.Common.{◌≡◌, ℕ, zero, suc, ◌+◌, ◌-◌, ◌<◌, ◌≤◌, List, [], ◌∷◌, ◌++◌, length, get_or, take, drop, set, sym, refl, ap, ◌∙◌, subst, ap₂, append_assoc, le_refl, le_of_suc-le-suc, not-suc-le-zero, le_of_lt, add-one, arith, length-set, drop_of_length-le, length-take-le, drop-cons, get_or-take, take-suc, get_or-set_same, drop-set-lt}
use lib.Seq.{take-set-le}

-- ---- the first n, from i on
abbrev pub rest : ℕ → ℕ → List ℕ → List ℕ
rest n i xs = drop i (take n xs)

pub rest_cons : (n i : ℕ) (xs : List ℕ) → i < n → n ≤ length xs → rest n i xs ≡ get_or xs i 0 ∷ rest n (i + 1) xs
rest_cons n i xs h l =
    drop-cons (take n xs) i 0 (subst (λ (k : ℕ). i < k) (sym (length-take-le n xs l)) h)
    ∙ ap₂ (λ (a : ℕ) (t : List ℕ). a ∷ t) (get_or-take n xs i 0 h) (ap (λ (k : ℕ). drop k (take n xs)) (sym (add-one i)))

pub rest_nil : (n i : ℕ) (xs : List ℕ) → n ≤ i → n ≤ length xs → rest n i xs ≡ []
rest_nil n i xs h l = drop_of_length-le (take n xs) (subst (λ (k : ℕ). k ≤ i) (sym (length-take-le n xs l)) h)

-- ---- the first i move up by one, and v comes first
unfoldable pub moved_up : ℕ → ℕ → List ℕ → List ℕ
moved_up v zero xs = set xs zero v
moved_up v (suc i) xs = moved_up v i (set xs (suc i) (get_or xs i 0))

pub up_step : (v i : ℕ) (xs : List ℕ) → 0 < i → moved_up v (i - 1) (set xs (i - 1 + 1) (get_or xs (i - 1) 0)) ≡ moved_up v i xs
unfolding moved_up
up_step v zero xs h = absurd (omega arith)
up_step v (suc i) xs h = let p : suc i - 1 ≡ i = omega arith in ap (λ (k : ℕ). moved_up v k (set xs (k + 1) (get_or xs k 0))) p ∙ ap (λ (k : ℕ). moved_up v i (set xs k (get_or xs i 0))) (add-one i)

pub up_end : (v i : ℕ) (xs : List ℕ) → i ≤ 0 → set xs 0 v ≡ moved_up v i xs
unfolding moved_up
up_end v zero xs h = refl
up_end v (suc i) xs h = absurd (omega arith)

set_drop : (xs : List ℕ) (j a : ℕ) → j < length xs → drop j (set xs j a) ≡ a ∷ drop (suc j) xs
set_drop xs j a h =
    drop-cons (set xs j a) j 0 (subst (λ (k : ℕ). j < k) (sym (length-set xs j a)) h)
    ∙ ap₂ (λ (x : ℕ) (t : List ℕ). x ∷ t) (get_or-set_same xs j a 0 h) (drop-set-lt (suc j) xs j a (le_refl (suc j)))

snoc : (xs ys : List ℕ) (a : ℕ) → (xs ++ a ∷ []) ++ ys ≡ xs ++ a ∷ ys
snoc xs ys a = append_assoc xs (a ∷ []) ys

pub up_is : (v i : ℕ) (xs : List ℕ) → i < length xs → moved_up v i xs ≡ v ∷ (take i xs ++ drop (suc i) xs)
unfolding moved_up
up_is v zero [] h = absurd (not-suc-le-zero h)
up_is v zero (x ∷ xs) h = refl
up_is v (suc i) xs h =
    let a = get_or xs i 0 in
    let ys = set xs (suc i) a in
    let l : i < length xs = le_of_lt h in
    up_is v i ys (subst (λ (k : ℕ). i < k) (sym (length-set xs (suc i) a)) l)
    ∙ ap₂ (λ (p q : List ℕ). v ∷ (p ++ q)) (take-set-le i xs (suc i) a (le_of_lt (le_refl (suc i)))) (set_drop xs (suc i) a h)
    ∙ ap (λ (p : List ℕ). v ∷ p) (sym (snoc (take i xs) (drop (suc (suc i)) xs) a) ∙ ap (λ (p : List ℕ). p ++ drop (suc (suc i)) xs) (sym (take-suc xs i 0 l)))

-- ---- m more move down by one, to i and on, and a 0 comes last
unfoldable pub moved_down : ℕ → ℕ → List ℕ → List ℕ
moved_down zero i xs = set xs i 0
moved_down (suc m) i xs = moved_down m (suc i) (set xs i (get_or xs (suc i) 0))

pub down_step : (n i : ℕ) (xs : List ℕ) → 1 ≤ i → i < n → moved_down (n - (i + 1)) (i + 1 - 1) (set xs (i - 1) (get_or xs i 0)) ≡ moved_down (n - i) (i - 1) xs
unfolding moved_down
down_step n i xs p h = go (n - i) (n - (i + 1)) (i - 1) (i + 1 - 1) i (omega arith) (omega arith) (omega arith)
  where
    go : (m m' j j' k : ℕ) → suc m' ≡ m → suc j ≡ j' → suc j ≡ k → moved_down m' j' (set xs j (get_or xs k 0)) ≡ moved_down m j xs
    go m m' j j' k e f g = rw (← e, ← f, ← g)

pub down_end : (n i : ℕ) (xs : List ℕ) → i ≤ n → n ≤ i → set xs (n - 1) 0 ≡ moved_down (n - i) (i - 1) xs
unfolding moved_down
down_end n i xs h k = go (n - i) (i - 1) (n - 1) (omega arith) (omega arith)
  where
    go : (m j l : ℕ) → m ≡ 0 → l ≡ j → set xs l 0 ≡ moved_down m j xs
    go m j l e f = rw (e, f)

down_cons : (m i x : ℕ) (xs : List ℕ) → moved_down m (suc i) (x ∷ xs) ≡ x ∷ moved_down m i xs
unfolding moved_down
down_cons zero i x xs = refl
down_cons (suc m) i x xs = down_cons m (suc i) x (set xs i (get_or xs (suc i) 0))

down_first : (m x : ℕ) (xs : List ℕ) → m ≤ length xs → moved_down m 0 (x ∷ xs) ≡ take m xs ++ 0 ∷ drop m xs
unfolding moved_down
down_first zero x xs h = refl
down_first (suc m) x [] h = absurd (not-suc-le-zero h)
down_first (suc m) x (y ∷ xs) h = down_cons m 0 y (y ∷ xs) ∙ ap (λ (t : List ℕ). y ∷ t) (down_first m y xs (le_of_suc-le-suc h))

pub down_is : (n : ℕ) (xs : List ℕ) → 0 < n → n ≤ length xs → moved_down (n - 1) (1 - 1) xs ≡ drop 1 (take n xs) ++ (0 ∷ drop n xs)
down_is zero xs p h = absurd (not-suc-le-zero p)
down_is (suc n) [] p h = absurd (not-suc-le-zero h)
down_is (suc n) (x ∷ xs) p h = let e : suc n - 1 ≡ n = omega arith in ap (λ (m : ℕ). moved_down m 0 (x ∷ xs)) e ∙ down_first n x xs (le_of_suc-le-suc h)
