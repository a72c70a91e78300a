-- Numbers outstanding at a sender, and numbers that come to a receiver in order.
use mathlib.Core.Path.{◌≡◌, refl, sym, ap, ◌∙◌}
use mathlib.Core.Logic.{◌⊎◌, inl, inr}
use mathlib.Core.Bool.{Bool, true, false, cond, not, and-eq-true_iff}
use mathlib.Core.List.Memᴰ
use mathlib.Core.List.{List, [], ◌∷◌, ◌++◌, Memᴰ}
use Prim.Native.Nat.{ℕ, zero, suc, ◌+◌, ◌≤◌, ◌<◌}
use native.Mathlib.Omega.{arith}
use native.Mathlib.Decide.{ℕ_discrete}
use lib.ListN.{get_or}
use lib.Dec.{leb, ltb, eqb}
use borrow.Author.Tests.{leb-true, ltb-true, eqb-true, eqb-false, ne_eqb}
use Rattle.protocol.specs.Runs.{up_from}
use Rattle.protocol.specs.Machine.{SenderState, next_number, is_in_window, is_acknowledged}
use Rattle.protocol.specs.PlainMachine.{not_noted}
use Rattle.protocol.specs.Trace.{is_outstanding, outstanding_of}
use Rattle.protocol.proofs.Every.{Every, every_nil, every_cons, every_mono}
use Rattle.protocol.proofs.Marks.{false_true}

-- ---- k numbers from n on

pub up_has : (n k i : ℕ) → n ≤ i → i < n + k → Memᴰ i (up_from n k)
up_has n zero i l h = absurd (omega arith)
up_has n (suc k) i l h = elim (ℕ_discrete i n) [
  | yes e ↦ Memᴰ.head e
  | no e ↦ Memᴰ.tail (up_has (suc n) k i (omega arith) (omega arith))
]

pub up_below : (n k : ℕ) → Every (λ i. i < n + k) (up_from n k)
up_below n zero = every_nil
up_below n (suc k) = every_cons (omega arith) (every_mono (λ i l. omega arith) (up_below (suc n) k))

-- ---- an outstanding number lies in the window

pub record InWindow (s : SenderState) (n : ℕ) : Type 0 where
  pub from_base : s.base ≤ n
  pub below_next : n < next_number s

pub in_window : (s : SenderState) (n : ℕ) → is_outstanding s n ≡ true → InWindow s n
in_window s n e =
    let x = (and-eq-true_iff (leb s.base n) (ltb n (next_number s))).0 ((and-eq-true_iff (is_in_window s n) (not (is_acknowledged s n))).0 e).0 in
    record { from_base = leb-true s.base n x.0; below_next = ltb-true n (next_number s) x.1 }

-- ---- those of some numbers that are outstanding

pub kept_has : (s : SenderState) (ns : List ℕ) (n : ℕ) → Memᴰ n ns → is_outstanding s n ≡ true → Memᴰ n (outstanding_of s ns)
kept_has s [] n m e = absurd (Memᴰ.not-nil m)
kept_has s (k ∷ ns) n m e = go (λ y. kept_has s ns n y e) (is_outstanding s k) refl (Memᴰ.cases_cons m)
  where
    go : (Memᴰ n ns → Memᴰ n (outstanding_of s ns)) → (b : Bool) → is_outstanding s k ≡ b → (n ≡ k) ⊎ Memᴰ n ns
        → Memᴰ n (outstanding_of s (k ∷ ns))
    go f true x (inl y) = rw x (Memᴰ.head y)
    go f true x (inr y) = rw x (Memᴰ.tail (f y))
    go f false x (inl y) = false_true (sym x ∙ ap (is_outstanding s) (sym y) ∙ e)
    go f false x (inr y) = rw x (f y)

pub kept_are : (s : SenderState) (ns : List ℕ) → Every (λ n. is_outstanding s n ≡ true) (outstanding_of s ns)
kept_are s [] = every_nil
kept_are s (n ∷ ns) = go (kept_are s ns) (is_outstanding s n) refl
  where
    go : Every (λ n. is_outstanding s n ≡ true) (outstanding_of s ns) → (b : Bool) → is_outstanding s n ≡ b
        → Every (λ n. is_outstanding s n ≡ true) (outstanding_of s (n ∷ ns))
    go f true x = rw x (every_cons x f)
    go f false x = rw x f

-- they are those not noted in some marks
pub kept_is : (s : SenderState) (marks : List Bool) (n k : ℕ) → ((i : ℕ) → n ≤ i → i < n + k → is_outstanding s i ≡ not (get_or marks i false))
    → outstanding_of s (up_from n k) ≡ not_noted marks (up_from n k)
kept_is s marks n zero f = refl
kept_is s marks n (suc k) f = go (get_or marks n false) refl (kept_is s marks (suc n) k (λ i l m. f i (omega arith) (omega arith)))
  where
    go : (b : Bool) → get_or marks n false ≡ b → outstanding_of s (up_from (suc n) k) ≡ not_noted marks (up_from (suc n) k)
        → outstanding_of s (up_from n (suc k)) ≡ not_noted marks (up_from n (suc k))
    go true e r = let x : is_outstanding s n ≡ false = f n (omega arith) (omega arith) ∙ ap not e in rw (x, e) r
    go false e r = let x : is_outstanding s n ≡ true = f n (omega arith) (omega arith) ∙ ap not e in rw (x, e) (ap (λ (l : List ℕ). n ∷ l) r)

-- ---- numbers in order

-- what is expected after number n, when d was
abbrev pub expected_after : ℕ → ℕ → ℕ
expected_after d n = cond (eqb n d) (d + 1) d

-- a receiver that expects d and takes numbers in order is brought to e by them, and is handed none too early
abbrev pub Ordered : ℕ → List ℕ → ℕ → Type 0
Ordered d [] e = e ≤ d
Ordered d (n ∷ ns) e = (n ≤ d) × Ordered (expected_after d n) ns e

expected_up : (d n k : ℕ) → k < d → k < expected_after d n
expected_up d n k l = go (eqb n d)
  where
    go : (b : Bool) → k < cond b (d + 1) d
    go true = omega arith
    go false = l

pub ordered_up : (d n k e : ℕ) → n ≤ d → d ≤ e → n + k ≡ e → Ordered d (up_from n k) e
ordered_up d n zero e l m x = omega arith
ordered_up d n (suc k) e l m x = (l, go (λ d' l' m'. ordered_up d' (suc n) k e l' m' (omega arith)) (eqb n d) refl)
  where
    go : ((d' : ℕ) → suc n ≤ d' → d' ≤ e → Ordered d' (up_from (suc n) k) e) → (b : Bool) → eqb n d ≡ b → Ordered (expected_after d n) (up_from (suc n) k) e
    go f true y = let z : n ≡ d = eqb-true n d y in rw y (f (d + 1) (omega arith) (omega arith))
    go f false y = let z : n ≡ d → ⊥ = eqb-false n d y in rw y (f d (omega arith) m)

-- without those that aren't outstanding, if they lie below d
ordered_kept : (s : SenderState) (d e : ℕ) (ns : List ℕ) → ((n : ℕ) → Memᴰ n ns → is_outstanding s n ≡ false → n < d)
    → Ordered d ns e → Ordered d (outstanding_of s ns) e
ordered_kept s d e [] f o = o
ordered_kept s d e (n ∷ ns) f o =
    go (ordered_kept s (expected_after d n) e ns (λ k m x. expected_up d n k (f k (Memᴰ.tail m) x)) o.1) (is_outstanding s n) refl
  where
    go : Ordered (expected_after d n) (outstanding_of s ns) e → (b : Bool) → is_outstanding s n ≡ b → Ordered d (outstanding_of s (n ∷ ns)) e
    go r true x = rw x (o.0, r)
    go r false x =
        let l : n < d = f n (Memᴰ.head refl) x in
        let y : eqb n d ≡ false = ne_eqb n d (λ (z : n ≡ d). omega arith) in
        rw x (rw y at r)

pub ordered_rest : (s : SenderState) (d e : ℕ) (ks ns : List ℕ) → ((n : ℕ) → Memᴰ n ns → is_outstanding s n ≡ false → n < d)
    → Ordered d (ks ++ ns) e → Ordered d (ks ++ outstanding_of s ns) e
ordered_rest s d e [] ns f o = ordered_kept s d e ns f o
ordered_rest s d e (k ∷ ks) ns f o =
    (o.0, ordered_rest s (expected_after d k) e ks ns (λ n m x. expected_up d k n (f n m x)) o.1)
