-- Laws of numbers below a bound.
use Rattle.std.proofs.Common.{ℕ, zero, suc, ◌+◌, ◌<◌, List, [], ◌∷◌, ◌++◌, get_or, take, drop, set, get_or-drop}
use Rattle.octets.specs.Octets.{Below}

module _ {n : ℕ} where
  pub below_nil : 0 < n → Below n []
  below_nil h = record { at = λ i. h }

  cons_at : (a : ℕ) (l : List ℕ) → a < n → Below n l → (i : ℕ) → get_or (a ∷ l) i 0 < n
  cons_at a l h k zero = h
  cons_at a l h k (suc i) = k.at i

  pub below_cons : {a : ℕ} {l : List ℕ} → a < n → Below n l → Below n (a ∷ l)
  below_cons {a} {l} h k = record { at = cons_at a l h k }

  pub below_tail : {a : ℕ} {l : List ℕ} → Below n (a ∷ l) → Below n l
  below_tail h = record { at = λ i. h.at (suc i) }

  pub below_head : {a : ℕ} {l : List ℕ} → Below n (a ∷ l) → a < n
  below_head h = h.at 0

  pub below_append : (l : List ℕ) {m : List ℕ} → Below n l → Below n m → Below n (l ++ m)
  below_append [] h k = k
  below_append (a ∷ l) h k = below_cons (below_head h) (below_append l (below_tail h) k)

  pub below_take : (j : ℕ) (l : List ℕ) → 0 < n → Below n l → Below n (take j l)
  below_take zero l z h = below_nil z
  below_take (suc j) [] z h = below_nil z
  below_take (suc j) (a ∷ l) z h = below_cons (below_head h) (below_take j l z (below_tail h))

  pub below_drop : (j : ℕ) (l : List ℕ) → Below n l → Below n (drop j l)
  below_drop j l h = record { at = λ i. rw (get_or-drop j l i 0) (h.at (j + i)) }

  pub below_set : (l : List ℕ) (i x : ℕ) → x < n → Below n l → Below n (set l i x)
  below_set [] i x h k = k
  below_set (a ∷ l) zero x h k = below_cons h (below_tail k)
  below_set (a ∷ l) (suc i) x h k = below_cons (below_head k) (below_set l i x h (below_tail k))
