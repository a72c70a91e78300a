-- `fold_bytes` byte by byte: what is summed, and what is left of the slice.
use Rattle.std.proofs.Common.{◌≡◌, ℕ, ◌+◌, ◌%◌, ◌^◌, ◌<◌, ◌≤◌, List, length, get_or, drop, sym, ap, ◌∙◌, add-one, arith, drop_of_length-le, drop-cons}
use Rattle.octets.specs.Fold.{sum, fold_bytes}

plus_none : (n : ℕ) → (0 + n) % 65536 ≡ n % 65536
plus_none n = omega arith

pub fold_start : (l : List ℕ) → (0 + sum (drop 0 l)) % 65536 ≡ fold_bytes l
unfolding fold_bytes
fold_start l = plus_none (sum l)

left_after : (l : List ℕ) (i : ℕ) → i < length l → sum (drop i l) ≡ get_or l i 0 + sum (drop (i + 1) l)
unfolding sum
left_after l i h = rw (add-one, drop-cons l i 0)

small : (x y : ℕ) → x ≡ y % 65536 → x < 65536
small x y p = omega arith

again : (s y r x : ℕ) → x ≡ (s + y) % 65536 → (x + r) % 65536 ≡ (s + (y + r)) % 65536
again s y r x p = omega arith

pub fold_more : (l : List ℕ) (s i : ℕ) {x : ℕ} → i < length l → (s + sum (drop i l)) % 65536 ≡ fold_bytes l → x ≡ (s + get_or l i 0) % 2 ^ 16
    → (x < 65536) × ((x + sum (drop (i + 1) l)) % 65536 ≡ fold_bytes l)
fold_more l s i {x} h e p =
    (small x (s + get_or l i 0) p, again s (get_or l i 0) (sum (drop (i + 1) l)) x p ∙ ap (λ (n : ℕ). (s + n) % 65536) (sym (left_after l i h)) ∙ e)

whole : (s : ℕ) → s < 65536 → s ≡ (s + 0) % 65536
whole s k = omega arith

pub fold_end : (l : List ℕ) (s i : ℕ) → length l ≤ i → s < 65536 → (s + sum (drop i l)) % 65536 ≡ fold_bytes l → s ≡ fold_bytes l
unfolding sum
fold_end l s i h k e = whole s k ∙ ap (λ (xs : List ℕ). (s + sum xs) % 65536) (sym (drop_of_length-le l h)) ∙ e
