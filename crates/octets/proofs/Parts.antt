-- The part of a slice from a place to its end: what is lent, and the slice when it comes back.
use Rattle.std.proofs.Common.{◌≡◌, ℕ, ◌-◌, ◌≤◌, List, ◌++◌, length, take, drop, ap, ◌∙◌, append-nil, arith, length-drop, take_all}
use lib.Seq.{drop-length}
use borrow.Rule.Slice.PartMut.{put_mid, Post-is}

module _ {A : Type 0} (i : ℕ) (xs : List A) where
  pub tail_is : take (length xs - i) (drop i xs) ≡ drop i xs
  tail_is = let e = length-drop i xs in take_all (length xs - i) (drop i xs) (omega arith)

  pub tail_back : (ys : List A) → i ≤ length xs → put_mid i (length xs - i) xs ys ≡ take i xs ++ ys
  tail_back ys h = ap (λ (t : List A). take i xs ++ (ys ++ t)) (Post-is i (length xs) xs h ∙ drop-length xs) ∙ ap (λ (t : List A). take i xs ++ t) (append-nil ys)
