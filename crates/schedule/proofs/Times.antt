-- The times held: among records in leaving order the last one's is the latest.
use mathlib.Core.Path.{◌≡◌, refl, sym, ◌∙◌, ap}
use Prim.Native.Nat.{ℕ, zero, suc, ◌≤◌, ◌-◌}
use native.Mathlib.Omega.{arith}
use native.Mathlib.Nat.{le_refl, le_trans, le_of_suc-le-suc, not-suc-le-zero}
use mathlib.Core.Bool.{Bool, true, false, ◌||◌, or-true, or-false}
use mathlib.Core.List.{List, [], ◌∷◌}
use lib.ListN.{length, get_or, take}
use lib.Seq.{length-take-le, get_or-take}
use borrow.Author.Tests.{ltb-false, le-ltb}
use Rattle.bounds.specs.Bounds.{max_time}
use Rattle.schedule.specs.Record.{time_of, order_of, vacant, after, ordered_from, ordered}
use Rattle.schedule.specs.State.{late, held_late}
use Rattle.schedule.proofs.Ordering.{first_of, not_later}

last : List ℕ → List (List ℕ) → List ℕ
last r [] = r
last r (x ∷ xs) = last x xs

last_at : (r : List ℕ) (rs : List (List ℕ)) → get_or (r ∷ rs) (length rs) [] ≡ last r rs
unfolding last
last_at r [] = refl
last_at r (x ∷ xs) = last_at x xs

last_late : (r : List ℕ) (rs : List (List ℕ)) → ordered_from after r rs ≡ true → (time_of r ≤ time_of (last r rs)) × (held_late (r ∷ rs) ≡ late (time_of (last r rs)))
unfolding last held_late
last_late r [] h = (le_refl (time_of r), or-false (late (time_of r)))
last_late r (x ∷ xs) h =
    let f = first_of after r x xs h in
    let i = last_late x xs f.1 in
    let l = le_trans (not_later (time_of r) (order_of r) (time_of x) (order_of x) f.0) i.0 in
    (l, ap (λ (b : Bool). late (time_of r) || b) i.1 ∙ go (late (time_of (last x xs))) refl l)
  where
    go : (b : Bool) → late (time_of (last x xs)) ≡ b → time_of r ≤ time_of (last x xs) → (late (time_of r) || late (time_of (last x xs))) ≡ late (time_of (last x xs))
    go true e l = rw e (or-true (late (time_of r)))
    go false e l = rw (e, le-ltb max_time (time_of r) (le_trans l (ltb-false max_time (time_of (last x xs)) e)))

pub held_none : (rs : List (List ℕ)) (n : ℕ) → n ≡ 0 → held_late (take n rs) ≡ false
unfolding held_late
held_none rs n e = ap (λ (k : ℕ). held_late (take k rs)) e

pub held_last : (rs : List (List ℕ)) (n : ℕ) → (n ≡ 0 → ⊥) → n ≤ length rs → ordered (take n rs) ≡ true → held_late (take n rs) ≡ late (time_of (get_or rs (n - 1) []))
held_last rs zero p h o = absurd (p refl)
held_last [] (suc n) p h o = absurd (not-suc-le-zero h)
held_last (r ∷ rs) (suc n) p h o =
    (last_late r (take n rs) (first_of after vacant r (take n rs) o).1).1
    ∙ ap (λ (x : List ℕ). late (time_of x)) (sym (last_at r (take n rs)) ∙ ap (λ (k : ℕ). get_or (r ∷ take n rs) k []) (length-take-le n rs (le_of_suc-le-suc h)) ∙ get_or-take (suc n) (r ∷ rs) n [] (le_refl (suc n)) ∙ ap (λ (k : ℕ). get_or (r ∷ rs) k []) (sym (one_less n)))
  where
    one_less : (n : ℕ) → suc n - 1 ≡ n
    one_less n = omega arith
