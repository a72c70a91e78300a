use native.Mathlib.Omega.{arith}
use borrow.Author.Rules.{rules}
use mathlib.Core.Path.{◌≡◌, refl, ap}
use Prim.Native.Nat.{ℕ, ◌≤◌, ◌<◌}
use native.Mathlib.Nat.{le_refl}
use mathlib.Core.Bool.{Bool, true, false, not}
use mathlib.Core.List.{List, []}
use lib.ListN.{length, take, get_or}
use Rattle.std.specs.List.Sorted.{IsPartitionedBy, IsPartitionPoint}
use Rattle.std.proofs.lemmas.List.Sorted.{IsPartitionPoint-from_clause}
use Rattle.schedule.specs.Record.{vacant, after, ordered}
use Rattle.schedule.specs.Internal.{index_for}
use Rattle.schedule.proofs.Sound.{negated}
use Rattle.schedule.proofs.Ordering.{records, for_le, for_below, for_above}
use Rattle.schedule.proofs.order.index_for.Goals as goal

meet : (n k most : ℕ) → n ≤ most → k ≤ most → (n < most → k ≤ n) → (k < n → k < k) → n ≡ k
meet n k most a b low high = grind arith

module _ (xs : List (List ℕ)) (r : List ℕ) (o : ordered xs ≡ true) where
  -- those that leave after r come last
  parted : IsPartitionedBy (λ (p : List ℕ). not (after p r)) xs
  parted i j d l h e = go (after (get_or xs i d) r) refl
    where
      later : j < index_for after r xs
      later = (for_above after records d vacant r j xs h o (negated (after (get_or xs j d) r) e)).1

      go : (t : Bool) → after (get_or xs i d) r ≡ t → not (after (get_or xs i d) r) ≡ true
      go false q = ap not q
      go true q = let f : index_for after r xs ≤ i = for_below after d r i xs (omega arith) q in absurd (omega (arith, later))

  point_is : (n : ℕ) → n ≤ length xs → IsPartitionPoint (λ (p : List ℕ). not (after p r) ≡ true) (λ (p : List ℕ). not (after p r) ≡ false) xs n → n ≡ index_for after r xs
  point_is n h p =
      let low = λ (l : n < length xs). for_below after [] r n xs l (negated (after (get_or xs n []) r) (p.1 n [] (le_refl n) l)) in
      let at = index_for after r xs in
      let high = λ (l : at < n). (for_above after records [] vacant r at xs (omega arith) o (negated (after (get_or xs at []) r) (p.0 at [] (omega arith) l))).1 in
      meet n at (length xs) h (for_le after r xs) low high

pub returns : goal.returns
returns c = let xs = take c.args.count c.args.s.now in
    point_is xs c.args.r c.requires.1 c.partition_point.result c.partition_point.ensures.bound
    (IsPartitionPoint-from_clause (λ (p : List ℕ). not (after p c.args.r)) xs c.partition_point.result c.partition_point.ensures.partitioned (parted xs c.args.r c.requires.1) (λ a r q k. search rules))
