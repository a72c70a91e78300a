-- The records in use stand first and have a length, the others are zeros: so a schedule's records tell how many copies wait.
use Rattle.std.specs.Prelude.{None, Ok}
use Prim.Native.Nat.{ℕ, zero, suc, ◌+◌, ◌-◌, ◌≤◌, ◌<◌}
use native.Mathlib.Omega.{arith}
use mathlib.Core.Path.{◌≡◌, refl, sym, ap, ◌∙◌, subst}
use mathlib.Core.Bool.{Bool, true, false, cond, ◌&&◌}
use mathlib.Core.List.{List, [], ◌∷◌, ◌++◌}
use lib.Dec.{ltb, leb}
use lib.ListN.{length, take, drop, replicate, length-take, length-drop, take-append-drop}
use lib.Seq.{take_at, drop_at, drop-drop}
use borrow.Author.Tests.{ltb-true, lt-ltb}
use Rattle.rows.specs.Rows.{as_number}
use Rattle.schedule.specs.Record.{record_length, record4, vacant, after, inserted, lowest_free, time_of}
use Rattle.schedule.specs.State.{Schedule, place_count, waiting_records, leaves_at}
use Rattle.schedule.specs.Schedule.{new_schedule, put_copy, schedule_at_unchecked, without_first, first_record, pop_first, on_pop, pop_unchecked, left_by_pop}
use Rattle.schedule.specs.declared.Deliveries.{Deliveries}
use Rattle.schedule.specs.declared.Deliveries.TheVariants.{Lost, One, Two}
use Rattle.schedule.proofs.Ordering.{inserted_length}
use Rattle.run_ends.specs.Ends.{waiting_count}

-- ---- counting
count_append : (xs ys : List (List ℕ)) → waiting_count (xs ++ ys) ≡ waiting_count xs + waiting_count ys
unfolding waiting_count
count_append [] ys = omega arith
count_append (x ∷ xs) ys = let e = count_append xs ys in omega arith

one_or_none : (b : Bool) → as_number b ≤ 1
one_or_none true = omega arith
one_or_none false = omega arith

count_le : (xs : List (List ℕ)) → waiting_count xs ≤ length xs
unfolding waiting_count
count_le [] = omega arith
count_le (x ∷ xs) = let h = count_le xs in let k = one_or_none (ltb 0 (record_length x)) in omega arith

count_inserted : (aft : List ℕ → List ℕ → Bool) (r : List ℕ) (xs : List (List ℕ)) → waiting_count (inserted aft r xs) ≡ as_number (ltb 0 (record_length r)) + waiting_count xs
unfolding waiting_count inserted
count_inserted aft r [] = refl
count_inserted aft r (x ∷ xs) = go (aft x r) (count_inserted aft r xs)
  where
    go : (b : Bool) → waiting_count (inserted aft r xs) ≡ as_number (ltb 0 (record_length r)) + waiting_count xs → waiting_count (cond b (r ∷ x ∷ xs) (x ∷ inserted aft r xs)) ≡ as_number (ltb 0 (record_length r)) + (as_number (ltb 0 (record_length x)) + waiting_count xs)
    go true e = refl
    go false e = omega arith

count_vacant : (n : ℕ) → waiting_count (replicate n vacant) ≡ 0
unfolding waiting_count
count_vacant zero = refl
count_vacant (suc n) = let e = count_vacant n in omega arith

count_first : (xs : List (List ℕ)) → waiting_count xs ≤ 1 + waiting_count (drop 1 xs)
unfolding waiting_count
count_first [] = omega arith
count_first (x ∷ xs) = let k = one_or_none (ltb 0 (record_length x)) in omega arith

count_rest : (n : ℕ) (xs : List (List ℕ)) → waiting_count (drop (n + 1) xs) ≤ waiting_count (drop n xs)
unfolding waiting_count
count_rest n xs = subst (λ (ys : List (List ℕ)). waiting_count ys ≤ waiting_count (drop n xs)) (drop-drop 1 n xs) (fewer (drop n xs))
  where
    fewer : (ys : List (List ℕ)) → waiting_count (drop 1 ys) ≤ waiting_count ys
    fewer [] = omega arith
    fewer (y ∷ ys) = omega arith

-- ---- n records in use, and behind them none
pub record Tidy (rs : List (List ℕ)) (n : ℕ) : Type 0 where
  pub waiting : waiting_count (take n rs) ≡ n
  pub unused : waiting_count (drop n rs) ≡ 0

pub tidy_count : {rs : List (List ℕ)} {n : ℕ} → Tidy rs n → waiting_count rs ≡ n
tidy_count {rs} {n} t = ap waiting_count (sym (take-append-drop n rs)) ∙ count_append (take n rs) (drop n rs) ∙ sum t.waiting t.unused
  where
    sum : {a b n : ℕ} → a ≡ n → b ≡ 0 → a + b ≡ n
    sum h k = omega arith

taken_length : {rs : List (List ℕ)} {n : ℕ} → Tidy rs n → length (take n rs) ≡ n
taken_length {rs} {n} t = let a = t.waiting in let b = count_le (take n rs) in let c = length-take n rs in omega arith

pub put_tidy : {rs : List (List ℕ)} {n : ℕ} (r : List ℕ) → 0 < record_length r → Tidy rs n → Tidy (inserted after r (take n rs) ++ drop (n + 1) rs) (n + 1)
put_tidy {rs} {n} r h t =
    record {
      waiting = ap waiting_count (take_at (inserted after r (take n rs)) (drop (n + 1) rs) (n + 1) size) ∙ count_inserted after r (take n rs) ∙ more (lt-ltb 0 (record_length r) h) t.waiting;
      unused = ap waiting_count (drop_at (inserted after r (take n rs)) (drop (n + 1) rs) (n + 1) size) ∙ none (count_rest n rs) t.unused;
    }
  where
    size : length (inserted after r (take n rs)) ≡ n + 1
    size = let a = inserted_length after r (take n rs) in let b = taken_length t in omega arith

    more : {b : Bool} {a n : ℕ} → b ≡ true → a ≡ n → as_number b + a ≡ n + 1
    more {a = a} {n} e h = rw e (omega arith)

    none : {a b : ℕ} → a ≤ b → b ≡ 0 → a ≡ 0
    none h e = omega arith

pub pop_tidy : {rs : List (List ℕ)} {n : ℕ} → 0 < n → Tidy rs n → Tidy (drop 1 (take n rs) ++ vacant ∷ drop n rs) (n - 1)
unfolding waiting_count
pop_tidy {rs} {n} h t =
    record {
      waiting = ap waiting_count (take_at (drop 1 (take n rs)) (vacant ∷ drop n rs) (n - 1) size) ∙ less;
      unused = ap waiting_count (drop_at (drop 1 (take n rs)) (vacant ∷ drop n rs) (n - 1) size) ∙ front;
    }
  where
    size : length (drop 1 (take n rs)) ≡ n - 1
    size = let a = length-drop 1 (take n rs) in let b = taken_length t in omega arith

    less : waiting_count (drop 1 (take n rs)) ≡ n - 1
    less = let a = count_first (take n rs) in let b = count_le (drop 1 (take n rs)) in let c = size in let d = t.waiting in omega arith

    front : waiting_count (vacant ∷ drop n rs) ≡ 0
    front = let e = t.unused in omega arith

-- ---- a schedule
abbrev pub TidySchedule : Schedule → Type 0
TidySchedule m = Tidy m.records m.scheduler.count

copy_tidy : (m : Schedule) (time : ℕ) (packet : List ℕ) → 0 < length packet → TidySchedule m → TidySchedule (put_copy m time packet)
unfolding put_copy
copy_tidy m time packet h t = put_tidy (record4 time m.scheduler.next_order (length packet) (lowest_free (place_count m) (waiting_records m))) h t

pub schedule_tidy : (m : Schedule) (now : ℕ) (packet : List ℕ) (ds : Deliveries) → 0 < length packet → TidySchedule m → TidySchedule (schedule_at_unchecked m now packet ds)
unfolding schedule_at_unchecked
schedule_tidy m now packet Lost h t = t
schedule_tidy m now packet (One d) h t = copy_tidy m (leaves_at now d) packet h t
schedule_tidy m now packet (Two d e) h t = copy_tidy (put_copy m (leaves_at now d) packet) (leaves_at now e) packet h (copy_tidy m (leaves_at now d) packet h t)

pub take_tidy : (m : Schedule) (now : ℕ) (out : List ℕ) → TidySchedule m → TidySchedule (left_by_pop (pop_unchecked m now out))
unfolding pop_unchecked without_first
take_tidy m now out t = go (ltb 0 m.scheduler.count) (leb (time_of (first_record m.records)) now) (ltb-true 0 m.scheduler.count)
  where
    go : (a b : Bool) → (a ≡ true → 0 < m.scheduler.count) → TidySchedule (left_by_pop (cond (a && b) (pop_first m out) (on_pop m out (Ok None))))
    go true true h = pop_tidy (h refl) t
    go true false h = t
    go false b h = t

pub new_tidy : (rs : List (List ℕ)) (ps : List ℕ) → TidySchedule (new_schedule rs ps)
unfolding waiting_count
new_tidy rs ps = record { waiting = refl; unused = count_vacant (length rs) }
