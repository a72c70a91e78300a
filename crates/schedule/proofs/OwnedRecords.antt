-- A schedule that holds its records as structs: its rows one by one, and what its first record tells.
use Rattle.std.specs.Prelude.{None, Ok, Result, Some}
use mathlib.Core.Path.{◌≡◌, refl, sym, ◌∙◌, ap, subst}
use Prim.Native.Nat.{ℕ, zero, suc, ◌<◌, ◌≤◌, ◌+◌, ◌-◌, ◌*◌}
use native.Mathlib.Omega.{arith}
use native.Mathlib.Numerals.{add-one}
use mathlib.Core.List.{List, [], ◌∷◌, ◌++◌}
use mir.Val.{Val}
use denote.Laws.{Is}
use lib.ListN.{length, set, get_or, take, drop, replicate, length-set, length-map}
use lib.Seq.{take-suc, take-set-le, get_or-set_same, take_all}
use Rattle.schedule.specs.Record.{time_of, record_length, place_of, vacant}
use Rattle.refusal.specs.Order.{verdict}
use Rattle.schedule.specs.State.{Schedule, schedule, waiting_records}
use Rattle.schedule.specs.Schedule.{CanPop, scheduler, first_record, placed, pop_exit, on_pop, pop_unchecked, schedule_checks, pop_checks}
use Rattle.schedule.specs.Structs.{row_of, rows, owned_schedule}
use Rattle.schedule.specs.declared.Scheduled.{Scheduled}
use Rattle.schedule.specs.declared.Deliveries.{Deliveries}
use Rattle.schedule.specs.declared.OwnedSchedule.{OwnedSchedule}
use Rattle.schedule.specs.contracts.OwnedSchedule as S
use Rattle.schedule.proofs.Calls.{first_not_due, can_take, taken_law}
use Rattle.refusal.specs.declared.Refusal.{Refusal}

-- ---- rows one by one
row_at : (s : List Scheduled) (i : ℕ) (d : Scheduled) → i < length s → get_or (rows s) i [] ≡ row_of (get_or s i d)
row_at [] i d l = absurd (omega arith)
row_at (x ∷ s) zero d l = refl
row_at (x ∷ s) (suc i) d l = row_at s i d (omega arith)

pub packs_next : (s : List Scheduled) (d : Scheduled) (r : List (List ℕ)) (i : ℕ) {v : List ℕ} → i < length r → i < length s → take i r ≡ take i (rows s) → v ≡ row_of (get_or s i d) → take (i + 1) (set r i v) ≡ take (i + 1) (rows s)
packs_next s d r i {v} l k e p =
    ap (λ (n : ℕ). take n (set r i v)) (add-one i)
    ∙ take-suc (set r i v) i [] (subst (λ (n : ℕ). i < n) (sym (length-set r i v)) l)
    ∙ ap (λ (xs : List (List ℕ)). xs ++ get_or (set r i v) i [] ∷ []) (take-set-le i r i v (omega arith) ∙ e)
    ∙ ap (λ (x : List ℕ). take i (rows s) ++ x ∷ []) (get_or-set_same r i v [] l ∙ p ∙ sym (row_at s i d k))
    ∙ sym (take-suc (rows s) i [] (subst (λ (n : ℕ). i < n) (sym (length-map s row_of)) k))
    ∙ ap (λ (n : ℕ). take n (rows s)) (sym (add-one i))

pub packs_all : (s : List Scheduled) (r : List (List ℕ)) (i n : ℕ) → length r ≡ n → length s ≡ n → n ≤ i → take i r ≡ take i (rows s) → r ≡ rows s
packs_all s r i n l k h e = sym (take_all i r (omega arith)) ∙ e ∙ take_all i (rows s) (subst (λ (m : ℕ). m ≤ i) (sym (length-map s row_of)) (omega arith))

-- ---- the first record, as it lies and as it is taken out
module _ (m : Schedule) (now : ℕ) (out : List ℕ) (some : m.scheduler.count ≡ 0 → ⊥) {r : Scheduled} (first : row_of r ≡ first_record m.records) where
  pub struct_not_due : now < r.time → on_pop m out (Ok None) ≡ pop_unchecked m now out
  struct_not_due l = first_not_due m now out some (subst (λ (q : List ℕ). now < time_of q) first l)

  module _ {t : Scheduled} (taken : row_of t ≡ first_record m.records) where
    pub struct_can_take : CanPop m now out → r.time ≤ now → (t.place * 1410 + 1410 ≤ length m.places) × (r.length ≤ 1410) × (r.length ≤ length out)
    struct_can_take c l =
        let k = can_take m now out c some (subst (λ (q : List ℕ). time_of q ≤ now) first l) in
        (subst (λ (q : List ℕ). place_of q * 1410 + 1410 ≤ length m.places) (sym taken) k.0, subst (λ (q : List ℕ). record_length q ≤ 1410) (sym first) k.1, subst (λ (q : List ℕ). record_length q ≤ length out) (sym first) k.2)

    pub struct_takes : {rs : List (List ℕ)} {ps o : List ℕ} → r.time ≤ now
        → rs ≡ drop 1 (waiting_records m) ++ vacant ∷ drop m.scheduler.count m.records
        → ps ≡ placed m.places t.place (replicate 1410 0)
        → o ≡ take r.length (drop (t.place * 1410) m.places) ++ drop r.length out
        → pop_exit rs ps o (record { scheduler = scheduler (m.scheduler.count - 1) m.scheduler.next_order; answer = Ok (Some r.length) }) ≡ pop_unchecked m now out
    struct_takes {rs} {ps} {o} l p q k =
        ap (λ (x : List ℕ). pop_exit rs ps o (record { scheduler = scheduler (m.scheduler.count - 1) m.scheduler.next_order; answer = Ok (Some (record_length x)) })) first
        ∙ taken_law m now out some (subst (λ (x : List ℕ). time_of x ≤ now) first l) p
        (q ∙ ap (λ (x : List ℕ). placed m.places (place_of x) (replicate 1410 0)) taken)
        (k ∙ ap (λ (x : List ℕ). take (record_length x) (drop (t.place * 1410) m.places) ++ drop (record_length x) out) first ∙ ap (λ (x : List ℕ). take (record_length (first_record m.records)) (drop (place_of x * 1410) m.places) ++ drop (record_length (first_record m.records)) out) taken)

-- the records are eight
pub owned_length : (x : OwnedSchedule) (vs : List Val) → Is S.the_row x vs → length x.records ≡ 8
owned_length x vs p = p.1.1.0.1.0.1

pub owned_rows : (x : OwnedSchedule) (vs : List Val) → Is S.the_row x vs → length (rows x.records) ≡ 8
owned_rows x vs p = length-map x.records row_of ∙ owned_length x vs p

pub first_row : (s : List Scheduled) (d : Scheduled) → 0 < length s → row_of (get_or s 0 d) ≡ first_record (rows s)
first_row s d l = sym (row_at s 0 d l)

-- ---- the verdict on the rows is that on the structs
pub schedule_verdict_owned : (x : OwnedSchedule) (ps : List ℕ) (now n : ℕ) (ds : Deliveries) {rs : List (List ℕ)} {v : Result Unit Refusal} → v ≡ verdict (schedule_checks (schedule rs ps x.scheduler) now n ds) → rs ≡ rows x.records → v ≡ verdict (schedule_checks (owned_schedule x ps) now n ds)
schedule_verdict_owned x ps now n ds e q = e ∙ ap (λ (rs : List (List ℕ)). verdict (schedule_checks (schedule rs ps x.scheduler) now n ds)) q

pub pop_verdict_owned : (x : OwnedSchedule) (ps : List ℕ) (now n : ℕ) {rs : List (List ℕ)} {v : Result Unit Refusal} → v ≡ verdict (pop_checks (schedule rs ps x.scheduler) now n) → rs ≡ rows x.records → v ≡ verdict (pop_checks (owned_schedule x ps) now n)
pop_verdict_owned x ps now n e q = e ∙ ap (λ (rs : List (List ℕ)). verdict (pop_checks (schedule rs ps x.scheduler) now n)) q
