-- Document 01, "What the Rust forms turn into", `timing/timer.rs` and "Turned away", checks 9, 10 and 5; the
-- reference's MultiTimer.
use Rattle.std.specs.Prelude.{ℕ, ◌+◌, ◌-◌, ◌%◌, ◌^◌, max, Bool, false, not, ◌&&◌, ◌||◌, List, [], ◌∷◌, ◌++◌, length}
use Rattle.std.specs.Prelude.{take, drop, replicate, ◌==◌, nat_le, nat_lt, Err, None, Ok, Result, Some, Option}
use Rattle.bounds.specs.Bounds.{max_time}
use Rattle.duration.specs.Bounds.{start_late}
use Rattle.refusal.specs.Order.{Check, check, verdict, decide}
use Rattle.refusal.specs.declared.Refusal.TheVariants.{State, Time, Full}
use Rattle.multi_timer.specs.declared.MultiTimer.{MultiTimer}
use Rattle.multi_timer.specs.declared.StartResult.{StartResult}
use Rattle.multi_timer.specs.declared.CancelResult.{CancelResult}
use Rattle.multi_timer.specs.declared.PopResult.{PopResult}
use Rattle.multi_timer.specs.declared.ClearResult.{ClearResult}
use Rattle.multi_timer.specs.Map.{Entry, entries_of, keys_of, deadlines_of, ascending, lookup, is_some}
use Rattle.multi_timer.specs.Map.{keep, put, remove, due_keys, due_keys_from, pending, due_at, earliest}
use Rattle.refusal.specs.declared.Refusal.{Refusal}
use Rattle.refusal.specs.Order.{passed}

-- ---- the lent slices
abbrev pub used : MultiTimer → List ℕ → List ℕ → List Entry
used t ks ds = entries_of (take t.count ks) (take t.count ds)

-- n entries of a slice give way to new ones: those vacated become 0, the others stay
unfoldable pub replaced : List ℕ → ℕ → List ℕ → List ℕ
replaced new n old = new ++ (replicate (n - length new) 0 ++ drop (max n (length new)) old)

-- an answer, and the slices at exit
pub record TimersExit (A : Type 0) : Type 0 where
  pub answer : A
  pub keys : List ℕ
  pub deadlines : List ℕ

abbrev pub timers_exit : {A : Type 0} → A → List ℕ → List ℕ → TimersExit A
timers_exit a ks ds = record { answer = a; keys = ks; deadlines = ds }

abbrev pub answering : {A B : Type 0} → (A → B) → TimersExit A → TimersExit B
answering f a = timers_exit (f a.answer) a.keys a.deadlines

abbrev pub timers : ℕ → ℕ → MultiTimer
timers n g = record { count = n; global_generation = g }

-- the entries es with the generation g, in the place of what the set t held
abbrev pub holding : ℕ → MultiTimer → List Entry → List ℕ → List ℕ → TimersExit MultiTimer
holding g t es ks ds =
    timers_exit (timers (length es) g) (replaced (keys_of es) t.count ks) (replaced (deadlines_of es) t.count ds)

-- ---- the checks
abbrev pub broken : ℕ → List ℕ → List ℕ → Bool
broken n ks ds = not (length ks == length ds) || (nat_lt (length ks) n || not (ascending (take n ks)))

unfoldable pub any_late : List ℕ → Bool
any_late [] = false
any_late (d ∷ ds) = nat_lt max_time d || any_late ds

abbrev pub held_too_late : ℕ → List ℕ → Bool
held_too_late n ds = any_late (take n ds)

abbrev pub read_too_late : ℕ → List ℕ → ℕ → Bool
read_too_late n ds now = held_too_late n ds || nat_lt max_time now

abbrev pub start_too_late : ℕ → List ℕ → ℕ → ℕ → Bool
start_too_late n ds now duration = held_too_late n ds || start_late now duration

-- the key is new, and no entry is unused
abbrev pub start_full : MultiTimer → List ℕ → List ℕ → ℕ → Bool
start_full t ks ds key = nat_le (length ks) t.count && not (is_some (lookup key (used t ks ds)))

-- of a call that is given no time; of one that is; of a start; of a pop into a slice of a size
abbrev pub held_checks : MultiTimer → List ℕ → List ℕ → List Check
held_checks t ks ds = check (broken t.count ks ds) State ∷ check (held_too_late t.count ds) Time ∷ []

abbrev pub read_checks : MultiTimer → List ℕ → List ℕ → ℕ → List Check
read_checks t ks ds now = check (broken t.count ks ds) State ∷ check (read_too_late t.count ds now) Time ∷ []

abbrev pub start_checks : MultiTimer → List ℕ → List ℕ → ℕ → ℕ → ℕ → List Check
start_checks t ks ds key now duration =
    check (broken t.count ks ds) State
    ∷ check (start_too_late t.count ds now duration) Time
    ∷ check (start_full t ks ds key) Full
    ∷ []

abbrev pub pop_checks : MultiTimer → List ℕ → List ℕ → ℕ → ℕ → List Check
pop_checks t ks ds now size =
    check (broken t.count ks ds) State
    ∷ check (read_too_late t.count ds now) Time
    ∷ check (nat_lt size (length (due_keys now (used t ks ds)))) Full
    ∷ []

-- ---- the entry points, each with what it does below its checks
unfoldable pub new_unchecked : List ℕ → List ℕ → TimersExit MultiTimer
new_unchecked ks ds = timers_exit (timers 0 0) (replicate (length ks) 0) (replicate (length ds) 0)

unfoldable pub new_timers : List ℕ → List ℕ → TimersExit (Result MultiTimer Refusal)
new_timers ks ds =
    decide (verdict (check (not (length ks == length ds)) State ∷ []))
    (λ r. timers_exit (Err r) ks ds)
    (answering Ok (new_unchecked ks ds))

-- one more at a start, not at a cancel; after 2 ^ 64 - 1 comes 0
abbrev pub next_generation : ℕ → ℕ
next_generation g = (g + 1) % 2 ^ 64

abbrev pub start_result : MultiTimer → Result ℕ Refusal → StartResult
start_result t a = record { timers = t; answer = a }

abbrev pub started : MultiTimer → StartResult
started t = start_result t (Ok t.global_generation)

unfoldable pub start_timer_at_unchecked : MultiTimer → List ℕ → List ℕ → ℕ → ℕ → TimersExit MultiTimer
start_timer_at_unchecked t ks ds key deadline =
    holding (next_generation t.global_generation) t (put key deadline (used t ks ds)) ks ds

unfoldable pub start_timer_at : MultiTimer → List ℕ → List ℕ → ℕ → ℕ → ℕ → TimersExit StartResult
start_timer_at t ks ds key now duration =
    decide (verdict (start_checks t ks ds key now duration))
    (λ r. timers_exit (start_result t (Err r)) ks ds)
    (answering started (start_timer_at_unchecked t ks ds key (now + duration)))

abbrev pub cancel_result : MultiTimer → Result Bool Refusal → CancelResult
cancel_result t a = record { timers = t; answer = a }

abbrev pub cancelled : Bool → MultiTimer → CancelResult
cancelled existed t = cancel_result t (Ok existed)

unfoldable pub cancel_timer_unchecked : MultiTimer → List ℕ → List ℕ → ℕ → TimersExit MultiTimer
cancel_timer_unchecked t ks ds key = holding t.global_generation t (remove key (used t ks ds)) ks ds

unfoldable pub cancel_timer : MultiTimer → List ℕ → List ℕ → ℕ → TimersExit CancelResult
cancel_timer t ks ds key =
    decide (verdict (held_checks t ks ds))
    (λ r. timers_exit (cancel_result t (Err r)) ks ds)
    (answering (cancelled (is_some (lookup key (used t ks ds)))) (cancel_timer_unchecked t ks ds key))

abbrev pub is_expired_at_unchecked : MultiTimer → List ℕ → List ℕ → ℕ → ℕ → Bool
is_expired_at_unchecked t ks ds key now = due_at now (lookup key (used t ks ds))

unfoldable pub is_expired_at : MultiTimer → List ℕ → List ℕ → ℕ → ℕ → Result Bool Refusal
is_expired_at t ks ds key now =
    decide (verdict (read_checks t ks ds now)) Err
    (Ok (is_expired_at_unchecked t ks ds key now))

-- the first of keys
abbrev pub next_key : List ℕ → Option ℕ
next_key [] = None
next_key (k ∷ ks) = Some k

-- below the entry points alone
abbrev pub next_expired_unchecked : MultiTimer → List ℕ → List ℕ → ℕ → ℕ → Option ℕ
next_expired_unchecked t ks ds from now = next_key (due_keys_from from now (used t ks ds))

-- the expired keys, ascending, go to the front of the lent slice `out`
pub record PopExit (A : Type 0) : Type 0 where
  pub rest : TimersExit A
  pub out : List ℕ

abbrev pub pop_exit : {A : Type 0} → TimersExit A → List ℕ → PopExit A
pop_exit a out = record { rest = a; out = out }

abbrev pub pop_result : MultiTimer → Result ℕ Refusal → PopResult
pop_result t a = record { timers = t; answer = a }

abbrev pub popped : ℕ → PopExit MultiTimer → PopExit PopResult
popped n w = pop_exit (answering (λ u. pop_result u (Ok n)) w.rest) w.out

unfoldable pub pop_expired_at_unchecked : MultiTimer → List ℕ → List ℕ → ℕ → List ℕ → PopExit MultiTimer
pop_expired_at_unchecked t ks ds now out =
    pop_exit (holding t.global_generation t (keep (pending now) (used t ks ds)) ks ds)
    (replaced (due_keys now (used t ks ds)) 0 out)

unfoldable pub pop_expired_at : MultiTimer → List ℕ → List ℕ → ℕ → List ℕ → PopExit PopResult
pop_expired_at t ks ds now out =
    decide (verdict (pop_checks t ks ds now (length out)))
    (λ r. pop_exit (timers_exit (pop_result t (Err r)) ks ds) out)
    (popped (length (due_keys now (used t ks ds))) (pop_expired_at_unchecked t ks ds now out))

abbrev pub earliest_answer : Option ℕ → Result (Option ℕ) Refusal
earliest_answer o = Ok o

abbrev pub earliest_deadline_unchecked : MultiTimer → List ℕ → List ℕ → Result (Option ℕ) Refusal
earliest_deadline_unchecked t ks ds = earliest_answer (earliest (deadlines_of (used t ks ds)))

unfoldable pub earliest_deadline : MultiTimer → List ℕ → List ℕ → Result (Option ℕ) Refusal
earliest_deadline t ks ds =
    decide (verdict (held_checks t ks ds)) Err (earliest_deadline_unchecked t ks ds)

abbrev pub clear_result : MultiTimer → Result Unit Refusal → ClearResult
clear_result t a = record { timers = t; answer = a }

abbrev pub cleared : MultiTimer → ClearResult
cleared t = clear_result t passed

unfoldable pub clear_unchecked : MultiTimer → List ℕ → List ℕ → TimersExit MultiTimer
clear_unchecked t ks ds = holding t.global_generation t [] ks ds

unfoldable pub clear_timers : MultiTimer → List ℕ → List ℕ → TimersExit ClearResult
clear_timers t ks ds =
    decide (verdict (held_checks t ks ds))
    (λ r. timers_exit (clear_result t (Err r)) ks ds)
    (answering cleared (clear_unchecked t ks ds))
