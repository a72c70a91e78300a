-- What the accepted calls of any list say of the timer set. The latest call stands first; calls that only read change
-- nothing and are left out.
use Rattle.std.specs.Prelude.{ℕ, suc, ◌+◌, Bool, true, false, cond, not, ◌&&◌, ◌||◌, List, [], ◌∷◌, length, replicate}
use Rattle.std.specs.Prelude.{◌==◌, nat_le, nat_lt, Err, Ok, Result, Option, None, Some}
use Rattle.bounds.specs.Bounds.{max_time}
use Rattle.duration.specs.Bounds.{start_late}
use Rattle.multi_timer.specs.declared.MultiTimer.{MultiTimer}
use Rattle.multi_timer.specs.Map.{Entry, deadlines_of, is_some, keep, put, remove}
use Rattle.multi_timer.specs.Map.{due_keys, pending, still_set, earliest}
use Rattle.multi_timer.specs.MultiTimer.{TimersExit, timers_exit, timers, answering}
use Rattle.multi_timer.specs.MultiTimer.{start_timer_at, cancel_timer, pop_expired_at, clear_timers}
use Rattle.refusal.specs.declared.Refusal.{Refusal}

-- `start_timer_at` with key, time and duration, `cancel_timer` with the key, `pop_expired_at` with the time and the
-- lent slice, `clear`
pub data Call : Type 0 where
  start : ℕ → ℕ → ℕ → Call
  cancel : ℕ → Call
  pop : ℕ → List ℕ → Call
  clear : Call

-- a set just made in slices of n entries
unfoldable pub fresh : ℕ → TimersExit MultiTimer
fresh n = timers_exit (timers 0 0) (replicate n 0) (replicate n 0)

unfoldable pub step : TimersExit MultiTimer → Call → TimersExit MultiTimer
step s (start key now duration) =
    answering (λ r. r.timers) (start_timer_at s.answer s.keys s.deadlines key now duration)
step s (cancel key) = answering (λ r. r.timers) (cancel_timer s.answer s.keys s.deadlines key)
step s (pop now out) =
    answering (λ r. r.timers) (pop_expired_at s.answer s.keys s.deadlines now out).rest
step s clear = answering (λ r. r.timers) (clear_timers s.answer s.keys s.deadlines)

unfoldable pub after_calls : ℕ → List Call → TimersExit MultiTimer
after_calls n [] = fresh n
after_calls n (x ∷ xs) = step (after_calls n xs) x

-- whether an answer is a refusal
abbrev pub start_refused : Result ℕ Refusal → Bool
start_refused (Ok g) = false
start_refused (Err r) = true

abbrev pub cancel_refused : Result Bool Refusal → Bool
cancel_refused (Ok b) = false
cancel_refused (Err r) = true

abbrev pub pop_refused : Result ℕ Refusal → Bool
pop_refused (Ok n) = false
pop_refused (Err r) = true

abbrev pub clear_refused : Result Unit Refusal → Bool
clear_refused (Ok tt) = false
clear_refused (Err r) = true

unfoldable pub is_refused : TimersExit MultiTimer → Call → Bool
is_refused s (start key now duration) =
    start_refused (start_timer_at s.answer s.keys s.deadlines key now duration).answer.answer
is_refused s (cancel key) =
    cancel_refused (cancel_timer s.answer s.keys s.deadlines key).answer.answer
is_refused s (pop now out) =
    pop_refused (pop_expired_at s.answer s.keys s.deadlines now out).rest.answer.answer
is_refused s clear = clear_refused (clear_timers s.answer s.keys s.deadlines).answer.answer

-- ---- what a list of accepted calls says; nothing from here on looks at a timer set
-- the entries of the map
unfoldable pub entries_after : List Call → List Entry
entries_after [] = []
entries_after (start key now duration ∷ xs) = put key (now + duration) (entries_after xs)
entries_after (cancel key ∷ xs) = remove key (entries_after xs)
entries_after (pop now out ∷ xs) = keep (pending now) (entries_after xs)
entries_after (clear ∷ xs) = []

-- the deadline of a key
unfoldable pub deadline_of : ℕ → List Call → Option ℕ
deadline_of key [] = None
deadline_of key (start k now duration ∷ xs) = cond (k == key) (Some (now + duration)) (deadline_of key xs)
deadline_of key (cancel k ∷ xs) = cond (k == key) None (deadline_of key xs)
deadline_of key (pop now out ∷ xs) = still_set now (deadline_of key xs)
deadline_of key (clear ∷ xs) = None

abbrev pub earliest_of : List Call → Option ℕ
earliest_of xs = earliest (deadlines_of (entries_after xs))

-- the keys that a pop takes
abbrev pub due_keys_of : ℕ → List Call → List ℕ
due_keys_of now xs = due_keys now (entries_after xs)

unfoldable pub starts : List Call → ℕ
starts [] = 0
starts (start k now duration ∷ xs) = suc (starts xs)
starts (cancel k ∷ xs) = starts xs
starts (pop now out ∷ xs) = starts xs
starts (clear ∷ xs) = starts xs

-- ---- the accepted calls of a list, in slices of n entries
-- whether a call is refused, from the calls accepted before it alone: check 10, and check 5, of a start and of a pop
unfoldable pub turned_away : ℕ → List Call → Call → Bool
turned_away n before (start key now duration) =
    start_late now duration || (nat_le n (length (entries_after before)) && not (is_some (deadline_of key before)))
turned_away n before (cancel key) = false
turned_away n before (pop now out) = nat_lt max_time now || nat_lt (length out) (length (due_keys_of now before))
turned_away n before clear = false

unfoldable pub accepted : ℕ → List Call → List Call
accepted n [] = []
accepted n (x ∷ xs) = cond (turned_away n (accepted n xs) x) (accepted n xs) (x ∷ accepted n xs)
