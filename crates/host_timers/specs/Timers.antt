-- The timer set for a host: its state in lent words, three at least: 0 the version of this layout times 256 and the
-- kind 7, 1 how many entries are used, 2 the generation; beside them the lent keys and deadlines.
use Rattle.std.specs.Prelude.{ℕ, List, [], ◌∷◌, Bool, cond, not, length, get_or, set, ltb, eqb, None, Option, Result}
use Rattle.std.specs.Prelude.{Some}
use Rattle.refusal.specs.Clauses.{any_of}
use Rattle.refusal.specs.declared.Refusal.TheVariants.{State, Time, Full}
use Rattle.refusal.specs.Order.{check, verdict, decide}
use Rattle.multi_timer.specs.MultiTimer as multi
use Rattle.multi_timer.specs.MultiTimer.{TimersExit, timers_exit, answering, timers, new_unchecked, start_timer_at}
use Rattle.multi_timer.specs.MultiTimer.{start_too_late, held_checks, cancel_timer, PopExit, pop_exit, pop_expired_at}
use Rattle.multi_timer.specs.MultiTimer.{earliest_deadline, clear_timers}
use Rattle.multi_timer.specs.declared.MultiTimer.{MultiTimer}
use Rattle.multi_timer.specs.declared.StartResult.{StartResult}
use Rattle.multi_timer.specs.declared.CancelResult.{CancelResult}
use Rattle.multi_timer.specs.declared.PopResult.{PopResult}
use Rattle.multi_timer.specs.declared.ClearResult.{ClearResult}
use Rattle.host_answer.specs.Answer.{packed, done_status, nothing_status, refusal_answer, test_answer, count_answer}
use Rattle.host_answer.specs.Answer.{done_answer, optional_answer}
use Rattle.host_answer.specs.Exit.{WordsExit, words_exit, wide, broken_words}
use Rattle.refusal.specs.declared.Refusal.{Refusal}

abbrev pub timers_words : ℕ
timers_words = 3

abbrev pub timers_word : ℕ
timers_word = 263

abbrev pub timers_in : List ℕ → MultiTimer
timers_in s = timers (get_or s 1 0) (get_or s 2 0)

unfoldable pub unreadable : List ℕ → Bool
unreadable s = any_of (ltb (length s) timers_words ∷ not (eqb (get_or s 0 0) timers_word) ∷ [])

unfoldable pub held_timers : List ℕ → Option MultiTimer
held_timers s = cond (unreadable s) None (Some (timers_in s))

unfoldable pub with_timers : List ℕ → MultiTimer → List ℕ
with_timers s t = set (set (set s 0 timers_word) 1 t.count) 2 t.global_generation

-- making: 9 slices of unequal length, 5 too few words
abbrev pub made : List ℕ → MultiTimer → WordsExit
made state t = words_exit (packed done_status 0) (with_timers state t)

unfoldable pub make_timers : List ℕ → List ℕ → List ℕ → TimersExit WordsExit
make_timers state ks ds =
    decide
    (verdict (check (not (eqb (length ks) (length ds))) State ∷ check (ltb (length state) timers_words) Full ∷ []))
    (λ r. timers_exit (words_exit (refusal_answer r) state) ks ds)
    (answering (made state) (new_unchecked ks ds))

-- a start; the generation is word 2
abbrev pub start_code : Result ℕ Refusal → ℕ
start_code a = done_answer a

abbrev pub started : List ℕ → StartResult → WordsExit
started state x = words_exit (start_code x.answer) (with_timers state x.timers)

unfoldable pub start_held : Option MultiTimer → List ℕ → List ℕ → List ℕ → ℕ → ℕ → ℕ → TimersExit WordsExit
start_held (Some t) state ks ds key now duration =
    answering (started state) (start_timer_at t ks ds key now duration)
start_held None state ks ds key now duration = timers_exit (broken_words state) ks ds

abbrev pub start_key : List ℕ → List ℕ → List ℕ → ℕ → ℕ → ℕ → TimersExit WordsExit
start_key state ks ds key now duration = start_held (held_timers state) state ks ds key now duration

-- no lent key is wide, so that no timer runs for a wide one and no entry can hold it: 9 and 10 as of any, then 5
unfoldable pub start_wide : Option MultiTimer → List ℕ → List ℕ → ℕ → ℕ → ℕ
start_wide (Some t) ks ds now duration =
    decide
    (verdict (check (multi.broken t.count ks ds) State ∷ check (start_too_late t.count ds now duration) Time ∷ []))
    refusal_answer (refusal_answer Full)
start_wide None ks ds now duration = refusal_answer State

abbrev pub start : List ℕ → List ℕ → List ℕ → ℕ → ℕ → ℕ → TimersExit WordsExit
start state ks ds key now duration =
    cond (wide key) (timers_exit (words_exit (start_wide (held_timers state) ks ds now duration) state) ks ds)
    (start_key state ks ds key now duration)

-- a cancel: 1 where the key had a timer
abbrev pub cancel_code : Result Bool Refusal → ℕ
cancel_code = test_answer

abbrev pub cancelled : List ℕ → CancelResult → WordsExit
cancelled state x = words_exit (cancel_code x.answer) (with_timers state x.timers)

unfoldable pub cancel_held : Option MultiTimer → List ℕ → List ℕ → List ℕ → ℕ → TimersExit WordsExit
cancel_held (Some t) state ks ds key = answering (cancelled state) (cancel_timer t ks ds key)
cancel_held None state ks ds key = timers_exit (broken_words state) ks ds

abbrev pub cancel_key : List ℕ → List ℕ → List ℕ → ℕ → TimersExit WordsExit
cancel_key state ks ds key = cancel_held (held_timers state) state ks ds key

-- a wide key has none
unfoldable pub cancel_wide : Option MultiTimer → List ℕ → List ℕ → ℕ
cancel_wide (Some t) ks ds = decide (verdict (held_checks t ks ds)) refusal_answer (packed done_status 0)
cancel_wide None ks ds = refusal_answer State

abbrev pub cancel : List ℕ → List ℕ → List ℕ → ℕ → TimersExit WordsExit
cancel state ks ds key =
    cond (wide key) (timers_exit (words_exit (cancel_wide (held_timers state) ks ds) state) ks ds)
    (cancel_key state ks ds key)

-- the keys that are due, ascending, to the start of out; how many
abbrev pub pop_code : Result ℕ Refusal → ℕ
pop_code = count_answer

abbrev pub popped : List ℕ → PopResult → WordsExit
popped state x = words_exit (pop_code x.answer) (with_timers state x.timers)

abbrev pub popped_exit : List ℕ → PopExit PopResult → PopExit WordsExit
popped_exit state x = pop_exit (answering (popped state) x.rest) x.out

unfoldable pub pop_held : Option MultiTimer → List ℕ → List ℕ → List ℕ → ℕ → List ℕ → PopExit WordsExit
pop_held (Some t) state ks ds now out = popped_exit state (pop_expired_at t ks ds now out)
pop_held None state ks ds now out = pop_exit (timers_exit (broken_words state) ks ds) out

abbrev pub pop : List ℕ → List ℕ → List ℕ → ℕ → List ℕ → PopExit WordsExit
pop state ks ds now out = pop_held (held_timers state) state ks ds now out

-- the earliest deadline
abbrev pub earliest_code : Result (Option ℕ) Refusal → ℕ
earliest_code a = optional_answer a nothing_status

unfoldable pub earliest_held : Option MultiTimer → List ℕ → List ℕ → ℕ
earliest_held (Some t) ks ds = earliest_code (earliest_deadline t ks ds)
earliest_held None ks ds = refusal_answer State

abbrev pub earliest : List ℕ → List ℕ → List ℕ → ℕ
earliest state ks ds = earliest_held (held_timers state) ks ds

-- no timer runs any more; the generation stays
abbrev pub cleared : List ℕ → ClearResult → WordsExit
cleared state x = words_exit (done_answer x.answer) (with_timers state x.timers)

unfoldable pub clear_held : Option MultiTimer → List ℕ → List ℕ → List ℕ → TimersExit WordsExit
clear_held (Some t) state ks ds = answering (cleared state) (clear_timers t ks ds)
clear_held None state ks ds = timers_exit (broken_words state) ks ds

abbrev pub clear : List ℕ → List ℕ → List ℕ → TimersExit WordsExit
clear state ks ds = clear_held (held_timers state) state ks ds
