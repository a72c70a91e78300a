-- The retransmission timer for a host: its state in lent words, four at least: 0 the version of this layout times 256
-- and the kind 8, 1 whether a deadline is set, 1 or 0, 2 the deadline, 0 where none is set, 3 the generation.
use Rattle.std.specs.Prelude.{ℕ, List, [], ◌∷◌, Bool, cond, not, length, get_or, set, ltb, eqb, None, Option, Result}
use Rattle.std.specs.Prelude.{Some}
use Rattle.refusal.specs.Clauses.{any_of}
use Rattle.refusal.specs.declared.Refusal.TheVariants.{State, Full}
use Rattle.refusal.specs.Order.{check, verdict, decide}
use Rattle.timer.specs.Timer.{timer, new_timer, started_at, cancelled, is_active, remaining_at, is_expired_at}
use Rattle.timer.specs.Timer.{is_expired_for_at}
use Rattle.timer.specs.declared.RetransmissionTimer.{RetransmissionTimer}
use Rattle.timer.specs.declared.TimerResult.{TimerResult}
use Rattle.host_answer.specs.Answer.{packed, done_status, nothing_status, refusal_answer, test_answer, done_answer}
use Rattle.host_answer.specs.Answer.{optional_answer}
use Rattle.host_answer.specs.Exit.{WordsExit, words_exit, broken_words}
use Rattle.refusal.specs.declared.Refusal.{Refusal}

abbrev pub timer_words : ℕ
timer_words = 4

abbrev pub timer_word : ℕ
timer_word = 264

unfoldable pub unreadable : List ℕ → Bool
unreadable s = any_of (ltb (length s) timer_words ∷ not (eqb (get_or s 0 0) timer_word) ∷ [])

-- words 1 and 2 of a timer without a deadline are 0
unfoldable pub not_unset : List ℕ → Bool
not_unset s = any_of (not (eqb (get_or s 1 0) 0) ∷ not (eqb (get_or s 2 0) 0) ∷ [])

unfoldable pub held_timer : List ℕ → Option RetransmissionTimer
held_timer s =
    cond (unreadable s) None
    (cond (eqb (get_or s 1 0) 1)
    (Some (timer (Some (get_or s 2 0)) (get_or s 3 0)))
    (cond (not_unset s) None (Some (timer None (get_or s 3 0)))))

abbrev pub is_set : Option ℕ → ℕ
is_set None = 0
is_set (Some d) = 1

abbrev pub time_of : Option ℕ → ℕ
time_of None = 0
time_of (Some d) = d

unfoldable pub with_timer : List ℕ → RetransmissionTimer → List ℕ
with_timer s t = set (set (set (set s 0 timer_word) 1 (is_set t.deadline)) 2 (time_of t.deadline)) 3 t.generation

-- making: 5 too few words
unfoldable pub make_timer : List ℕ → WordsExit
make_timer state =
    decide (verdict (check (ltb (length state) timer_words) Full ∷ []))
    (λ r. words_exit (refusal_answer r) state)
    (words_exit (packed done_status 0) (with_timer state new_timer))

-- a call of the timer that words hold
unfoldable pub on_held : {A : Type 0} → Option RetransmissionTimer → (RetransmissionTimer → A) → A → A
on_held (Some t) call broken = call t
on_held None call broken = broken

-- the generation is word 3
abbrev pub timer_code : Result ℕ Refusal → ℕ
timer_code a = done_answer a

abbrev pub changed : List ℕ → TimerResult → WordsExit
changed state x = words_exit (timer_code x.answer) (with_timer state x.timer)

abbrev pub start : List ℕ → ℕ → ℕ → WordsExit
start state now duration =
    on_held (held_timer state) (λ t. changed state (started_at t now duration)) (broken_words state)

abbrev pub cancel : List ℕ → WordsExit
cancel state = on_held (held_timer state) (λ t. changed state (cancelled t)) (broken_words state)

-- readings: nothing is changed
abbrev pub reading : List ℕ → (RetransmissionTimer → ℕ) → ℕ
reading state read = on_held (held_timer state) read (refusal_answer State)

abbrev pub active : List ℕ → ℕ
active state = reading state (λ t. test_answer (is_active t))

abbrev pub remaining_code : Result (Option ℕ) Refusal → ℕ
remaining_code a = optional_answer a nothing_status

abbrev pub remaining : List ℕ → ℕ → ℕ
remaining state now = reading state (λ t. remaining_code (remaining_at t now))

abbrev pub expired : List ℕ → ℕ → ℕ
expired state now = reading state (λ t. test_answer (is_expired_at t now))

abbrev pub expired_for : List ℕ → ℕ → ℕ → ℕ
expired_for state expected now = reading state (λ t. test_answer (is_expired_for_at t expected now))
