-- A refused call changes nothing: where the status of an answer is 1 to 11, words, keys and deadlines are as they were.
use Rattle.std.specs.Prelude.{Err, None, Option, Some}
use Prim.Native.Nat.{ℕ, ◌+◌}
use mathlib.Core.Path.{◌≡◌, refl, ap, ◌∙◌}
use mathlib.Core.Bool.{Bool, true, false, cond, not}
use mathlib.Core.List.{List, [], ◌∷◌}
use lib.ListN.{length}
use lib.Dec.{ltb, eqb}
use Rattle.refusal.specs.declared.Refusal.TheVariants.{State, Full}
use Rattle.refusal.specs.Order.{check, verdict}
use Rattle.refusal.proofs.Laws.{either_answer}
use Rattle.multi_timer.specs.MultiTimer.{TimersExit, timers_exit, answering, new_unchecked, start_checks, start_result, started, start_timer_at_unchecked, start_timer_at, held_checks, cancel_result, cancelled, cancel_timer_unchecked, cancel_timer, used, pop_checks, PopExit, pop_exit, pop_result, pop_expired_at_unchecked, pop_expired_at, clear_result, clear_unchecked, clear_timers}
use Rattle.multi_timer.specs.MultiTimer as multi
use Rattle.multi_timer.specs.Map.{is_some, lookup, due_keys}
use Rattle.multi_timer.specs.declared.MultiTimer.{MultiTimer}
use Rattle.multi_timer.specs.declared.StartResult.{StartResult}
use Rattle.multi_timer.specs.declared.CancelResult.{CancelResult}
use Rattle.multi_timer.specs.declared.PopResult.{PopResult}
use Rattle.multi_timer.specs.declared.ClearResult.{ClearResult}
use Rattle.host_answer.specs.Answer.{refusal_answer, test_answer, count_answer, done_answer, Refusing}
use Rattle.host_answer.proofs.Laws.{done_not_refusing}
use Rattle.host_answer.specs.Exit.{WordsExit, words_exit, wide}
use Rattle.host_timers.specs.Timers as host
use Rattle.host_timers.specs.Timers.{timers_words, held_timers, made, make_timers, start_code, start_held, start, cancel_code, cancel_held, cancel, pop_code, pop_held, pop, clear_held, clear}
use Rattle.host_timers.proofs.Calls.{timers_back}

-- the exit of a call that changed nothing, with its answer
abbrev Same : List ℕ → List ℕ → List ℕ → TimersExit WordsExit → Type 0
Same state ks ds x = Refusing x.answer.answer → x ≡ timers_exit (words_exit x.answer.answer state) ks ds

module _ (state ks ds : List ℕ) where
  pub make_refused : Same state ks ds (make_timers state ks ds)
  unfolding make_timers new_unchecked
  make_refused =
      either_answer (Same state ks ds) (verdict (check (not (eqb (length ks) (length ds))) State ∷ check (ltb (length state) timers_words) Full ∷ []))
      (λ r. timers_exit (words_exit (refusal_answer r) state) ks ds) (answering (made state) (new_unchecked ks ds)) (λ r h. refl) (λ e h. absurd (done_not_refusing 0 h))

  abbrev StartKept : MultiTimer → TimersExit StartResult → Type 0
  StartKept t x = Refusing (start_code x.answer.answer) → x ≡ timers_exit (start_result t x.answer.answer) ks ds

  start_kept : (t : MultiTimer) (key now duration : ℕ) → StartKept t (start_timer_at t ks ds key now duration)
  unfolding start_timer_at done_answer
  start_kept t key now duration =
      either_answer (StartKept t) (verdict (start_checks t ks ds key now duration)) (λ r. timers_exit (start_result t (Err r)) ks ds)
      (answering started (start_timer_at_unchecked t ks ds key (now + duration))) (λ r h. refl) (λ e h. absurd (done_not_refusing 0 h))

  start_same : (h : Option MultiTimer) (key now duration : ℕ) → held_timers state ≡ h → Same state ks ds (start_held h state ks ds key now duration)
  unfolding start_held
  start_same (Some t) key now duration e r =
      ap (answering (host.started state)) (start_kept t key now duration r) ∙ ap (λ (w : List ℕ). timers_exit (words_exit (start_code (start_timer_at t ks ds key now duration).answer.answer) w) ks ds) (timers_back state e)
  start_same None key now duration e r = refl

  either_same : (b : Bool) (answer : ℕ) (x : TimersExit WordsExit) → Same state ks ds x → Same state ks ds (cond b (timers_exit (words_exit answer state) ks ds) x)
  either_same true answer x k h = refl
  either_same false answer x k h = k h

  pub start_refused : (key now duration : ℕ) → Same state ks ds (start state ks ds key now duration)
  start_refused key now duration = either_same (wide key) _ _ (start_same (held_timers state) key now duration refl)

  abbrev CancelKept : MultiTimer → TimersExit CancelResult → Type 0
  CancelKept t x = Refusing (cancel_code x.answer.answer) → x ≡ timers_exit (cancel_result t x.answer.answer) ks ds

  cancel_kept : (t : MultiTimer) (key : ℕ) → CancelKept t (cancel_timer t ks ds key)
  unfolding cancel_timer test_answer
  cancel_kept t key =
      either_answer (CancelKept t) (verdict (held_checks t ks ds)) (λ r. timers_exit (cancel_result t (Err r)) ks ds)
      (answering (cancelled (is_some (lookup key (used t ks ds)))) (cancel_timer_unchecked t ks ds key)) (λ r h. refl) (λ e h. absurd (done_not_refusing _ h))

  cancel_same : (h : Option MultiTimer) (key : ℕ) → held_timers state ≡ h → Same state ks ds (cancel_held h state ks ds key)
  unfolding cancel_held
  cancel_same (Some t) key e r =
      ap (answering (host.cancelled state)) (cancel_kept t key r) ∙ ap (λ (w : List ℕ). timers_exit (words_exit (cancel_code (cancel_timer t ks ds key).answer.answer) w) ks ds) (timers_back state e)
  cancel_same None key e r = refl

  pub cancel_refused : (key : ℕ) → Same state ks ds (cancel state ks ds key)
  cancel_refused key = either_same (wide key) _ _ (cancel_same (held_timers state) key refl)

  abbrev PopKept : MultiTimer → List ℕ → PopExit PopResult → Type 0
  PopKept t out x = Refusing (pop_code x.rest.answer.answer) → x ≡ pop_exit (timers_exit (pop_result t x.rest.answer.answer) ks ds) out

  pop_kept : (t : MultiTimer) (now : ℕ) (out : List ℕ) → PopKept t out (pop_expired_at t ks ds now out)
  unfolding pop_expired_at count_answer
  pop_kept t now out =
      either_answer (PopKept t out) (verdict (pop_checks t ks ds now (length out))) (λ r. pop_exit (timers_exit (pop_result t (Err r)) ks ds) out)
      (multi.popped (length (due_keys now (used t ks ds))) (pop_expired_at_unchecked t ks ds now out)) (λ r h. refl) (λ e h. absurd (done_not_refusing _ h))

  -- of a pop the slice for the keys too
  abbrev PopSame : List ℕ → PopExit WordsExit → Type 0
  PopSame out x = Refusing x.rest.answer.answer → x ≡ pop_exit (timers_exit (words_exit x.rest.answer.answer state) ks ds) out

  pop_same : (h : Option MultiTimer) (now : ℕ) (out : List ℕ) → held_timers state ≡ h → PopSame out (pop_held h state ks ds now out)
  unfolding pop_held
  pop_same (Some t) now out e r =
      ap (host.popped_exit state) (pop_kept t now out r) ∙ ap (λ (w : List ℕ). pop_exit (timers_exit (words_exit (pop_code (pop_expired_at t ks ds now out).rest.answer.answer) w) ks ds) out) (timers_back state e)
  pop_same None now out e r = refl

  pub pop_refused : (now : ℕ) (out : List ℕ) → PopSame out (pop state ks ds now out)
  pop_refused now out = pop_same (held_timers state) now out refl

  abbrev ClearKept : MultiTimer → TimersExit ClearResult → Type 0
  ClearKept t x = Refusing (done_answer x.answer.answer) → x ≡ timers_exit (clear_result t x.answer.answer) ks ds

  clear_kept : (t : MultiTimer) → ClearKept t (clear_timers t ks ds)
  unfolding clear_timers done_answer
  clear_kept t =
      either_answer (ClearKept t) (verdict (held_checks t ks ds)) (λ r. timers_exit (clear_result t (Err r)) ks ds)
      (answering multi.cleared (clear_unchecked t ks ds)) (λ r h. refl) (λ e h. absurd (done_not_refusing 0 h))

  clear_same : (h : Option MultiTimer) → held_timers state ≡ h → Same state ks ds (clear_held h state ks ds)
  unfolding clear_held
  clear_same (Some t) e r =
      ap (answering (host.cleared state)) (clear_kept t r) ∙ ap (λ (w : List ℕ). timers_exit (words_exit (done_answer (clear_timers t ks ds).answer.answer) w) ks ds) (timers_back state e)
  clear_same None e r = refl

  pub clear_refused : Same state ks ds (clear state ks ds)
  clear_refused = clear_same (held_timers state) refl
