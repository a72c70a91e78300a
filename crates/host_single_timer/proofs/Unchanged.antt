-- A refused call changes no word; the time that remains survives the packing.
use Rattle.std.specs.Prelude.{Err, None, Ok, Option, Result, Some}
use Prim.Native.Nat.{ℕ, ◌-◌, ◌≤◌}
use mathlib.Core.Path.{◌≡◌, refl, ap, ◌∙◌}
use mathlib.Core.Bool.{false}
use mathlib.Core.List.{List, [], ◌∷◌}
use native.Mathlib.Omega.{arith}
use borrow.Author.Tests.{ltb-false}
use lib.ListN.{length}
use lib.Dec.{ltb}
use Rattle.bounds.specs.Bounds.{max_time}
use Rattle.refusal.specs.declared.Refusal.TheVariants.{Time, Full}
use Rattle.refusal.specs.Order.{check, verdict}
use Rattle.refusal.proofs.Laws.{either_answer, accepted_none_true, or_false}
use Rattle.timer.specs.Timer.{deadline_too_late, start_too_late, read_too_late, deadline_remaining, new_timer, next_generation, timer_result, started_at_unchecked, started_at, cancelled_unchecked, cancelled, remaining_at}
use Rattle.timer.specs.declared.RetransmissionTimer.{RetransmissionTimer}
use Rattle.timer.specs.declared.TimerResult.{TimerResult}
use Rattle.host_answer.specs.Answer.{packed, value_in, refusal_answer, done_answer, Refusing}
use Rattle.host_answer.specs.Exit.{WordsExit, words_exit, broken_words}
use Rattle.host_answer.proofs.Laws.{done_not_refusing, value_back}
use Rattle.host_single_timer.specs.SingleTimer.{timer_words, held_timer, with_timer, make_timer, on_held, timer_code, changed, start, cancel, remaining_code}
use Rattle.host_single_timer.proofs.Words.{timer_back}
use Rattle.refusal.specs.declared.Refusal.{Refusal}

abbrev Same : List ℕ → WordsExit → Type 0
Same state x = Refusing x.answer → x.words ≡ state

-- a timer's call that keeps the timer where it is refused
abbrev Keeps : (RetransmissionTimer → TimerResult) → Type 0
Keeps call = (t : RetransmissionTimer) → Refusing (timer_code (call t).answer) → (call t).timer ≡ t

start_keeps : (now duration : ℕ) → Keeps (λ t. started_at t now duration)
unfolding started_at done_answer
start_keeps now duration t =
    either_answer (λ (x : TimerResult). Refusing (timer_code x.answer) → x.timer ≡ t) (verdict (check (start_too_late t now duration) Time ∷ []))
    (λ r. timer_result t (Err r)) (timer_result (started_at_unchecked t now duration) (Ok (next_generation t.generation))) (λ r h. refl) (λ e h. absurd (done_not_refusing 0 h))

cancel_keeps : Keeps cancelled
unfolding cancelled done_answer
cancel_keeps t =
    either_answer (λ (x : TimerResult). Refusing (timer_code x.answer) → x.timer ≡ t) (verdict (check (deadline_too_late t.deadline) Time ∷ []))
    (λ r. timer_result t (Err r)) (timer_result (cancelled_unchecked t) (Ok (next_generation t.generation))) (λ r h. refl) (λ e h. absurd (done_not_refusing 0 h))

module _ (state : List ℕ) where
  call_same : (call : RetransmissionTimer → TimerResult) → Keeps call → (h : Option RetransmissionTimer) → held_timer state ≡ h → Same state (on_held h (λ t. changed state (call t)) (broken_words state))
  unfolding on_held
  call_same call k (Some t) e r = ap (with_timer state) (k t r) ∙ timer_back state e
  call_same call k None e r = refl

  pub start_refused : (now duration : ℕ) → Same state (start state now duration)
  start_refused now duration = call_same (λ t. started_at t now duration) (start_keeps now duration) (held_timer state) refl

  pub cancel_refused : Same state (cancel state)
  cancel_refused = call_same cancelled cancel_keeps (held_timer state) refl

  pub make_refused : Same state (make_timer state)
  unfolding make_timer
  make_refused =
      either_answer (Same state) (verdict (check (ltb (length state) timer_words) Full ∷ [])) (λ r. words_exit (refusal_answer r) state)
      (words_exit (packed 0 0) (with_timer state new_timer)) (λ r h. refl) (λ e h. absurd (done_not_refusing 0 h))

-- what remains is within the bound of times
within : (d : Option ℕ) (now n : ℕ) → deadline_too_late d ≡ false → deadline_remaining d now ≡ Ok (Some n) → n ≤ max_time
within None now n h e = let z : ◌≡◌ {A = ℕ} 0 1 = cc in absurd (omega arith)
within (Some d) now n h e = let same : d - now ≡ n = cc in let low = ltb-false max_time d h in omega arith

pub remaining_within : (t : RetransmissionTimer) (now n : ℕ) → remaining_at t now ≡ Ok (Some n) → n ≤ max_time
unfolding remaining_at
remaining_within t now n =
    either_answer (λ (x : Result (Option ℕ) Refusal). x ≡ Ok (Some n) → n ≤ max_time) (verdict (check (read_too_late t now) Time ∷ [])) Err (deadline_remaining t.deadline now)
    (λ r e. let z : ◌≡◌ {A = ℕ} 0 1 = cc in absurd (omega arith))
    (λ v e. within t.deadline now n (or_false (deadline_too_late t.deadline) (ltb max_time now) (accepted_none_true (check (read_too_late t now) Time ∷ []) v).0).0 e)

pub remaining_fits : (t : RetransmissionTimer) (now n : ℕ) → remaining_at t now ≡ Ok (Some n) → value_in (remaining_code (remaining_at t now)) ≡ n
remaining_fits t now n e = let small = remaining_within t now n e in rw e (value_back 0 n (omega arith) (omega arith))
