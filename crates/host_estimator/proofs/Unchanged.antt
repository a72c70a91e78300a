-- A refused call changes no word and no double.
use Rattle.std.specs.Prelude.{Err, None, Ok, Option, Result, Some}
use Prim.Native.Nat.{ℕ}
use mathlib.Core.Path.{◌≡◌, refl, ap, ◌∙◌}
use mathlib.Core.Bool.{Bool, true, false, not, cond}
use mathlib.Core.List.{List, [], ◌∷◌}
use lib.ListN.{length, set}
use lib.Dec.{ltb}
use lib.Ieee.{Float}
use Rattle.refusal.specs.Clauses.{any_of}
use Rattle.refusal.specs.declared.Refusal.TheVariants.{State, Setup, Full}
use Rattle.refusal.specs.Order.{check, verdict}
use Rattle.refusal.proofs.Laws.{either_answer}
use Rattle.rto.specs.Rto.{config_in_bounds, fresh, call_verdict, held_too_long, sample_too_long, update_rtt_unchecked, update_result, update_rtt, on_timeout_unchecked, timeout_result, on_timeout, reset_backoff_unchecked, reset_result, reset_backoff}
use Rattle.rto.specs.declared.RtoConfig.{RtoConfig}
use Rattle.rto.specs.declared.RtoEstimator.{RtoEstimator}
use Rattle.rto.specs.declared.UpdateResult.{UpdateResult}
use Rattle.rto.specs.declared.TimeoutResult.{TimeoutResult}
use Rattle.rto.specs.declared.ResetResult.{ResetResult}
use Rattle.host_answer.specs.Answer.{packed, refusal_answer, test_answer, done_answer, Refusing}
use Rattle.host_answer.proofs.Laws.{done_not_refusing}
use Rattle.host_estimator.specs.Words.{estimator_words, estimator_doubles, held_estimator, with_words, with_doubles}
use Rattle.host_estimator.specs.Estimator.{EstimatorExit, estimator_exit, left, on_held, make_estimator, update_code, update, rto_code, timeout, reset, mean_exit, mean_to, mean}
use Rattle.host_estimator.proofs.Held.{words_back, doubles_back}
use Rattle.refusal.specs.declared.Refusal.{Refusal}
use Rattle.refusal.specs.Order.{passed}

-- an estimator's call that keeps the estimator where it is refused
abbrev Keeps : {R : Type 0} → (R → ℕ) → (R → RtoEstimator) → RtoEstimator → R → Type 0
Keeps code estimator e r = Refusing (code r) → estimator r ≡ e

update_keeps : (sample : ℕ) (again : Bool) (e : RtoEstimator) → Keeps (λ x. update_code x.answer) (λ x. x.estimator) e (update_rtt e sample again)
unfolding update_rtt test_answer
update_keeps sample again e =
    either_answer (Keeps {R = UpdateResult} (λ x. update_code x.answer) (λ x. x.estimator) e) (call_verdict e (sample_too_long e sample)) (λ r. update_result e (Err r))
    (update_result (update_rtt_unchecked e sample again) (Ok (not again))) (λ r h. refl) (λ v h. absurd (done_not_refusing _ h))

timeout_keeps : (e : RtoEstimator) → Keeps (λ x. rto_code x.answer) (λ x. x.estimator) e (on_timeout e)
unfolding on_timeout rto_code
timeout_keeps e =
    either_answer (Keeps {R = TimeoutResult} (λ x. rto_code x.answer) (λ x. x.estimator) e) (call_verdict e (held_too_long e)) (λ r. timeout_result e (Err r))
    (timeout_result (on_timeout_unchecked e) (Ok (on_timeout_unchecked e).current_rto)) (λ r h. refl) (λ v h. absurd (done_not_refusing _ h))

reset_keeps : (e : RtoEstimator) → Keeps (λ x. done_answer x.answer) (λ x. x.estimator) e (reset_backoff e)
unfolding reset_backoff done_answer
reset_keeps e =
    either_answer (Keeps {R = ResetResult} (λ x. done_answer x.answer) (λ x. x.estimator) e) (call_verdict e (held_too_long e)) (λ r. reset_result e (Err r))
    (reset_result (reset_backoff_unchecked e) passed) (λ r h. refl) (λ v h. absurd (done_not_refusing 0 h))

module _ (s : List ℕ) (d : List Float) where
  abbrev Same : EstimatorExit → Type 0
  Same x = Refusing x.answer → (x.words ≡ s) × (x.doubles ≡ d)

  call_same : {R : Type 0} (call : RtoEstimator → R) (code : R → ℕ) (estimator : R → RtoEstimator) → ((e : RtoEstimator) → Keeps code estimator e (call e))
      → (h : Option RtoEstimator) → held_estimator s d ≡ h → Same (on_held h (λ x. left (code (call x)) s d (estimator (call x))) (estimator_exit (refusal_answer State) s d))
  unfolding on_held
  call_same call code estimator k (Some e) p r =
      let same = k e r in
      (ap (with_words s) same ∙ words_back s d p, ap (with_doubles d) same ∙ doubles_back s d p)
  call_same call code estimator k None p r = (refl, refl)

  pub update_refused : (sample : ℕ) (again : Bool) → Same (update s d sample again)
  update_refused sample again = call_same (λ e. update_rtt e sample again) (λ x. update_code x.answer) (λ x. x.estimator) (update_keeps sample again) (held_estimator s d) refl

  pub timeout_refused : Same (timeout s d)
  timeout_refused = call_same on_timeout (λ x. rto_code x.answer) (λ x. x.estimator) timeout_keeps (held_estimator s d) refl

  pub reset_refused : Same (reset s d)
  reset_refused = call_same reset_backoff (λ x. done_answer x.answer) (λ x. x.estimator) reset_keeps (held_estimator s d) refl

  pub make_refused : (c : RtoConfig) → Same (make_estimator s d c)
  unfolding make_estimator
  make_refused c =
      either_answer Same (verdict (check (not (config_in_bounds c)) Setup ∷ check (any_of (ltb (length s) estimator_words ∷ ltb (length d) estimator_doubles ∷ [])) Full ∷ []))
      (λ r. estimator_exit (refusal_answer r) s d) (left (packed 0 0) s d (fresh c)) (λ r h. (refl, refl)) (λ v h. absurd (done_not_refusing 0 h))

  mean_cases : (out : List Float) (x : Float) (b : Bool) → Refusing (cond b (mean_exit (refusal_answer Full) out) (mean_exit (packed 0 0) (set out 0 x))).answer
      → (cond b (mean_exit (refusal_answer Full) out) (mean_exit (packed 0 0) (set out 0 x))).out ≡ out
  mean_cases out x true h = refl
  mean_cases out x false h = absurd (done_not_refusing 0 h)

  mean_kept : (out : List Float) (a : Result Float Refusal) → Refusing (mean_to a out).answer → (mean_to a out).out ≡ out
  unfolding mean_to
  mean_kept out (Ok x) h = mean_cases out x (ltb (length out) 1) h
  mean_kept out (Err r) h = refl

  mean_same : (out : List Float) (call : RtoEstimator → Result Float Refusal) (h : Option RtoEstimator) → Refusing (on_held h (λ e. mean_to (call e) out) (mean_exit (refusal_answer State) out)).answer
      → (on_held h (λ e. mean_to (call e) out) (mean_exit (refusal_answer State) out)).out ≡ out
  unfolding on_held
  mean_same out call (Some e) h = mean_kept out (call e) h
  mean_same out call None h = refl

  pub mean_refused : (out : List Float) → Refusing (mean s d out).answer → (mean s d out).out ≡ out
  mean_refused out h = mean_same out _ (held_estimator s d) h
