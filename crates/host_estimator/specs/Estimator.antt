-- The calls of the RTO estimator over lent words and doubles: the estimator's own on the one that they hold. 9 where
-- they hold none; at making 4 the setup out of bounds, 5 too few words or doubles.
use Rattle.std.specs.Prelude.{ℕ, List, [], ◌∷◌, Bool, cond, not, length, set, ltb, Float, Err, None, Ok, Option, Result}
use Rattle.std.specs.Prelude.{Some}
use Rattle.refusal.specs.Clauses.{any_of}
use Rattle.refusal.specs.declared.Refusal.TheVariants.{State, Setup, Full}
use Rattle.refusal.specs.Order.{check, verdict, decide}
use Rattle.rto.specs.Rto.{config_in_bounds, fresh, update_rtt, on_timeout, reset_backoff, has_exceeded_retry_limit}
use Rattle.rto.specs.Rto.{mean_rtt_ms}
use Rattle.rto.specs.declared.RtoConfig.{RtoConfig}
use Rattle.rto.specs.declared.RtoEstimator.{RtoEstimator}
use Rattle.rto.specs.declared.UpdateResult.{UpdateResult}
use Rattle.rto.specs.declared.TimeoutResult.{TimeoutResult}
use Rattle.rto.specs.declared.ResetResult.{ResetResult}
use Rattle.host_answer.specs.Answer.{packed, done_status, refusal_answer, test_answer, done_answer}
use Rattle.host_estimator.specs.Words.{estimator_words, estimator_doubles, held_estimator, with_words, with_doubles}
use Rattle.refusal.specs.declared.Refusal.{Refusal}

-- the answer, and the words and doubles when the call returns
pub record EstimatorExit : Type 0 where
  pub answer : ℕ
  pub words : List ℕ
  pub doubles : List Float

abbrev pub estimator_exit : ℕ → List ℕ → List Float → EstimatorExit
estimator_exit answer words doubles = record { answer = answer; words = words; doubles = doubles }

abbrev pub left : ℕ → List ℕ → List Float → RtoEstimator → EstimatorExit
left answer s d e = estimator_exit answer (with_words s e) (with_doubles d e)

-- a call of the estimator that words and doubles hold
unfoldable pub on_held : {A : Type 0} → Option RtoEstimator → (RtoEstimator → A) → A → A
on_held (Some e) call broken = call e
on_held None call broken = broken

abbrev pub changing : List ℕ → List Float → (RtoEstimator → EstimatorExit) → EstimatorExit
changing s d call = on_held (held_estimator s d) call (estimator_exit (refusal_answer State) s d)

-- a setup by its numbers
abbrev pub config_of : ℕ → ℕ → ℕ → ℕ → Float → Float → Float → Float → RtoConfig
config_of initial least most granularity alpha beta k multiplier =
    record {
      initial_rto = initial;
      min_rto = least;
      max_rto = most;
      granularity = granularity;
      alpha = alpha;
      beta = beta;
      k = k;
      rto_multiplier = multiplier;
    }

unfoldable pub make_estimator : List ℕ → List Float → RtoConfig → EstimatorExit
make_estimator s d c =
    decide
    (verdict (check (not (config_in_bounds c)) Setup
    ∷ check (any_of (ltb (length s) estimator_words ∷ ltb (length d) estimator_doubles ∷ [])) Full ∷ []))
    (λ r. estimator_exit (refusal_answer r) s d)
    (left (packed done_status 0) s d (fresh c))

-- a sample: 1 where it was used, 0 where it was one of a datagram sent again
abbrev pub update_code : Result Bool Refusal → ℕ
update_code = test_answer

abbrev pub updated : List ℕ → List Float → UpdateResult → EstimatorExit
updated s d x = left (update_code x.answer) s d x.estimator

abbrev pub update : List ℕ → List Float → ℕ → Bool → EstimatorExit
update s d sample again = changing s d (λ e. updated s d (update_rtt e sample again))

-- a timeout: the RTO
unfoldable pub rto_code : Result ℕ Refusal → ℕ
rto_code (Ok n) = packed done_status n
rto_code (Err r) = refusal_answer r

abbrev pub timed_out : List ℕ → List Float → TimeoutResult → EstimatorExit
timed_out s d x = left (rto_code x.answer) s d x.estimator

abbrev pub timeout : List ℕ → List Float → EstimatorExit
timeout s d = changing s d (λ e. timed_out s d (on_timeout e))

abbrev pub reset_as : List ℕ → List Float → ResetResult → EstimatorExit
reset_as s d x = left (done_answer x.answer) s d x.estimator

abbrev pub reset : List ℕ → List Float → EstimatorExit
reset s d = changing s d (λ e. reset_as s d (reset_backoff e))

-- whether so many timeouts or more came without a sample between them
abbrev pub exceeded : List ℕ → List Float → ℕ → ℕ
exceeded s d limit = on_held (held_estimator s d) (λ e. test_answer (has_exceeded_retry_limit e limit))
    (refusal_answer State)

-- the mean of the samples in milliseconds, to the first of out
pub record MeanExit : Type 0 where
  pub answer : ℕ
  pub out : List Float

abbrev pub mean_exit : ℕ → List Float → MeanExit
mean_exit answer out = record { answer = answer; out = out }

unfoldable pub mean_to : Result Float Refusal → List Float → MeanExit
mean_to (Ok x) out =
    cond (ltb (length out) 1) (mean_exit (refusal_answer Full) out) (mean_exit (packed done_status 0) (set out 0 x))
mean_to (Err r) out = mean_exit (refusal_answer r) out

abbrev pub mean : List ℕ → List Float → List Float → MeanExit
mean s d out = on_held (held_estimator s d) (λ e. mean_to (mean_rtt_ms e) out) (mean_exit (refusal_answer State) out)
