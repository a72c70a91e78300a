-- The RTO estimator in lent words, 24 at least, and lent doubles, five at least.
-- Words: 0 the version of this layout times 256 and the kind 9; of the setup 1 initial_rto, 2 min_rto, 3 max_rto, 4
-- granularity; 5 and 6 srtt, 7 and 8 rttvar; 9 current_rto, 10 base_rto, 11 in_backoff, 12 consecutive_timeouts; 13
-- sample_count, 14 karn_rejected_count, 15 timeout_count, 16 backoff_count, 17 and 18 min_rtt, 19 and 20 max_rtt, 21
-- and 22 latest_rtt, 23 max_consecutive_timeouts. A duration that may be unset is 1 and the duration, or 0 and 0.
-- Doubles: 0 alpha, 1 beta, 2 k, 3 rto_multiplier, 4 sum_rtt_millis.
use Rattle.std.specs.Prelude.{ℕ, ◌+◌, ◌≤◌, List, [], ◌∷◌, ◌++◌, Bool, false, cond, not, length, get_or, drop, ltb, eqb}
use Rattle.std.specs.Prelude.{Float, None, Option, Some}
use Rattle.std.specs.Float.{nan}
use Rattle.refusal.specs.Clauses.{any_of}
use Rattle.rto.specs.declared.RtoConfig.{RtoConfig}
use Rattle.rto.specs.declared.RtoStats.{RtoStats}
use Rattle.rto.specs.declared.RtoEstimator.{RtoEstimator}
use Rattle.host_answer.specs.Exit.{wide}

abbrev pub estimator_words : ℕ
estimator_words = 24

abbrev pub estimator_doubles : ℕ
estimator_doubles = 5

abbrev pub estimator_word : ℕ
estimator_word = 265

-- a duration that may be unset, as two words
abbrev pub is_set : Option ℕ → ℕ
is_set None = 0
is_set (Some d) = 1

abbrev pub time_of : Option ℕ → ℕ
time_of None = 0
time_of (Some d) = d

unfoldable pub duration_of : ℕ → ℕ → Option ℕ
duration_of set time = cond (eqb set 1) (Some time) None

unfoldable pub duration_broken : ℕ → ℕ → Bool
duration_broken set time = cond (eqb set 1) false (any_of (not (eqb set 0) ∷ not (eqb time 0) ∷ []))

-- the estimator that words and doubles hold
abbrev pub duration_at : List ℕ → ℕ → Option ℕ
duration_at s i = duration_of (get_or s i 0) (get_or s (i + 1) 0)

abbrev pub config_in : List ℕ → List Float → RtoConfig
config_in s d =
    record {
      initial_rto = get_or s 1 0;
      min_rto = get_or s 2 0;
      max_rto = get_or s 3 0;
      granularity = get_or s 4 0;
      alpha = get_or d 0 nan;
      beta = get_or d 1 nan;
      k = get_or d 2 nan;
      rto_multiplier = get_or d 3 nan;
    }

abbrev pub stats_in : List ℕ → List Float → RtoStats
stats_in s d =
    record {
      sample_count = get_or s 13 0;
      karn_rejected_count = get_or s 14 0;
      timeout_count = get_or s 15 0;
      backoff_count = get_or s 16 0;
      min_rtt = duration_at s 17;
      max_rtt = duration_at s 19;
      sum_rtt_millis = get_or d 4 nan;
      latest_rtt = duration_at s 21;
      max_consecutive_timeouts = get_or s 23 0;
    }

abbrev pub estimator_in : List ℕ → List Float → RtoEstimator
estimator_in s d =
    record {
      config = config_in s d;
      srtt = duration_at s 5;
      rttvar = duration_at s 7;
      current_rto = get_or s 9 0;
      base_rto = get_or s 10 0;
      in_backoff = eqb (get_or s 11 0) 1;
      consecutive_timeouts = get_or s 12 0;
      stats = stats_in s d;
    }

-- too few words or doubles, another kind, a flag that is neither 0 nor 1, a count that isn't one of 32 bits
unfoldable pub numbers_broken : List ℕ → List Float → Bool
numbers_broken s d =
    any_of
    (ltb (length s) estimator_words
    ∷ ltb (length d) estimator_doubles
    ∷ not (eqb (get_or s 0 0) estimator_word)
    ∷ ltb 1 (get_or s 11 0)
    ∷ wide (get_or s 12 0)
    ∷ wide (get_or s 23 0)
    ∷ [])

abbrev pub broken_at : List ℕ → ℕ → Bool
broken_at s i = duration_broken (get_or s i 0) (get_or s (i + 1) 0)

unfoldable pub durations_broken : List ℕ → Bool
durations_broken s = any_of (broken_at s 5 ∷ broken_at s 7 ∷ broken_at s 17 ∷ broken_at s 19 ∷ broken_at s 21 ∷ [])

unfoldable pub held_estimator : List ℕ → List Float → Option RtoEstimator
held_estimator s d =
    cond (numbers_broken s d) None
    (cond (durations_broken s) None (Some (estimator_in s d)))

-- words and doubles with an estimator put into them
abbrev pub first_words : RtoConfig → Option ℕ → Option ℕ → List ℕ
first_words c srtt rttvar =
    estimator_word ∷ c.initial_rto ∷ c.min_rto ∷ c.max_rto ∷ c.granularity
    ∷ is_set srtt ∷ time_of srtt ∷ is_set rttvar ∷ time_of rttvar ∷ []

abbrev pub second_words : RtoEstimator → List ℕ
second_words e =
    e.current_rto ∷ e.base_rto ∷ cond e.in_backoff 1 0 ∷ e.consecutive_timeouts
    ∷ e.stats.sample_count ∷ e.stats.karn_rejected_count ∷ e.stats.timeout_count
    ∷ e.stats.backoff_count ∷ []

abbrev pub third_words : RtoStats → List ℕ
third_words s =
    is_set s.min_rtt ∷ time_of s.min_rtt ∷ is_set s.max_rtt ∷ time_of s.max_rtt
    ∷ is_set s.latest_rtt ∷ time_of s.latest_rtt ∷ s.max_consecutive_timeouts ∷ []

abbrev pub words_of : RtoEstimator → List ℕ
words_of e = first_words e.config e.srtt e.rttvar ++ second_words e ++ third_words e.stats

abbrev pub doubles_of : RtoEstimator → List Float
doubles_of e =
    e.config.alpha ∷ e.config.beta ∷ e.config.k ∷ e.config.rto_multiplier ∷ e.stats.sum_rtt_millis ∷ []

unfoldable pub with_words : List ℕ → RtoEstimator → List ℕ
with_words s e = words_of e ++ drop estimator_words s

unfoldable pub with_doubles : List Float → RtoEstimator → List Float
with_doubles d e = doubles_of e ++ drop estimator_doubles d

-- what the functions below the entry points ask
pub record Readable (s : List ℕ) (d : List Float) : Type 0 where
  pub words : estimator_words ≤ length s
  pub doubles : estimator_doubles ≤ length d
  pub consecutive : get_or s 12 0 ≤ 4294967295
  pub max_consecutive : get_or s 23 0 ≤ 4294967295

pub record Room (s : List ℕ) (d : List Float) : Type 0 where
  pub words : estimator_words ≤ length s
  pub doubles : estimator_doubles ≤ length d
