-- A state that a call answers is accepted by the next call.
use Rattle.std.specs.Prelude.{None, Option, Some}
use Rattle.std.proofs.Common.{◌≡◌, ℕ, ◌*◌, ◌≤◌, min, max, true, false, ◌||◌, T, ltb, refl, true≢false, le_trans, arith, lit≤, ltb-false, le-ltb}
use lib.Ieee.{binary64, fits}
use Rattle.bounds.specs.Bounds.{max_duration, max_estimate}
use Rattle.refusal.proofs.Laws.{or_false}
use Rattle.rtt.proofs.Range.{first_srtt_range, first_rttvar_range, next_srtt_range, next_rttvar_range}
use Rattle.rto.specs.Rto.{config_in_bounds, estimate_broken, state_broken, rtt_too_long, held_too_long, limited, no_stats, fresh, estimate_for, min_rtt, max_rtt, sampled, accept_sample, reject_sample, timed_out, on_timeout_unchecked, reset_backoff_unchecked}
use Rattle.rto.specs.declared.RtoConfig.{RtoConfig}
use Rattle.rto.specs.declared.RtoEstimator.{RtoEstimator}
use Rattle.rto.proofs.Checks.{Config, config_of, estimates_fit, broken_config, broken_estimate}

-- the doubles of a setup are doubles
pub record Doubles (c : RtoConfig) : Type 0 where
  pub alpha : T (fits binary64 c.alpha)
  pub beta : T (fits binary64 c.beta)
  pub k : T (fits binary64 c.k)
  pub multiplier : T (fits binary64 c.rto_multiplier)

pub record Good (e : RtoEstimator) : Type 0 where
  pub state : state_broken e ≡ false
  pub times : held_too_long e ≡ false

-- ---- check 9
state_good : (e : RtoEstimator) → config_in_bounds e.config ≡ true → estimate_broken e.srtt e.rttvar ≡ false → state_broken e ≡ false
unfolding state_broken
state_good e p q = simp (p, q)

-- SRTT and RTTVAR stay within 86,401 s
pub estimate_range : (c : RtoConfig) (s v : Option ℕ) (d : ℕ) → Config c → Doubles c → estimate_broken s v ≡ false → d ≤ max_duration → ((estimate_for c s v d).srtt ≤ max_estimate) × ((estimate_for c s v d).rttvar ≤ max_estimate)
unfolding estimate_for
estimate_range c None None d g f e h = let l : d ≤ max_estimate = le_trans h (lit≤ tt) in (first_srtt_range c.k c.rto_multiplier c.granularity d l, first_rttvar_range c.k c.rto_multiplier c.granularity d l)
estimate_range c None (Some v) d g f e h = absurd (true≢false e)
estimate_range c (Some s) None d g f e h = absurd (true≢false e)
estimate_range c (Some s) (Some v) d g f e h =
    let l : d ≤ max_estimate = le_trans h (lit≤ tt) in
    let x = estimates_fit s v e in (
      next_srtt_range c.alpha c.beta f.alpha f.beta g.alpha g.beta s v d x.0 x.1 l c.k c.rto_multiplier c.granularity,
      next_rttvar_range c.alpha c.beta f.alpha f.beta g.alpha g.beta s v d x.0 x.1 l c.k c.rto_multiplier c.granularity,
    )

fits_both : (s v : ℕ) → s ≤ max_estimate → v ≤ max_estimate → estimate_broken (Some s) (Some v) ≡ false
fits_both s v p q = simp (le-ltb max_estimate s p, le-ltb max_estimate v q)

-- ---- check 10
record Times (e : RtoEstimator) : Type 0 where
  current : e.current_rto ≤ max_duration
  base : e.base_rto ≤ max_duration
  min_in : rtt_too_long e.stats.min_rtt ≡ false
  max_in : rtt_too_long e.stats.max_rtt ≡ false
  latest : rtt_too_long e.stats.latest_rtt ≡ false

times_good : (e : RtoEstimator) → Times e → held_too_long e ≡ false
unfolding held_too_long
times_good e t = simp (le-ltb max_duration e.current_rto t.current, le-ltb max_duration e.base_rto t.base, t.min_in, t.max_in, t.latest)

times_of : (e : RtoEstimator) → held_too_long e ≡ false → Times e
unfolding held_too_long
times_of e h =
    let x = rtt_too_long e.stats.min_rtt in
    let y = rtt_too_long e.stats.max_rtt in
    let z = rtt_too_long e.stats.latest_rtt in
    let a = or_false (ltb max_duration e.current_rto) (ltb max_duration e.base_rto || (x || (y || z))) h in
    let b = or_false (ltb max_duration e.base_rto) (x || (y || z)) a.1 in
    let d = or_false x (y || z) b.1 in
    let l = or_false y z d.1 in
    record { current = ltb-false _ _ a.0; base = ltb-false _ _ b.0; min_in = d.0; max_in = l.0; latest = l.1 }

min_fits : (r : Option ℕ) (d : ℕ) → rtt_too_long r ≡ false → d ≤ max_duration → rtt_too_long (min_rtt r d) ≡ false
min_fits None d p h = le-ltb _ _ h
min_fits (Some m) d p h = le-ltb max_duration (min m d) (smaller m d h)
  where
    smaller : (m d : ℕ) → d ≤ max_duration → min m d ≤ max_duration
    smaller m d h = omega arith

max_fits : (r : Option ℕ) (d : ℕ) → rtt_too_long r ≡ false → d ≤ max_duration → rtt_too_long (max_rtt r d) ≡ false
max_fits None d p h = le-ltb _ _ h
max_fits (Some m) d p h = le-ltb max_duration (max m d) (larger m d (ltb-false _ _ p) h)
  where
    larger : (m d : ℕ) → m ≤ max_duration → d ≤ max_duration → max m d ≤ max_duration
    larger m d g h = omega arith

-- (2.4) and (2.5): within the limits
pub limited_max : (c : RtoConfig) (r : ℕ) → limited c r ≤ c.max_rto
limited_max c r = most (max r c.min_rto) c.max_rto
  where
    most : (a b : ℕ) → min a b ≤ b
    most a b = omega arith

pub limited_min : (c : RtoConfig) (r : ℕ) → c.min_rto ≤ c.max_rto → c.min_rto ≤ limited c r
limited_min c r h = least r c.min_rto c.max_rto h
  where
    least : (r lo hi : ℕ) → lo ≤ hi → lo ≤ min (max r lo) hi
    least r lo hi h = omega arith

-- ---- the calls
pub fresh_good : (c : RtoConfig) → config_in_bounds c ≡ true → Good (fresh c)
unfolding fresh no_stats
fresh_good c h =
    let i = (config_of c h).initial in
    record { state = state_good (fresh c) h refl; times = times_good (fresh c) (record { current = i; base = i; min_in = refl; max_in = refl; latest = refl }) }

pub accept_good : (e : RtoEstimator) (d : ℕ) → Doubles e.config → Good e → d ≤ max_duration → Good (accept_sample e d)
unfolding accept_sample sampled
accept_good e d f g h =
    let c = e.config in
    let cfg = config_of c (broken_config e g.state) in
    let t = times_of e g.times in
    let x = estimate_for c e.srtt e.rttvar d in
    let r = estimate_range c e.srtt e.rttvar d cfg f (broken_estimate e g.state) h in
    let l : limited c x.rto ≤ max_duration = le_trans (limited_max c x.rto) cfg.max in
    record {
      state = state_good (accept_sample e d) (broken_config e g.state) (fits_both x.srtt x.rttvar r.0 r.1);
      times = times_good (accept_sample e d) (record { current = l; base = l; min_in = min_fits e.stats.min_rtt d t.min_in h; max_in = max_fits e.stats.max_rtt d t.max_in h; latest = le-ltb _ _ h });
    }

-- a call that changes neither SRTT and RTTVAR nor any time but the RTO
module _ (e : RtoEstimator) (g : Good e) where
  t : Times e
  t = times_of e g.times

  pub reject_good : Good (reject_sample e)
  unfolding reject_sample state_broken held_too_long
  reject_good = record { state = g.state; times = g.times }

  pub backoff_good : Good (on_timeout_unchecked e)
  unfolding on_timeout_unchecked timed_out state_broken
  backoff_good =
      let l = le_trans (limited_max e.config (e.current_rto * 2)) (config_of e.config (broken_config e g.state)).max in
      record { state = g.state; times = times_good (on_timeout_unchecked e) (record { current = l; base = t.base; min_in = t.min_in; max_in = t.max_in; latest = t.latest }) }

  pub reset_good : Good (reset_backoff_unchecked e)
  unfolding reset_backoff_unchecked state_broken
  reset_good = record { state = g.state; times = times_good (reset_backoff_unchecked e) (record { current = t.base; base = t.base; min_in = t.min_in; max_in = t.max_in; latest = t.latest }) }
