-- What a sample does to the estimator and to the notes.
use Rattle.std.specs.Prelude.{None, Option, Some}
use Prim.Native.Nat.{ℕ, ◌+◌, ◌-◌, ◌≤◌}
use mathlib.Core.Path.{◌≡◌, refl, ap}
use mathlib.Core.Bool.{Bool, true, false}
use mathlib.Core.Logic.{◌⊎◌, inl, inr, ⊎_elim}
use native.Mathlib.Nat.{le_trans}
use native.Mathlib.Omega.{arith}
use Rattle.bounds.specs.Bounds.{max_duration}
use Rattle.rows.specs.Rows.{is_set}
use Rattle.rto.specs.Rto.{update_rtt_unchecked, accept_sample, reject_sample, sampled}
use Rattle.rto.specs.declared.RtoEstimator.{RtoEstimator}
use Rattle.rto.proofs.Laws.{Doubles, Good, accept_good, reject_good}
use Rattle.notes.specs.SegMeta.{with_rtt_sampled}
use Rattle.notes.specs.Notes.{SegMetas, meta_at, update, SampleExit, take_sample}
use Rattle.notes.proofs.Laws.{sample_cases, sample_within}
use Rattle.clock.specs.Clock.{sample_rtt_exit, by_sample, sample_rtt}

-- a sample is one more of one count; setup and other counts stay
pub record Counted (before after : RtoEstimator) : Type 0 where
  pub config : after.config ≡ before.config
  pub samples : after.stats.sample_count + after.stats.karn_rejected_count ≤ before.stats.sample_count + before.stats.karn_rejected_count + 1
  pub timeouts : after.stats.timeout_count ≡ before.stats.timeout_count
  pub backoffs : after.stats.backoff_count ≡ before.stats.backoff_count

counted : (e : RtoEstimator) (x : Option (ℕ × Bool)) → Counted e (by_sample e x)
unfolding accept_sample reject_sample sampled
counted e None = record { config = refl; samples = omega arith; timeouts = refl; backoffs = refl }
counted e (Some (d, true)) = record { config = refl; samples = omega arith; timeouts = refl; backoffs = refl }
counted e (Some (d, false)) = record { config = refl; samples = omega arith; timeouts = refl; backoffs = refl }

module _ (e : RtoEstimator) (m : SegMetas) (seq now : ℕ) where
  -- the notes are those that `take_sample` leaves
  pub sample_rtt_metas : (sample_rtt e m seq now).metas ≡ (take_sample m seq now).metas
  unfolding sample_rtt
  sample_rtt_metas = refl

  -- nothing, or the time since the first sending, which counts unless the segment was sent again
  pub sample_rtt_cases : (sample_rtt e m seq now ≡ sample_rtt_exit m e)
      ⊎ (sample_rtt e m seq now ≡ sample_rtt_exit (update m seq with_rtt_sampled) (update_rtt_unchecked e (now - (meta_at m seq).original_send_at) (is_set (meta_at m seq).ever_retransmitted)))
  unfolding sample_rtt
  sample_rtt_cases = ⊎_elim (λ p. inl (ap (λ (x : SampleExit). sample_rtt_exit x.metas (by_sample e x.sample)) p)) (λ p. inr (ap (λ (x : SampleExit). sample_rtt_exit x.metas (by_sample e x.sample)) p)) (sample_cases m seq now)

  pub sample_rtt_good : Doubles e.config → Good e → now ≤ max_duration → Good (sample_rtt e m seq now).estimator
  unfolding sample_rtt
  sample_rtt_good f g h = go (take_sample m seq now).sample refl
    where
      by : (d : ℕ) (again : Bool) → d ≤ max_duration → Good (update_rtt_unchecked e d again)
      by d true l = reject_good e g
      by d false l = accept_good e d f g l

      go : (x : Option (ℕ × Bool)) → (take_sample m seq now).sample ≡ x → Good (by_sample e x)
      go None p = g
      go (Some (d, again)) p = by d again (le_trans (sample_within m seq now d again p) h)

  pub sample_rtt_counts : Counted e (sample_rtt e m seq now).estimator
  unfolding sample_rtt
  sample_rtt_counts = counted e (take_sample m seq now).sample
