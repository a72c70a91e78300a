-- The timers that have run out: the ends stay those of a list of calls.
use Rattle.std.specs.Prelude.{None}
use Prim.Native.Nat.{ℕ}
use mathlib.Core.Path.{◌≡◌, refl, subst}
use mathlib.Core.Bool.{Bool, true, false, cond}
use mathlib.Core.List.{List, [], ◌∷◌}
use lib.Ieee.{Float}
use Rattle.channel.specs.declared.ChannelConfig.{ChannelConfig}
use Rattle.path.specs.Direction.{Direction}
use Rattle.path.specs.Path.{is_going}
use Rattle.rto.specs.Rto.{on_timeout_unchecked}
use Rattle.clock.specs.Clock.{due, cancel_number}
use Rattle.clock.specs.declared.Timing.{Timing}
use Rattle.clock.specs.declared.Timing.TheVariants.{PerNumber}
use Rattle.clock.specs.declared.Due.{Due}
use Rattle.clock.specs.declared.Due.TheVariants as ran
use Rattle.session.specs.Sending.{has_outstanding, oldest_outstanding, resent}
use Rattle.session.specs.Receiving.{ReceiverEnd}
use Rattle.session.specs.declared.Timeout.{Timeout}
use Rattle.session.specs.declared.Timeout.TheVariants as timeout
use Rattle.session.proofs.Laws.{ResentAs, resent_as}
use Rattle.sending.specs.Retransmit.{CanRetransmitAll, ceiling_met, exhausted, retransmit_all}
use Rattle.timeouts.specs.Timeouts.{FireState, fire_state, fire_exit, with_resends, with_clock, resending, timed_out, timeout_of, stopped, fire_number, fire_numbers, expired, by_due, fire_timers}
use Rattle.timeouts.specs.Good.{GoodFire}
use Rattle.timeouts.proofs.Laws.{sender_unbroken, can_resend_all}
use Rattle.completion.proofs.Reached.{Start}
use Rattle.completion.proofs.Resending.{none_resubmitted}
use Rattle.completion.proofs.Runs.{RunsOutgoing, runs_timed_out, runs_resent}

-- what a timeout asks so that its packets can be sent again
pub record CanTimeOut (t : Timing) (rolls : List Float) (now : ℕ) (of : Timeout) (f : FireState) : Type 0 where
  pub resends : ResentAs f.sender of
  pub can : CanRetransmitAll t rolls (on_timeout_unchecked f.estimator).current_rto now (resent f.sender of).after resends.first resends.count f.resends f.outgoing

pub good_can_time_out : {t : Timing} {rolls : List Float} {samples now : ℕ} {f : FireState} → GoodFire t rolls samples now f → (of : Timeout) → CanTimeOut t rolls now of f
good_can_time_out {f = f} g of =
    let again = resent_as f.sender of (sender_unbroken g) in
    let same = again.same in
    record { resends = again; can = can_resend_all g of refl (record { from = rw same.base again.within.from; below = rw same.next again.within.below }) refl }

module _ (s : Start) (c : ChannelConfig) (rolls : List Float) (r : ReceiverEnd) (output : List ℕ) (reverse : Direction) where
  abbrev pub RunsFire : FireState → Type 0
  RunsFire f = RunsOutgoing s c rolls f.sender r output f.outgoing reverse

  module _ (limit now : ℕ) where
    pub runs_time_out : (t : Timing) (of : Timeout) (f : FireState) → CanTimeOut t rolls now of f → RunsFire f → RunsFire (timed_out limit t rolls now of f).state
    unfolding timed_out
    runs_time_out t of f can q = go (resent f.sender of).packets refl
      where
        again : FireState
        again = fire_state (resent f.sender of).after f.estimator f.resends f.outgoing

        go : (packets : List (List ℕ)) → (resent f.sender of).packets ≡ packets → RunsFire (resending limit t rolls now packets again).state
        go [] e = runs_timed_out of (none_resubmitted {o = f.outgoing} q.logged) q
        go (packet ∷ packets) e =
            subst (λ (l : List (List ℕ)). RunsOutgoing s c rolls (resent f.sender of).after r output (retransmit_all limit t rolls (on_timeout_unchecked f.estimator).current_rto now (oldest_outstanding (resent f.sender of).after.sender) l f.resends f.outgoing).outgoing reverse) e
            (runs_resent limit (oldest_outstanding (resent f.sender of).after.sender) of can.resends can.can q)

    -- ---- one number after the other. Can: what the loop asks
    module _ (Can : FireState → Type 0)
        (number : (n : ℕ) (f : FireState) → Can f → ceiling_met limit f.resends ≡ false → CanTimeOut PerNumber rolls now (timeout.Number n) (with_clock f (cancel_number f.outgoing.clock n)))
        (goes_on : (n : ℕ) (f : FireState) → Can f → ceiling_met limit f.resends ≡ false → is_going (fire_number limit rolls now n f).stop ≡ true → Can (fire_number limit rolls now n f).state) where
      runs_number : (n : ℕ) (f : FireState) → Can f → ceiling_met limit f.resends ≡ false → RunsFire f → RunsFire (fire_number limit rolls now n f).state
      unfolding fire_number
      runs_number n f can e q = runs_time_out PerNumber (timeout.Number n) (with_clock f (cancel_number f.outgoing.clock n)) (number n f can e) q

      pub runs_numbers : (ns : List ℕ) (f : FireState) → Can f → RunsFire f → RunsFire (fire_numbers limit rolls now ns f).state
      unfolding fire_numbers
      runs_numbers [] f can q = q
      runs_numbers (n ∷ ns) f can q = by_ceiling (ceiling_met limit f.resends) refl (λ k p. runs_numbers ns (fire_number limit rolls now n f).state k p)
        where
          by_stop_lem : ceiling_met limit f.resends ≡ false → (Can (fire_number limit rolls now n f).state → RunsFire (fire_number limit rolls now n f).state → RunsFire (fire_numbers limit rolls now ns (fire_number limit rolls now n f).state).state)
              → (b : Bool) → is_going (fire_number limit rolls now n f).stop ≡ b → RunsFire (cond b (fire_numbers limit rolls now ns (fire_number limit rolls now n f).state) (fire_number limit rolls now n f)).state
          by_stop_lem e next true g = next (goes_on n f can e g) (runs_number n f can e q)
          by_stop_lem e next false g = runs_number n f can e q

          by_ceiling : (b : Bool) → ceiling_met limit f.resends ≡ b → (Can (fire_number limit rolls now n f).state → RunsFire (fire_number limit rolls now n f).state → RunsFire (fire_numbers limit rolls now ns (fire_number limit rolls now n f).state).state)
              → RunsFire (cond b (fire_exit (with_resends f (exhausted f.resends)) true (None)) (cond (is_going (fire_number limit rolls now n f).stop) (fire_numbers limit rolls now ns (fire_number limit rolls now n f).state) (fire_number limit rolls now n f))).state
          by_ceiling true e next = q
          by_ceiling false e next = by_stop_lem e next (is_going (fire_number limit rolls now n f).stop) refl

      -- ---- all that have run out
      pub runs_fired : (t : Timing) (f : FireState) → (ceiling_met limit f.resends ≡ false → due t f.outgoing.clock now (has_outstanding f.sender.sender) ≡ ran.Numbers → Can f)
          → (ceiling_met limit f.resends ≡ false → due t f.outgoing.clock now (has_outstanding f.sender.sender) ≡ ran.Single → CanTimeOut t rolls now (timeout_of t) (with_clock f (stopped f.outgoing.clock)))
          → RunsFire f → RunsFire (fire_timers limit t rolls now f).state
      unfolding fire_timers
      runs_fired t f can single q = by_ceiling (ceiling_met limit f.resends) refl
        where
          by_due_lem : ceiling_met limit f.resends ≡ false → (d : Due) → due t f.outgoing.clock now (has_outstanding f.sender.sender) ≡ d → RunsFire (by_due d limit t rolls now f).state
          by_due_lem e ran.Nothing h = q
          by_due_lem e ran.Idle h = q
          by_due_lem e ran.Single h = runs_time_out t (timeout_of t) (with_clock f (stopped f.outgoing.clock)) (single e h) q
          by_due_lem e ran.Numbers h = runs_numbers (expired f.outgoing.clock now) f (can e h) q

          by_ceiling : (b : Bool) → ceiling_met limit f.resends ≡ b → RunsFire (cond b (fire_exit (with_resends f (exhausted f.resends)) false (None)) (by_due (due t f.outgoing.clock now (has_outstanding f.sender.sender)) limit t rolls now f)).state
          by_ceiling true e = q
          by_ceiling false e = by_due_lem e (due t f.outgoing.clock now (has_outstanding f.sender.sender)) refl
