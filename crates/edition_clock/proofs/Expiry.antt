-- (5.4) to (5.6) of `fire_timers`: an expiry with something outstanding sends the earliest packet again, doubles the RTO and
-- starts the timer with it; with nothing outstanding it only stops the timer.
use Rattle.std.specs.Prelude.{Option, Err, None, Ok, Result}
use Prim.Native.Nat.{ℕ, ◌+◌, ◌*◌, ◌≤◌, min, max}
use native.Mathlib.Omega.{arith}
use mathlib.Core.Path.{◌≡◌, refl, sym, ap, ◌∙◌, subst}
use mathlib.Core.Bool.{Bool, true, false}
use mathlib.Core.List.{List, [], ◌∷◌}
use lib.Ieee.{Float}
use Rattle.timer.specs.Timer.{expired_at, cancelled_unchecked}
use Rattle.window.specs.Slots.{datagram_for}
use Rattle.delivery.specs.Calls.{number_of}
use Rattle.rto.specs.Rto.{on_timeout_unchecked}
use Rattle.rto.specs.declared.RtoConfig.{RtoConfig}
use Rattle.rto.specs.declared.RtoEstimator.{RtoEstimator}
use Rattle.path.specs.Path.{left_by_carry, carry, is_going}
use Rattle.path.proofs.Laws.{going_is}
use Rattle.events.specs.Events.{events_of}
use Rattle.clock.specs.Clock.{timer_of, Submission, cancel, due}
use Rattle.clock.specs.declared.Timing.TheVariants.{Edition}
use Rattle.clock.proofs.Laws.{expiry_due, expiry_idle, not_due}
use Rattle.session.specs.Sending.{SenderEnd, window_of, window_end, has_outstanding, oldest_outstanding, resent}
use Rattle.session.specs.declared.Timeout.TheVariants.{Earliest}
use Rattle.session.proofs.Laws.{datagram_number}
use Rattle.submission.specs.Submission.{Outgoing, outgoing, note_before, entry_free, on_carriage, submit}
use Rattle.submission.proofs.Laws.{event_made, submit_forward, going_written, going_events}
use Rattle.sending.specs.Retransmit.{RetransmitExit, retransmit_exit, retransmit, ceiling_met, retransmit_all}
use Rattle.sending.specs.declared.Resends.{Resends}
use Rattle.sending.proofs.Laws.{all_none, all_stopped, all_going}
use Rattle.timeouts.specs.Timeouts.{FireState, fire_state, FireExit, fire_exit, with_clock, after_resending, resending, timed_out, stopped, fire_timers}
use Rattle.timeouts.proofs.Laws.{timers_due_lem}
use Rattle.edition_clock.specs.Section5.{RtoTimer, min_rto, max_rto, started, on_sent, on_expiry, on_idle_expiry}
use Rattle.edition_clock.specs.AlongARun.{timer_with, EarliestAgain, with_rto, SameSending}
use Rattle.edition_clock.proofs.Rules.{submit_5_1}
use Rattle.edition_clock.proofs.Senders.{Again}
use Rattle.schedule.specs.declared.Deliveries.{Deliveries}
use Rattle.path.specs.declared.Stop.{Stop}
use Rattle.path.specs.declared.Stop.TheVariants as stop

-- ---- (5.5): the edition clock's setup has the limits of 1 s and 60 s, and doubled is never below the lower one
pub record EditionLimits (c : RtoConfig) : Type 0 where
  pub lower : c.min_rto ≡ min_rto
  pub upper : c.max_rto ≡ max_rto

doubled_within : (low high rto a b : ℕ) → a ≡ low → b ≡ high → low ≤ rto → min (max (rto * 2) a) b ≡ min (2 * rto) high
doubled_within low high rto a b e f h = omega arith

pub timeout_5_5 : (e : RtoEstimator) → EditionLimits e.config → min_rto ≤ e.current_rto → (on_timeout_unchecked e).current_rto ≡ min (2 * e.current_rto) max_rto
unfolding on_timeout_unchecked
timeout_5_5 e l h = doubled_within min_rto max_rto e.current_rto e.config.min_rto e.config.max_rto l.lower l.upper h

-- ---- one packet again
module _ (limit : ℕ) (rolls : List Float) (rto now : ℕ) (oldest : Option ℕ) (seq : ℕ) (packet : List ℕ) (r : Resends) (o : Outgoing) where
  abbrev sends : RetransmitExit
  sends = retransmit Edition rolls rto now oldest seq packet r o

  one_again : number_of packet ≡ seq → ceiling_met limit r ≡ false → retransmit_all limit Edition rolls rto now oldest (packet ∷ []) r o ≡ sends
  one_again n m = by_stop_lem (is_going sends.stop) refl
    where
      by_stop_lem : (b : Bool) → is_going sends.stop ≡ b → retransmit_all limit Edition rolls rto now oldest (packet ∷ []) r o ≡ sends
      by_stop_lem true g = all_going limit Edition rolls rto now oldest packet [] r o n m g ∙ all_none limit Edition rolls rto now oldest sends.resends sends.outgoing ∙ ap (retransmit_exit sends.resends sends.outgoing) (sym (going_is sends.stop g))
      by_stop_lem false g = all_stopped limit Edition rolls rto now oldest packet [] r o n m g

-- ---- the call, below the ceiling on what is sent again
module _ (limit : ℕ) (rolls : List Float) (now : ℕ) (s : FireState) (below : ceiling_met limit s.resends ≡ false) where
  abbrev fires : FireExit
  fires = fire_timers limit Edition rolls now s

  pub not_expired : expired_at (timer_of s.outgoing.clock).deadline now ≡ false → fires ≡ fire_exit s false (None)
  not_expired e = timers_due_lem limit Edition rolls now s below (sym (not_due s.outgoing.clock now (has_outstanding s.sender.sender) e))

  module _ (e : expired_at (timer_of s.outgoing.clock).deadline now ≡ true) where
    -- nothing is sent, RTO and counts are kept, the timer is stopped
    pub idle_expiry : has_outstanding s.sender.sender ≡ false → fires ≡ fire_exit (with_clock s (stopped s.outgoing.clock)) true (None)
    idle_expiry o = timers_due_lem limit Edition rolls now s below (sym (ap (due Edition s.outgoing.clock now) o ∙ expiry_idle s.outgoing.clock now e))

    module _ (o : has_outstanding s.sender.sender ≡ true) {most : ℕ} (a : Again most s.sender) where
      abbrev pub marked : SenderEnd
      marked = (resent s.sender Earliest).after

      abbrev pub backed : RtoEstimator
      backed = on_timeout_unchecked s.estimator

      abbrev base : ℕ
      base = (window_of s.sender.sender).send_base

      abbrev packet : List ℕ
      packet = datagram_for (window_end marked) base

      abbrev again : Submission
      again = record { time = now; seq = base; rto = backed.current_rto; retransmission = true; oldest = oldest_outstanding marked.sender }

      abbrev halted : Outgoing
      halted = (with_clock s (stopped s.outgoing.clock)).outgoing

      abbrev pub resends : RetransmitExit
      resends = retransmit Edition rolls backed.current_rto now (oldest_outstanding marked.sender) base packet s.resends halted

      -- the whole call
      pub expiry_is : fires ≡ after_resending marked backed resends
      unfolding timed_out
      expiry_is =
          timers_due_lem limit Edition rolls now s below (sym (ap (due Edition s.outgoing.clock now) o ∙ expiry_due s.outgoing.clock now e))
          ∙ ap (λ (ps : List (List ℕ)). resending limit Edition rolls now ps (fire_state marked s.estimator s.resends halted)) a.packets
          ∙ ap (after_resending marked backed) (one_again limit rolls backed.current_rto now (oldest_outstanding marked.sender) base packet s.resends halted (datagram_number (window_end marked) base) below)

      pub expiry_resent : fires.state.resends.retx_submitted ≡ s.resends.retx_submitted + 1
      unfolding retransmit
      expiry_resent = ap (λ (x : FireExit). x.state.resends.retx_submitted) expiry_is

      -- (5.5)
      pub expiry_5_5 : EditionLimits s.estimator.config → min_rto ≤ s.estimator.current_rto → fires.state.estimator.current_rto ≡ min (2 * s.estimator.current_rto) max_rto
      expiry_5_5 l h = ap (λ (x : FireExit). x.state.estimator.current_rto) expiry_is ∙ timeout_5_5 s.estimator l h

      module _ (g : is_going fires.stop ≡ true) where
        carried : (submit Edition rolls again packet halted).stop ≡ None
        unfolding retransmit
        carried = going_is _ (subst (λ (x : FireExit). is_going x.stop ≡ true) expiry_is g)

        -- (5.4)
        pub expiry_5_4 : EarliestAgain s fires.state
        unfolding retransmit
        expiry_5_4 =
            record {
              event = event_made rolls again packet halted;
              seq = refl;
              again = refl;
              events = ap (λ (x : FireExit). events_of x.state.outgoing.written x.state.outgoing.events) expiry_is ∙ going_events Edition rolls again packet halted carried;
            }

        pub expiry_written : fires.state.outgoing.written ≡ s.outgoing.written + 1
        unfolding retransmit
        expiry_written = ap (λ (x : FireExit). x.state.outgoing.written) expiry_is ∙ going_written Edition rolls again packet halted carried

        -- (5.5), (5.6)
        pub expiry_5_6 : EditionLimits s.estimator.config → min_rto ≤ s.estimator.current_rto
            → timer_with fires.state.outgoing.clock fires.state.estimator.current_rto ≡ on_expiry now (timer_with s.outgoing.clock s.estimator.current_rto)
        unfolding retransmit cancel cancelled_unchecked
        expiry_5_6 l h =
            ap (λ (x : FireExit). timer_with x.state.outgoing.clock x.state.estimator.current_rto) expiry_is
            ∙ submit_5_1 rolls again packet halted carried ∙ ap (started now) (timeout_5_5 s.estimator l h)

-- ---- sent first, as (5.4) stands before (5.5), or doubled first, as the source's order is: the packet's way, its event and the
-- deadline are the same
pub sent_first : (rolls : List Float) (x : Submission) (rto : ℕ) (wire : List ℕ) (o : Outgoing) → SameSending (submit Edition rolls x wire o) (submit Edition rolls (with_rto x rto) wire o)
unfolding submit
sent_first rolls x rto wire o =
    let y = with_rto x rto in
    record {
      forward = submit_forward Edition rolls x wire o ∙ sym (submit_forward Edition rolls y wire o);
      written = (by_answer (carry o.forward rolls (entry_free o) x.time wire).result.answer).0;
      events = (by_answer (carry o.forward rolls (entry_free o) x.time wire).result.answer).1;
      stop = refl;
    }
  where
    before : ℕ → Outgoing
    before r = outgoing (left_by_carry (carry o.forward rolls (entry_free o) x.time wire)) (note_before o.metas x.seq x.retransmission x.time r) o.written o.events o.clock

    by_answer : (a : Result (Deliveries × ℕ) Stop) → ((on_carriage a Edition x (before x.rto)).written ≡ (on_carriage a Edition (with_rto x rto) (before rto)).written) × ((on_carriage a Edition x (before x.rto)).events ≡ (on_carriage a Edition (with_rto x rto) (before rto)).events)
    by_answer (Ok (ds, fold)) = (refl, refl)
    by_answer (Err why) = (refl, refl)

pub sent_first_deadline : (now : ℕ) (x : RtoTimer) → on_expiry now (on_sent now (on_idle_expiry x)) ≡ on_expiry now x
sent_first_deadline now x = refl
