-- (5.1) and (5.3) of the run's own calls: a packet that is submitted, a chunk that is sent, an ACK that is handed over.
use Rattle.std.specs.Prelude.{None, Some}
use Prim.Native.Nat.{ℕ}
use mathlib.Core.Path.{◌≡◌, refl, ap, ◌∙◌}
use mathlib.Core.Bool.{Bool, true, false, cond}
use mathlib.Core.List.{List}
use lib.Ieee.{Float}
use Rattle.packet.specs.Reading.{read_datagram}
use Rattle.timer.specs.Timer.{started_at_unchecked}
use Rattle.timer.specs.declared.RetransmissionTimer.{RetransmissionTimer}
use Rattle.path.specs.Path.{is_going}
use Rattle.window.specs.Acknowledgement.{is_in_window}
use Rattle.notes.specs.Notes.{SegMetas}
use Rattle.clock.specs.EditionClock.{is_running, on_send}
use Rattle.clock.specs.EditionClock as editionClock
use Rattle.clock.specs.Clock.{ClockState, timer_of, is_outstanding, Submission, arm_after_submit, rearm_after_ack, sample_rtt}
use Rattle.clock.specs.declared.Timing.TheVariants.{Edition}
use Rattle.session.specs.Sending.{window_of, oldest_outstanding, acknowledged}
use Rattle.session.specs.GoodSender.{SenderUnbroken}
use Rattle.submission.specs.Submission.{Outgoing, submit}
use Rattle.submission.proofs.Laws.{submit_going, submit_stopped}
use Rattle.sending.specs.Sending.{PumpState, send_one}
use Rattle.acks.specs.Acks.{AckState, ack_number, sample_seq, on_accepted, counted, on_ack}
use Rattle.acks.proofs.Laws.{on_ack_dropped, on_ack_duplicate, on_ack_accepted}
use Rattle.edition_clock.specs.Section5.{RtoTimer, rto_timer, started, on_sent, on_new_ack}
use Rattle.edition_clock.specs.AlongARun.{timer_with}

-- ---- (5.1)
on_send_is : (t : RetransmissionTimer) (now rto : ℕ) → rto_timer (on_send t now rto).deadline rto ≡ on_sent now (rto_timer t.deadline rto)
unfolding on_send started_at_unchecked
on_send_is t now rto = go (is_running t)
  where
    go : (b : Bool) → rto_timer (cond b t (started_at_unchecked t now rto)).deadline rto ≡ cond b (rto_timer t.deadline rto) (started now rto)
    go true = refl
    go false = refl

armed_5_1 : (c : ClockState) (m : SegMetas) (x : Submission) → timer_with (arm_after_submit Edition c m x) x.rto ≡ on_sent x.time (timer_with c x.rto)
unfolding arm_after_submit
armed_5_1 c m x = on_send_is (timer_of c) x.time x.rto

module _ (rolls : List Float) (x : Submission) (wire : List ℕ) (o : Outgoing) where
  -- a packet that is carried
  pub submit_5_1 : (submit Edition rolls x wire o).stop ≡ None → timer_with (submit Edition rolls x wire o).outgoing.clock x.rto ≡ on_sent x.time (timer_with o.clock x.rto)
  submit_5_1 e = ap (λ (y : Outgoing). timer_with y.clock x.rto) (submit_going Edition rolls x wire o e) ∙ armed_5_1 o.clock _ x

  -- one that isn't leaves the timer alone: it wasn't sent
  pub submit_not_sent : is_going (submit Edition rolls x wire o).stop ≡ false → (submit Edition rolls x wire o).outgoing.clock ≡ o.clock
  submit_not_sent e = ap (λ (y : Outgoing). y.clock) (submit_stopped Edition rolls x wire o e)

-- a new chunk
pub send_5_1 : (rolls : List Float) (chunks : List (List ℕ)) (rto now : ℕ) (s : PumpState) → (send_one Edition rolls chunks rto now s).stop ≡ None
    → timer_with (send_one Edition rolls chunks rto now s).state.outgoing.clock rto ≡ on_sent now (timer_with s.outgoing.clock rto)
unfolding send_one
send_5_1 rolls chunks rto now s e = submit_5_1 rolls _ _ s.outgoing e

-- ---- (5.3)
abbrev pub timer_at : AckState → RtoTimer
timer_at s = timer_with s.clock s.estimator.current_rto

restarted : (b : Bool) (t : RetransmissionTimer) (now rto : ℕ) → rto_timer (editionClock.on_ack b t now rto).deadline rto ≡ on_new_ack b now rto
unfolding editionClock.on_ack started_at_unchecked
restarted true t now rto = refl
restarted false t now rto = refl

pub accepted_5_3 : (now n seq : ℕ) (s : AckState) → timer_at (on_accepted Edition now n seq s) ≡ on_new_ack (is_outstanding (oldest_outstanding s.sender.sender)) now (on_accepted Edition now n seq s).estimator.current_rto
unfolding on_accepted rearm_after_ack
accepted_5_3 now n seq s = restarted (is_outstanding (oldest_outstanding s.sender.sender)) (timer_of s.clock) now (sample_rtt s.estimator s.metas seq now).estimator.current_rto

module _ (now : ℕ) (raw : List ℕ) (s : AckState) where
  abbrev after : AckState
  after = on_ack Edition now raw s

  module _ (n : ℕ) (h : SenderUnbroken s.sender) (e : ack_number (read_datagram raw) ≡ Some n) where
    -- an ACK of new data, by what it leaves outstanding
    pub ack_5_3 : is_in_window (window_of s.sender.sender) n ≡ true
        → timer_at after ≡ on_new_ack (is_outstanding (oldest_outstanding (acknowledged s.sender n).sender)) now after.estimator.current_rto
    ack_5_3 i = rw (on_ack_accepted Edition now raw s n h e i) (accepted_5_3 now n (sample_seq s.sender.sender.state n) (counted s (acknowledged s.sender n)))

    -- any other changes neither timer nor RTO
    pub ack_not_new : is_in_window (window_of s.sender.sender) n ≡ false → timer_at after ≡ timer_at s
    ack_not_new i = ap timer_at (on_ack_duplicate Edition now raw s n h e i)

  pub no_ack : ack_number (read_datagram raw) ≡ None → timer_at after ≡ timer_at s
  no_ack e = ap timer_at (on_ack_dropped Edition now raw s e)
