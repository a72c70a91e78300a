-- The timers and the window: what came of each packet that was due on the forward line.
use Rattle.std.specs.Prelude.{Option, None, Some}
use Prim.Native.Nat.{ℕ, ◌+◌, ◌<◌}
use native.Mathlib.Omega.{arith}
use mathlib.Core.Path.{◌≡◌, refl, sym, ap, subst}
use mathlib.Core.Bool.{Bool, true, false, cond, not, and-eq-true_iff}
use mathlib.Core.List.{List, [], ◌∷◌}
use lib.Ieee.{Float}
use lib.ListN.{length}
use Rattle.packet.proofs.Laws.{made_length}
use Rattle.packet.specs.Format.{new_packet}
use Rattle.packet.specs.declared.PacketType.TheVariants.{Data}
use Rattle.schedule.specs.State.{copies, lacks_room}
use Rattle.channel.specs.declared.ChannelConfig.{ChannelConfig}
use Rattle.channel.proofs.Laws.{counted_rises}
use Rattle.store.specs.Slot.{slot_at, slot_payload}
use Rattle.window.specs.Slots.{Sender, packet_for, slot_for, first_datagram, datagram_for}
use Rattle.chunks.specs.Chunks.{chunks_of}
use Rattle.path.specs.Direction.{schedule_of}
use Rattle.path.specs.Path.{rolls_spent, is_going}
use Rattle.path.specs.declared.Stop.{Stop}
use Rattle.path.specs.declared.Stop.TheVariants as stop
use Rattle.path.proofs.Laws.{next_rolls, granted}
use Rattle.rto.specs.Rto.{on_timeout_unchecked}
use Rattle.clock.specs.Clock.{ClockState, cancel_number, Submission}
use Rattle.clock.specs.declared.Timing.{Timing}
use Rattle.clock.specs.declared.Timing.TheVariants.{PerNumber}
use Rattle.session.specs.Sending.{SenderEnd, window_of, window_end, oldest_outstanding, resent}
use Rattle.session.specs.declared.Timeout.{Timeout}
use Rattle.session.specs.declared.Timeout.TheVariants as timeout
use Rattle.session.proofs.Laws.{ResentAs, resent_as}
use Rattle.submission.specs.Submission.{Outgoing, SubmitExit, entry_free, submit}
use Rattle.submission.proofs.Laws.{submit_spent, submit_no_entry, submit_full, submit_carried}
use Rattle.sending.specs.Sending.{PumpState, PumpExit, next_number, can_pump, send_one, pump_sends}
use Rattle.sending.specs.Good.{CanPump}
use Rattle.sending.specs.Retransmit.{RetransmitExit, retransmit, ceiling_met, exhausted, retransmit_all}
use Rattle.sending.specs.declared.Resends.{Resends}
use Rattle.sending.proofs.Laws.{chunk, given, written, sent_next, pump_turns, packets_from, by_numbers}
use Rattle.timeouts.specs.Timeouts.{FireState, FireExit, with_clock, stopped, timed_out, timeout_of, fire_number, fire_numbers, expired, fire_timers}
use Rattle.timeouts.specs.Good.{GoodFire}
use Rattle.timeouts.proofs.Laws.{timed_out_by, sender_unbroken, stopped_good, cancelled_good, fire_number_good, numbers_none, numbers_exhausted, numbers_going, numbers_stopped, timers_by}
use Rattle.departures.specs.Departures.{pump_of, pumped, is_going_on, send_due, CanSendDue}
use Rattle.departures.proofs.Laws.{fired, can_pump_lem}
use Rattle.run_ends.proofs.Lines.{seen, LineAt, line_due, line_going, line_stopped, line_carried}

-- a datagram is never empty
datagram_some : (v : Sender) (n : ℕ) → 0 < length (datagram_for v n)
unfolding datagram_for
datagram_some v n = let e = made_length (packet_for v n) (slot_payload (slot_at v.store (slot_for v.window n))) in omega arith

first_some : (v : Sender) (payload wire : List ℕ) → wire ≡ first_datagram v payload → 0 < length wire
first_some v payload wire e = let k = made_length (new_packet v.window.next_seq_num Data) payload in let l = ap length e in omega arith

next_more : (a b n : ℕ) → b ≡ a + 1 → b + n ≡ a + n + 1
next_more a b n e = omega arith

again_more : (a n : ℕ) → n + (a + 1) ≡ n + a + 1
again_more a n = omega arith

module _ (c : ChannelConfig) (rolls : List Float) where
  -- ---- the forward line after n packets: each that it carried has its event
  pub record ForwardAt (st : Option Stop) (n : ℕ) (o : Outgoing) : Type 0 where
    pub line : LineAt st c rolls (entry_free o) n o.forward
    pub events : o.written ≡ seen o.forward

  forward_due : {st : Option Stop} {n m : ℕ} {o : Outgoing} → m ≡ n → ForwardAt st n o → ForwardAt st m o
  forward_due e q = record { line = line_due e q.line; events = q.events }

  submit_at : (t : Timing) (x : Submission) (wire : List ℕ) (o : Outgoing) {n : ℕ} → 0 < length wire → ForwardAt (None) n o → ForwardAt (submit t rolls x wire o).stop (n + 1) (submit t rolls x wire o).outgoing
  submit_at t x wire o {n} some q = go (rolls_spent o.forward.path rolls) (entry_free o) (lacks_room (schedule_of o.forward) (copies (granted o.forward rolls))) refl refl refl
    where
      P : SubmitExit → Type 0
      P y = ForwardAt y.stop (n + 1) y.outgoing

      event_more : (w a b : ℕ) → w ≡ a → b ≡ a + 1 → w + 1 ≡ b
      event_more w a b h k = omega arith

      go : (a b k : Bool) → rolls_spent o.forward.path rolls ≡ a → entry_free o ≡ b → lacks_room (schedule_of o.forward) (copies (granted o.forward rolls)) ≡ k → P (submit t rolls x wire o)
      go true b k e f h = subst P (sym (submit_spent t rolls x wire o e)) (record { line = line_stopped x.time wire some q.line (Some stop.RollsSpent) refl e; events = q.events })
      go false false k e f h = subst P (sym (submit_no_entry t rolls x wire o e f)) (record { line = line_stopped x.time wire some q.line (Some stop.EventsFull) refl (e, f); events = q.events })
      go false true true e f h = subst P (sym (submit_full t rolls x wire o e f h)) (record { line = line_stopped x.time wire some q.line (Some stop.ScheduleFull) refl (e, f, h); events = q.events })
      go false true false e f h =
          subst P (sym (submit_carried t rolls x wire o (record { left = e; entry = f; room = h })))
          (record { line = line_carried x.time wire some q.line _; events = event_more o.written (seen o.forward) _ q.events (counted_rises o.forward.path.channel.config (next_rolls o.forward rolls) (length wire) o.forward.path.channel.stats).seen })

  as_going : {st : Option Stop} {n : ℕ} {o : Outgoing} → is_going st ≡ true → ForwardAt st n o → ForwardAt (None) n o
  as_going g q = record { line = line_going g q.line; events = q.events }

  -- ---- the window; `again` packets were to be sent again
  module _ {t : Timing} {size : ℕ} {file : List ℕ} {total rto now : ℕ} (again : ℕ) where
    send_at : {s : PumpState} → CanPump t rolls size file total rto now s → can_pump total s.sender.sender ≡ true → ForwardAt (None) (next_number s + again) s.outgoing
        → ForwardAt (send_one t rolls (chunks_of size file) rto now s).stop (next_number (send_one t rolls (chunks_of size file) rto now s).state + again) (send_one t rolls (chunks_of size file) rto now s).state.outgoing
    unfolding send_one
    send_at {s} can free q = forward_due (next_more (next_number s) _ again (sent_next can free).next) (submit_at t (given can free) (written can free) s.outgoing (first_some (window_end s.sender) (chunk can free) (written can free) (sent_next can free).bytes) q)

    pub pump_at : (s : PumpState) → CanPump t rolls size file total rto now s → ForwardAt (None) (next_number s + again) s.outgoing
        → ForwardAt (pump_sends t rolls (chunks_of size file) rto now s).stop (next_number (pump_sends t rolls (chunks_of size file) rto now s).state + again) (pump_sends t rolls (chunks_of size file) rto now s).state.outgoing
    pump_at =
        pump_turns (λ (s : PumpState) (x : PumpExit). ForwardAt (None) (next_number s + again) s.outgoing → ForwardAt x.stop (next_number x.state + again) x.state.outgoing) (λ s can none q. q) (λ s x can free g rest q. rest (as_going g (send_at can free q)))
        (λ s can free g q. send_at can free q)

  -- ---- packets sent again; `next` numbers were used
  module _ (limit : ℕ) (t : Timing) (rto now : ℕ) (v : SenderEnd) (oldest : Option ℕ) (next : ℕ) where
    abbrev sends : ℕ → Resends → Outgoing → RetransmitExit
    sends first r o = retransmit t rolls rto now oldest first (datagram_for (window_end v) first) r o

    abbrev ResentAt : RetransmitExit → Type 0
    ResentAt y = ForwardAt y.stop (next + y.resends.retx_submitted) y.outgoing

    resend_one : (first : ℕ) (r : Resends) (o : Outgoing) → ForwardAt (None) (next + r.retx_submitted) o → ResentAt (sends first r o)
    unfolding retransmit
    resend_one first r o q = forward_due (again_more r.retx_submitted next) (submit_at t (record { time = now; seq = first; rto = rto; retransmission = true; oldest = oldest }) (datagram_for (window_end v) first) o (datagram_some (window_end v) first) q)

    resend_at : (count first : ℕ) (r : Resends) (o : Outgoing) → ForwardAt (None) (next + r.retx_submitted) o → ResentAt (retransmit_all limit t rolls rto now oldest (packets_from v first count) r o)
    resend_at =
        by_numbers limit t rolls rto now oldest v (λ first count r o. ForwardAt (None) (next + r.retx_submitted) o) ResentAt (λ first r o q. q) (λ first count r o q. q) (λ first count r o q g. resend_one first r o q)
        (λ first count r o q g. as_going g (resend_one first r o q))

  -- ---- the timers
  abbrev pub packets_due : FireState → ℕ
  packets_due s = (window_of s.sender.sender).next_seq_num + s.resends.retx_submitted

  abbrev pub FiredAt : FireExit → Type 0
  FiredAt x = ForwardAt x.stop (packets_due x.state) x.state.outgoing

  abbrev pub FireAt : FireState → Type 0
  FireAt s = ForwardAt (None) (packets_due s) s.outgoing

  module _ (limit now : ℕ) where
    timed_out_at : {t : Timing} {samples : ℕ} {s : FireState} → GoodFire t rolls samples now s → (of : Timeout) → FireAt s → FiredAt (timed_out limit t rolls now of s)
    timed_out_at {t} {samples} {s} g of q =
        timed_out_by limit t rolls now of s FiredAt (λ e. after)
        (λ h. rw again.packets_are
        (resend_at limit t (on_timeout_unchecked s.estimator).current_rto now (resent s.sender of).after (oldest_outstanding (resent s.sender of).after.sender) (window_of (resent s.sender of).after.sender).next_seq_num again.count again.first s.resends s.outgoing after))
      where
        again : ResentAs s.sender of
        again = resent_as s.sender of (sender_unbroken g)

        after : ForwardAt (None) ((window_of (resent s.sender of).after.sender).next_seq_num + s.resends.retx_submitted) s.outgoing
        after = forward_due (ap (λ (n : ℕ). n + s.resends.retx_submitted) again.same.next) q

    clock_at : (s : FireState) (k : ClockState) → FireAt s → FireAt (with_clock s k)
    clock_at s k q = record { line = q.line; events = q.events }

    number_at : {samples : ℕ} {s : FireState} → GoodFire PerNumber rolls samples now s → (n : ℕ) → FireAt s → FiredAt (fire_number limit rolls now n s)
    unfolding fire_number
    number_at {s = s} g n q = timed_out_at (cancelled_good g n) (timeout.Number n) (clock_at s (cancel_number s.outgoing.clock n) q)

    numbers_at : {samples : ℕ} (ns : List ℕ) (s : FireState) → GoodFire PerNumber rolls samples now s → FireAt s → FiredAt (fire_numbers limit rolls now ns s)
    numbers_at [] s g q = subst FiredAt (sym (numbers_none limit rolls now s)) q
    numbers_at (n ∷ ns) s g q =
        by_ceiling (ceiling_met limit s.resends) refl (λ m i. numbers_at ns (fire_number limit rolls now n s).state (fire_number_good g limit n m i) (as_going i (number_at g n q)))
      where
        Rest : Type 0
        Rest = ceiling_met limit s.resends ≡ false → is_going (fire_number limit rolls now n s).stop ≡ true → FiredAt (fire_numbers limit rolls now ns (fire_number limit rolls now n s).state)

        by_stop_lem : ceiling_met limit s.resends ≡ false → (b : Bool) → is_going (fire_number limit rolls now n s).stop ≡ b → Rest → FiredAt (fire_numbers limit rolls now (n ∷ ns) s)
        by_stop_lem m true i rest = subst FiredAt (sym (numbers_going limit rolls now n ns s m i)) (rest m i)
        by_stop_lem m false i rest = subst FiredAt (sym (numbers_stopped limit rolls now n ns s m i)) (number_at g n q)

        by_ceiling : (b : Bool) → ceiling_met limit s.resends ≡ b → Rest → FiredAt (fire_numbers limit rolls now (n ∷ ns) s)
        by_ceiling true m rest = subst FiredAt (sym (numbers_exhausted limit rolls now n ns s m)) q
        by_ceiling false m rest = by_stop_lem m (is_going (fire_number limit rolls now n s).stop) refl rest

    timers_at : {t : Timing} {samples : ℕ} {s : FireState} → GoodFire t rolls samples now s → FireAt s → FiredAt (fire_timers limit t rolls now s)
    timers_at {t} {samples} {s} g q =
        timers_by limit t rolls now s FiredAt (λ m. q) (λ m. q) (clock_at s (stopped s.outgoing.clock) q) (λ other. timed_out_at (stopped_good g) (timeout_of t) (clock_at s (stopped s.outgoing.clock) q))
        (λ e. numbers_at (expired s.outgoing.clock now) s (subst (λ (u : Timing). GoodFire u rolls samples now s) e g) q)

    -- and then the window
    pub send_due_at : {t : Timing} {size : ℕ} {file : List ℕ} {total samples : ℕ} {s : FireState} → CanSendDue t rolls size file total now s → GoodFire t rolls samples now s → FireAt s → FiredAt (send_due limit t rolls (chunks_of size file) now s)
    unfolding send_due
    send_due_at {t} {size} {file} {total} {samples} {s} can g q = by_test_lem (is_going_on (fired limit can)) refl
      where
        by_test_lem : (b : Bool) → is_going_on (fired limit can) ≡ b → FiredAt (cond b (pumped (fired limit can) (pump_sends t rolls (chunks_of size file) (fired limit can).state.estimator.current_rto now (pump_of (fired limit can).state))) (fired limit can))
        by_test_lem true e = pump_at (fired limit can).state.resends.retx_submitted (pump_of (fired limit can).state) (can_pump_lem limit can e) (as_going ((and-eq-true_iff (is_going (fired limit can).stop) (not (fired limit can).state.resends.exhausted)).0 e).0 (timers_at g q))
        by_test_lem false e = timers_at g q
