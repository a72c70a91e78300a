-- Selective Repeat's timers: each number that is outstanding and not acknowledged has one.
use Rattle.std.specs.Prelude.{None, Some, Option}
use Prim.Native.Nat.{ℕ}
use mathlib.Core.Path.{◌≡◌, refl, sym, ap, ◌∙◌, subst}
use mathlib.Core.Bool.{Bool, true, false, cond, not, true≢false, and-eq-true_iff}
use mathlib.Core.List.{List, [], ◌∷◌}
use lib.Dec.{eqb}
use lib.Ieee.{Float}
use lib.ListN.{take}
use borrow.Author.Tests.{eqb-true, eqb-false}
use Rattle.packet.specs.Reading.{read_datagram}
use Rattle.window.specs.Slots.{mark_retransmitted, datagram_for}
use Rattle.window.specs.Acknowledgement.{is_in_window}
use Rattle.window.specs.Resending.{mark_from}
use Rattle.multi_timer.specs.Map.{Entry, lookup, is_some, remove}
use Rattle.multi_timer.proofs.Laws.{lookup_remove}
use Rattle.chunks.specs.Chunks.{chunks_of}
use Rattle.path.specs.Direction.{Direction}
use Rattle.path.specs.Path.{is_going}
use Rattle.path.proofs.Laws.{going_is}
use Rattle.rto.specs.Rto.{on_timeout_unchecked}
use Rattle.clock.specs.Clock.{ClockState, Submission, sample_rtt, cancel_number, cancel, Held}
use Rattle.clock.specs.Timers.{HasTimer}
use Rattle.clock.specs.declared.Timing.TheVariants.{PerNumber}
use Rattle.clock.proofs.Laws.{running, cancel_number_entries, ack_entries}
use Rattle.session.specs.Sending.{SenderEnd, window_of, window_end, oldest_outstanding, is_due, acknowledged, Resent}
use Rattle.session.specs.GoodSender.{is_selective, Within}
use Rattle.session.specs.declared.Timeout.TheVariants as timeout
use Rattle.session.proofs.Laws.{due_within, datagram_short, timeout_due_one}
use Rattle.submission.proofs.Laws.{number_lookup}
use Rattle.sending.specs.Sending.{PumpState, PumpExit, next_number, can_pump, send_one, pump_sends}
use Rattle.sending.specs.Good.{CanPump}
use Rattle.sending.specs.Retransmit.{retransmit, CanRetransmit, ceiling_met}
use Rattle.sending.proofs.Laws.{chunk, blank, given, written, can_send_lem, can_submit_next, can_resubmit, can_retransmit_first, pump_turns}
use Rattle.acks.specs.Acks.{AckState, ack_number, sample_seq, on_accepted, counted, on_ack}
use Rattle.acks.specs.Good.{CanOnAck}
use Rattle.acks.specs.Reverse.{serve_reverse, CanServeReverse}
use Rattle.acks.proofs.Laws.{on_ack_dropped, on_ack_duplicate, on_ack_accepted, on_accepted_is, on_ack_keeps, next_taken, can_hand_over, turn_good, serve_reverse_invariant}
use Rattle.arrivals.specs.Arrivals.{ArrivalState, ArrivalExit, acks_of, serve_arrivals, CanServeArrivals}
use Rattle.arrivals.proofs.Laws.{between, can_serve_reverse, either_exit}
use Rattle.timeouts.specs.Timeouts.{FireState, FireExit, fire_number, fire_numbers, expired, fire_timers}
use Rattle.timeouts.specs.Good.{GoodFire}
use Rattle.timeouts.proofs.Laws.{sender_unbroken, can_resend_all, marked_again, cancelled, resent_number, fire_not_due, fire_due, cancelled_good, fire_number_good, numbers_none, numbers_exhausted, numbers_going, numbers_stopped, timers_by}
use Rattle.departures.specs.Departures.{pump_of, pumped, is_going_on, send_due, CanSendDue}
use Rattle.departures.proofs.Laws.{fired, can_pump_lem}
use Rattle.run_timers.proofs.Due.{sent_before, again_before, acknowledged_before}

pub record Each (v : SenderEnd) (c : ClockState) : Type 0 where
  pub each : (n : ℕ) → is_due v n ≡ true → HasTimer c n

-- ---- the entries
removed_some : (n k : ℕ) (es : List Entry) → (k ≡ n → ⊥) → is_some (lookup k es) ≡ true → is_some (lookup k (remove n es)) ≡ true
removed_some n k es other h = ap is_some (lookup_remove n k es) ∙ by_test_lem (eqb n k) (eqb-true n k)
  where
    by_test_lem : (b : Bool) → (b ≡ true → n ≡ k) → is_some (cond b None (lookup k es)) ≡ true
    by_test_lem true e = absurd (other (sym (e refl)))
    by_test_lem false e = h

started_some : (n k d : ℕ) (x y : Option ℕ) → y ≡ cond (eqb n k) (Some d) x → ((k ≡ n → ⊥) → is_some x ≡ true) → is_some y ≡ true
started_some n k d x y e h = ap is_some e ∙ by_test_lem (eqb n k) (eqb-false n k)
  where
    by_test_lem : (b : Bool) → (b ≡ false → n ≡ k → ⊥) → is_some (cond b (Some d) x) ≡ true
    by_test_lem true other = refl
    by_test_lem false other = h (λ f. other refl (sym f))

cancelled_has : (c : ClockState) (n k : ℕ) → Held c → (k ≡ n → ⊥) → HasTimer c k → HasTimer (cancel_number c n) k
cancelled_has c n k held other h = ap (λ (es : List Entry). is_some (lookup k es)) (cancel_number_entries c n held.state) ∙ removed_some n k (running c) other h

-- ---- an ACK
module _ (now : ℕ) where
  abbrev OfAcks : AckState → Type 0
  OfAcks s = Each s.sender s.clock

  on_ack_each : (raw : List ℕ) (s : AckState) → CanOnAck s now → is_selective s.sender.sender.state ≡ true → OfAcks s → OfAcks (on_ack PerNumber now raw s)
  on_ack_each raw s on selective h = by_number_lem (ack_number (read_datagram raw)) refl
    where
      accepted : (n : ℕ) → is_in_window (window_of s.sender.sender) n ≡ true → OfAcks (on_accepted PerNumber now n (sample_seq s.sender.sender.state n) (counted s (acknowledged s.sender n)))
      accepted n i =
          let seq = sample_seq s.sender.sender.state n in
          let u = counted s (acknowledged s.sender n) in
          let x = sample_rtt s.estimator s.metas seq now in
          subst OfAcks (sym (on_accepted_is PerNumber now raw u n seq))
          (record {
            each = λ k d.
                let b = acknowledged_before s.sender n k on.good.sender.state selective i d in
                ap (λ (es : List Entry). is_some (lookup k es)) (ack_entries s.clock x.metas (record { time = now; seq = n; rto = x.estimator.current_rto; oldest = oldest_outstanding (acknowledged s.sender n).sender }) on.good.clock.state)
                ∙ removed_some n k (running s.clock) b.0 (h.each k b.1);
          })

      by_test_lem : (n : ℕ) → ack_number (read_datagram raw) ≡ Some n → (b : Bool) → is_in_window (window_of s.sender.sender) n ≡ b → OfAcks (on_ack PerNumber now raw s)
      by_test_lem n e true i = subst OfAcks (sym (on_ack_accepted PerNumber now raw s n on.good.sender e i)) (accepted n i)
      by_test_lem n e false i = subst OfAcks (sym (on_ack_duplicate PerNumber now raw s n on.good.sender e i)) (record { each = h.each })

      by_number_lem : (x : Option ℕ) → ack_number (read_datagram raw) ≡ x → OfAcks (on_ack PerNumber now raw s)
      by_number_lem None e = subst OfAcks (sym (on_ack_dropped PerNumber now raw s e)) h
      by_number_lem (Some n) e = by_test_lem n e (is_in_window (window_of s.sender.sender) n) refl

  reverse_each : (d : Direction) (s : AckState) → CanServeReverse d s now → is_selective s.sender.sender.state ≡ true → OfAcks s → OfAcks (serve_reverse PerNumber now d s).state
  reverse_each d s can selective h =
      (serve_reverse_invariant PerNumber now (λ d s. CanServeReverse d s now × ((is_selective s.sender.sender.state ≡ true) × OfAcks s))
      (λ d s n e q.
      let raw = take n (next_taken now d).out in
      let on = can_hand_over PerNumber now d s q.0 n e in
      (turn_good PerNumber now d s q.0 n e, ((on_ack_keeps PerNumber now s on raw).sender.selective ∙ q.1.0, on_ack_each raw s on q.1.0 q.1.1))) d s (can, (selective, h))).1.1

  -- ---- the arrivals of a moment
  pub arrivals_each : (rolls : List Float) (total : ℕ) (s : ArrivalState) → CanServeArrivals rolls now s → is_selective s.sender.sender.state ≡ true → Each s.sender s.clock
      → Each (serve_arrivals PerNumber rolls total now s).state.sender (serve_arrivals PerNumber rolls total now s).state.clock
  arrivals_each rolls total s can selective h =
      either_exit PerNumber rolls total now s can (λ (x : ArrivalExit). Each x.state.sender x.state.clock) (λ g. h)
      (λ g. reverse_each _ (acks_of (between PerNumber rolls total now s can)) (can_serve_reverse rolls total now s can) selective h)

-- ---- the timers of a moment
module _ (top now : ℕ) (rolls : List Float) (samples : ℕ) where
  abbrev Of : FireState → Type 0
  Of s = Each s.sender s.outgoing.clock

  -- one number: its timer is stopped, and started again with its packet
  module _ (n : ℕ) (s : FireState) (g : GoodFire PerNumber rolls samples now s) (h : Of s) where
    not_due_each : is_due s.sender n ≡ false → Of (cancelled s n)
    not_due_each d = record { each = λ k e. cancelled_has s.outgoing.clock n k g.outgoing.clock (λ f. true≢false (sym e ∙ ap (is_due s.sender) f ∙ d)) (h.each k e) }

    module _ (d : is_due s.sender n ≡ true) where
      abbrev marked : SenderEnd
      marked = marked_again s.sender n

      abbrev packet : List ℕ
      packet = datagram_for (window_end marked) n

      abbrev again : Submission
      again = record { time = now; seq = n; rto = (on_timeout_unchecked s.estimator).current_rto; retransmission = true; oldest = oldest_outstanding marked.sender }

      marked_within : Within (window_of marked.sender) n 1
      unfolding mark_from mark_retransmitted
      marked_within = let w = due_within s.sender n d in record { from = w.from; below = w.below }

      can_resend : CanRetransmit PerNumber rolls (on_timeout_unchecked s.estimator).current_rto now marked n s.resends (cancelled s n).outgoing
      can_resend =
          can_retransmit_first (can_resend_all (cancelled_good g n) (timeout.Number n) (ap (λ (x : Resent). x.after) (sym (timeout_due_one s.sender (sender_unbroken g) n (g.selective refl) d))) marked_within refl)

      due_each : is_going (resent_number rolls now n s).stop ≡ true → Each marked (resent_number rolls now n s).outgoing.clock
      unfolding retransmit
      due_each on =
          let can = can_resubmit can_resend again.oldest packet (datagram_short marked n can_resend.sender can_resend.within) in
          record {
            each = λ k e.
                started_some n k _ _ _ (number_lookup rolls again packet (cancelled s n).outgoing can (going_is _ on) k)
                (λ other. cancelled_has s.outgoing.clock n k g.outgoing.clock other (h.each k (again_before s.sender g.sender.state n k e)));
          }

    number_each : ceiling_met top s.resends ≡ false → is_going (fire_number top rolls now n s).stop ≡ true → Of (fire_number top rolls now n s).state
    number_each c = by_due_lem (is_due s.sender n) refl
      where
        After : FireExit → Type 0
        After x = is_going x.stop ≡ true → Of x.state

        by_due_lem : (b : Bool) → is_due s.sender n ≡ b → After (fire_number top rolls now n s)
        by_due_lem true d = subst After (sym (fire_due top rolls now n s (sender_unbroken g) (g.selective refl) d c)) (due_each d)
        by_due_lem false d = subst After (sym (fire_not_due top rolls now n s (sender_unbroken g) (g.selective refl) d)) (λ on. not_due_each d)

  numbers_each : (ns : List ℕ) (s : FireState) → GoodFire PerNumber rolls samples now s → Of s → is_going (fire_numbers top rolls now ns s).stop ≡ true → Of (fire_numbers top rolls now ns s).state
  numbers_each [] s g h = subst (λ (x : FireExit). is_going x.stop ≡ true → Of x.state) (sym (numbers_none top rolls now s)) (λ on. h)
  numbers_each (n ∷ ns) s g h = by_ceiling (ceiling_met top s.resends) refl (λ c i. numbers_each ns (fire_number top rolls now n s).state (fire_number_good g top n c i) (number_each n s g h c i))
    where
      After : FireExit → Type 0
      After x = is_going x.stop ≡ true → Of x.state

      Rest : Type 0
      Rest = ceiling_met top s.resends ≡ false → is_going (fire_number top rolls now n s).stop ≡ true → After (fire_numbers top rolls now ns (fire_number top rolls now n s).state)

      by_stop_lem : ceiling_met top s.resends ≡ false → (b : Bool) → is_going (fire_number top rolls now n s).stop ≡ b → Rest → After (fire_numbers top rolls now (n ∷ ns) s)
      by_stop_lem c true i rest = subst After (sym (numbers_going top rolls now n ns s c i)) (rest c i)
      by_stop_lem c false i rest = subst After (sym (numbers_stopped top rolls now n ns s c i)) (λ on. absurd (true≢false (sym on ∙ i)))

      by_ceiling : (b : Bool) → ceiling_met top s.resends ≡ b → Rest → After (fire_numbers top rolls now (n ∷ ns) s)
      by_ceiling true c rest = subst After (sym (numbers_exhausted top rolls now n ns s c)) (λ on. record { each = h.each })
      by_ceiling false c rest = by_stop_lem c (is_going (fire_number top rolls now n s).stop) refl rest

  fire_each : (s : FireState) → GoodFire PerNumber rolls samples now s → Of s → is_going (fire_timers top PerNumber rolls now s).stop ≡ true → Of (fire_timers top PerNumber rolls now s).state
  unfolding cancel
  fire_each s g h =
      timers_by top PerNumber rolls now s (λ (x : FireExit). is_going x.stop ≡ true → Of x.state) (λ c on. record { each = h.each }) (λ c on. h) (λ on. record { each = h.each }) (λ other. absurd (other refl))
      (λ e. numbers_each (expired s.outgoing.clock now) s g h)

  -- ---- new chunks
  module _ (size : ℕ) (file : List ℕ) (total rto : ℕ) where
    abbrev OfPump : PumpState → Type 0
    OfPump s = Each s.sender s.outgoing.clock

    chunk_each : (s : PumpState) → CanPump PerNumber rolls size file total rto now s → can_pump total s.sender.sender ≡ true → is_going (send_one PerNumber rolls (chunks_of size file) rto now s).stop ≡ true → OfPump s
        → OfPump (send_one PerNumber rolls (chunks_of size file) rto now s).state
    unfolding send_one
    chunk_each s can free going h =
        record {
          each = λ k e.
              started_some (next_number s) k _ _ _ (number_lookup rolls (given can free) (written can free) s.outgoing (can_submit_next can free) (going_is _ going) k)
              (λ other. h.each k (sent_before s.sender (chunk can free) (blank can free) (can_send_lem can free) k other e));
        }

    pump_each : (s : PumpState) → CanPump PerNumber rolls size file total rto now s → OfPump s → is_going (pump_sends PerNumber rolls (chunks_of size file) rto now s).stop ≡ true → OfPump (pump_sends PerNumber rolls (chunks_of size file) rto now s).state
    pump_each =
        pump_turns (λ (s : PumpState) (x : PumpExit). OfPump s → is_going x.stop ≡ true → OfPump x.state) (λ s can None h g. h) (λ s x can free g rest h on. rest (chunk_each s can free g h) on)
        (λ s can free g h on. absurd (true≢false (sym on ∙ g)))

  -- ---- the departures of a moment
  pub departures_each : {size : ℕ} {file : List ℕ} {total : ℕ} (s : FireState) → CanSendDue PerNumber rolls size file total now s → GoodFire PerNumber rolls samples now s → Of s
      → is_going (send_due top PerNumber rolls (chunks_of size file) now s).stop ≡ true → Of (send_due top PerNumber rolls (chunks_of size file) now s).state
  unfolding send_due
  departures_each {size} {file} {total} s can g h = by_test_lem (is_going_on (fired top can)) refl
    where
      chunks_sent : PumpExit
      chunks_sent = pump_sends PerNumber rolls (chunks_of size file) (fired top can).state.estimator.current_rto now (pump_of (fired top can).state)

      by_test_lem : (b : Bool) → is_going_on (fired top can) ≡ b → is_going (cond b (pumped (fired top can) chunks_sent) (fired top can)).stop ≡ true → Of (cond b (pumped (fired top can) chunks_sent) (fired top can)).state
      by_test_lem true e on =
          let first = ((and-eq-true_iff (is_going (fired top can).stop) (not (fired top can).state.resends.exhausted)).0 e).0 in
          pump_each size file total (fired top can).state.estimator.current_rto (pump_of (fired top can).state) (can_pump_lem top can e) (fire_each s g h first) on
      by_test_lem false e on = fire_each s g h on
