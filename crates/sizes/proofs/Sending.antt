-- The timers and the window: where both lines are sized for a run, no packet of theirs ends it.
use Rattle.std.specs.Prelude.{Option, None}
use Prim.Native.Nat.{ℕ, zero, suc, ◌+◌, ◌≤◌, ◌<◌}
use native.Mathlib.Omega.{arith}
use mathlib.Core.Path.{◌≡◌, refl, sym, ap, ◌∙◌, subst}
use mathlib.Core.Bool.{Bool, true, false, cond, true≢false}
use mathlib.Core.List.{List, [], ◌∷◌}
use lib.Ieee.{Float}
use borrow.Author.Tests.{leb-false}
use Rattle.chunks.specs.Chunks.{chunks_of}
use Rattle.window.specs.Slots.{datagram_for}
use Rattle.path.specs.Path.{is_going}
use Rattle.rto.specs.Rto.{on_timeout_unchecked}
use Rattle.clock.specs.Clock.{ClockState, cancel_number, Submission}
use Rattle.clock.specs.declared.Timing.{Timing}
use Rattle.clock.specs.declared.Timing.TheVariants.{PerNumber}
use Rattle.session.specs.Sending.{SenderEnd, window_of, window_end, oldest_outstanding, resent}
use Rattle.session.specs.GoodSender.{Within}
use Rattle.session.specs.declared.Timeout.{Timeout}
use Rattle.session.specs.declared.Timeout.TheVariants as timeout
use Rattle.session.proofs.Laws.{ResentAs, resent_as, datagram_number}
use Rattle.submission.specs.Submission.{Outgoing}
use Rattle.sending.specs.Sending.{PumpState, PumpExit, next_number, can_pump, send_one, pump_sends}
use Rattle.sending.specs.Good.{CanPump}
use Rattle.sending.specs.Retransmit.{RetransmitExit, retransmit, ceiling_met, exhausted, retransmit_all, CanRetransmitAll}
use Rattle.sending.specs.declared.Resends.{Resends}
use Rattle.sending.proofs.Laws.{number_left, given, written, can_submit_next, next_grows, pump_turns, packets_from, retransmit_counts, can_retransmit_first, can_retransmit_rest, can_resubmit, all_none, all_met, all_going}
use Rattle.sending.proofs.Resending.{first_short}
use Rattle.timeouts.specs.Timeouts.{FireState, FireExit, with_resends, with_clock, stopped, timed_out, timeout_of, fire_number, fire_numbers, expired, fire_timers}
use Rattle.timeouts.specs.Good.{GoodFire}
use Rattle.timeouts.proofs.Laws.{timed_out_by, sender_unbroken, can_resend_all, stopped_good, cancelled_good, fire_number_good, numbers_none, numbers_exhausted, numbers_going, timers_by}
use Rattle.departures.specs.Departures.{pump_of, pumped, is_going_on, send_due, CanSendDue}
use Rattle.departures.proofs.Laws.{fired, can_pump_lem}
use Rattle.sizes.proofs.Lines.{Room, submit_sized, written_more, room_kept}

-- ---- what was sent of a file of `total` chunks, with `limit` packets sent again at most: an event for each first sending and each resending
pub record Sent (total limit : ℕ) (rolls : List Float) (next : ℕ) (r : Resends) (o : Outgoing) : Type 0 where
  pub room : Room (total + limit) rolls o
  pub written : o.written ≡ next + r.retx_submitted
  pub first : next ≤ total
  pub again : r.retx_submitted ≤ limit

chunk_few : (total limit next again written : ℕ) → written ≡ next + again → next < total → again ≤ limit → written < total + limit
chunk_few total limit next again written e h k = omega arith

again_few : (total limit next again written : ℕ) → written ≡ next + again → next ≤ total → again < limit → written < total + limit
again_few total limit next again written e h k = omega arith

chunk_more : (next again written : ℕ) {next' written' : ℕ} → written ≡ next + again → next' ≡ next + 1 → written' ≡ written + 1 → written' ≡ next' + again
chunk_more next again written e f g = omega arith

again_more : (next again written : ℕ) {again' written' : ℕ} → written ≡ next + again → again' ≡ again + 1 → written' ≡ written + 1 → written' ≡ next + again'
again_more next again written e f g = omega arith

up : (a b : ℕ) {c : ℕ} → a < b → c ≡ a + 1 → c ≤ b
up a b h e = omega arith

-- ---- the window
abbrev SentBy : ℕ → ℕ → List Float → Resends → PumpState → Type 0
SentBy total limit rolls r s = Sent total limit rolls (next_number s) r s.outgoing

module _ {t : Timing} {rolls : List Float} {size : ℕ} {file : List ℕ} {total rto now : ℕ} (limit : ℕ) (r : Resends) where
  module _ {s : PumpState} (can : CanPump t rolls size file total rto now s) (free : can_pump total s.sender.sender ≡ true) (q : SentBy total limit rolls r s) where
    few : s.outgoing.written < total + limit
    few = chunk_few total limit (next_number s) r.retx_submitted s.outgoing.written q.written (number_left can free) q.again

    send_goes : (send_one t rolls (chunks_of size file) rto now s).stop ≡ None
    unfolding send_one
    send_goes = submit_sized (total + limit) t rolls (given can free) (written can free) s.outgoing q.room (can_submit_next can free) few

    send_room : Room (total + limit) rolls (send_one t rolls (chunks_of size file) rto now s).state.outgoing
    unfolding send_one
    send_room = room_kept (total + limit) t rolls (given can free) (written can free) s.outgoing q.room (can_submit_next can free) few

    send_written : (send_one t rolls (chunks_of size file) rto now s).state.outgoing.written ≡ s.outgoing.written + 1
    unfolding send_one
    send_written = written_more (total + limit) t rolls (given can free) (written can free) s.outgoing q.room (can_submit_next can free) few

    send_sent : SentBy total limit rolls r (send_one t rolls (chunks_of size file) rto now s).state
    send_sent =
        record {
          room = send_room;
          written = chunk_more (next_number s) r.retx_submitted s.outgoing.written q.written (next_grows can free) send_written;
          first = up (next_number s) total (number_left can free) (next_grows can free);
          again = q.again;
        }

  pub pump_sized : (s : PumpState) → CanPump t rolls size file total rto now s → SentBy total limit rolls r s → ((pump_sends t rolls (chunks_of size file) rto now s).stop ≡ None) × SentBy total limit rolls r (pump_sends t rolls (chunks_of size file) rto now s).state
  pump_sized =
      pump_turns (λ (s : PumpState) (x : PumpExit). SentBy total limit rolls r s → (x.stop ≡ None) × SentBy total limit rolls r x.state) (λ s can none q. (refl, q)) (λ s x can free g rest q. rest (send_sent can free q))
      (λ s can free g q. absurd (true≢false (sym (ap is_going (send_goes can free q)) ∙ g)))

-- ---- packets sent again
module _ (total limit : ℕ) (t : Timing) (rolls : List Float) (rto now : ℕ) (v : SenderEnd) (oldest : Option ℕ) (next : ℕ) where
  abbrev sends : ℕ → Resends → Outgoing → RetransmitExit
  sends first r o = retransmit t rolls rto now oldest first (datagram_for (window_end v) first) r o

  module _ {first count : ℕ} {r : Resends} {o : Outgoing} (can : CanRetransmitAll t rolls rto now v first (suc count) r o) (q : Sent total limit rolls next r o) (below : ceiling_met limit r ≡ false) where
    abbrev again : Submission
    again = record { time = now; seq = first; rto = rto; retransmission = true; oldest = oldest }

    left : r.retx_submitted < limit
    left = leb-false limit r.retx_submitted below

    few_again : o.written < total + limit
    few_again = again_few total limit next r.retx_submitted o.written q.written q.first left

    resend_goes : (sends first r o).stop ≡ None
    unfolding retransmit
    resend_goes = submit_sized (total + limit) t rolls again (datagram_for (window_end v) first) o q.room (can_resubmit (can_retransmit_first can) oldest (datagram_for (window_end v) first) (first_short can)) few_again

    resend_room : Room (total + limit) rolls (sends first r o).outgoing
    unfolding retransmit
    resend_room = room_kept (total + limit) t rolls again (datagram_for (window_end v) first) o q.room (can_resubmit (can_retransmit_first can) oldest (datagram_for (window_end v) first) (first_short can)) few_again

    resend_written : (sends first r o).outgoing.written ≡ o.written + 1
    unfolding retransmit
    resend_written = written_more (total + limit) t rolls again (datagram_for (window_end v) first) o q.room (can_resubmit (can_retransmit_first can) oldest (datagram_for (window_end v) first) (first_short can)) few_again

    resend_sent : Sent total limit rolls next (sends first r o).resends (sends first r o).outgoing
    resend_sent =
        let n = ap (λ (c : Resends). c.retx_submitted) (retransmit_counts t rolls rto now oldest first (datagram_for (window_end v) first) r o) in
        record { room = resend_room; written = again_more next r.retx_submitted o.written q.written n resend_written; first = q.first; again = up r.retx_submitted limit left n }

  abbrev Resent : RetransmitExit → Type 0
  Resent y = (y.stop ≡ None) × Sent total limit rolls next y.resends y.outgoing

  spent_sent : {r : Resends} {o : Outgoing} → Sent total limit rolls next r o → Sent total limit rolls next (exhausted r) o
  spent_sent q = record { room = q.room; written = q.written; first = q.first; again = q.again }

  resend_sized : (count first : ℕ) (r : Resends) (o : Outgoing) → CanRetransmitAll t rolls rto now v first count r o → Sent total limit rolls next r o → Resent (retransmit_all limit t rolls rto now oldest (packets_from v first count) r o)
  resend_sized zero first r o can q = subst Resent (sym (all_none limit t rolls rto now oldest r o)) (refl, q)
  resend_sized (suc count) first r o can q =
      by_ceiling (ceiling_met limit r) refl (λ m. resend_sized count (suc first) (sends first r o).resends (sends first r o).outgoing (can_retransmit_rest can oldest (ap is_going (resend_goes can q m))) (resend_sent can q m))
    where
      by_ceiling : (b : Bool) → ceiling_met limit r ≡ b → (ceiling_met limit r ≡ false → Resent (retransmit_all limit t rolls rto now oldest (packets_from v (suc first) count) (sends first r o).resends (sends first r o).outgoing))
          → Resent (retransmit_all limit t rolls rto now oldest (packets_from v first (suc count)) r o)
      by_ceiling true m rest = subst Resent (sym (all_met limit t rolls rto now oldest (datagram_for (window_end v) first) (packets_from v (suc first) count) r o m)) (refl, spent_sent q)
      by_ceiling false m rest = subst Resent (sym (all_going limit t rolls rto now oldest (datagram_for (window_end v) first) (packets_from v (suc first) count) r o (datagram_number (window_end v) first) m (ap is_going (resend_goes can q m)))) (rest m)

-- ---- a timeout, of a state x
module _ (total limit : ℕ) (rolls : List Float) (now : ℕ) where
  abbrev pub SentAt : FireState → Type 0
  SentAt s = Sent total limit rolls (window_of s.sender.sender).next_seq_num s.resends s.outgoing

  abbrev pub FireGoes : FireExit → Type 0
  FireGoes x = (x.stop ≡ None) × SentAt x.state

  spent_at : (s : FireState) → SentAt s → SentAt (with_resends s (exhausted s.resends))
  spent_at s q = record { room = q.room; written = q.written; first = q.first; again = q.again }

  other_next : {n m : ℕ} {r : Resends} {o : Outgoing} → m ≡ n → Sent total limit rolls n r o → Sent total limit rolls m r o
  other_next {r = r} {o = o} e q = subst (λ (k : ℕ). Sent total limit rolls k r o) (sym e) q

  module _ {t : Timing} {samples : ℕ} {s : FireState} (g : GoodFire t rolls samples now s) (of : Timeout) (q : SentAt s) where
    resent_of : ResentAs s.sender of
    resent_of = resent_as s.sender of (sender_unbroken g)

    after_within : Within (window_of (resent s.sender of).after.sender) resent_of.first resent_of.count
    after_within = let w = resent_of.within in let same = resent_of.same in record { from = rw same.base w.from; below = rw same.next w.below }

    after_sent : Sent total limit rolls (window_of (resent s.sender of).after.sender).next_seq_num s.resends s.outgoing
    after_sent = other_next resent_of.same.next q

    timed_out_sized : FireGoes (timed_out limit t rolls now of s)
    timed_out_sized =
        timed_out_by limit t rolls now of s FireGoes (λ e. (refl, after_sent))
        (λ h. rw resent_of.packets_are
        (resend_sized total limit t rolls (on_timeout_unchecked s.estimator).current_rto now (resent s.sender of).after (oldest_outstanding (resent s.sender of).after.sender) (window_of (resent s.sender of).after.sender).next_seq_num resent_of.count resent_of.first
        s.resends s.outgoing (can_resend_all g of refl after_within refl) after_sent))

  -- ---- the numbers' timers
  clock_sent : (s : FireState) (c : ClockState) → SentAt s → SentAt (with_clock s c)
  clock_sent s c q = record { room = record { events = q.room.events; enough = q.room.enough; records = q.room.records; places = q.room.places; used = q.room.used; waiting = q.room.waiting }; written = q.written; first = q.first; again = q.again }

  number_sized : {samples : ℕ} {s : FireState} → GoodFire PerNumber rolls samples now s → (n : ℕ) → SentAt s → FireGoes (fire_number limit rolls now n s)
  unfolding fire_number
  number_sized {s = s} g n q = timed_out_sized (cancelled_good g n) (timeout.Number n) (clock_sent s (cancel_number s.outgoing.clock n) q)

  numbers_sized : {samples : ℕ} (ns : List ℕ) (s : FireState) → GoodFire PerNumber rolls samples now s → SentAt s → FireGoes (fire_numbers limit rolls now ns s)
  numbers_sized [] s g q = subst FireGoes (sym (numbers_none limit rolls now s)) (refl, q)
  numbers_sized (n ∷ ns) s g q =
      by_ceiling (ceiling_met limit s.resends) refl (λ c. numbers_sized ns (fire_number limit rolls now n s).state (fire_number_good g limit n c (ap is_going (number_sized g n q).0)) (number_sized g n q).1)
    where
      by_ceiling : (b : Bool) → ceiling_met limit s.resends ≡ b → (ceiling_met limit s.resends ≡ false → FireGoes (fire_numbers limit rolls now ns (fire_number limit rolls now n s).state)) → FireGoes (fire_numbers limit rolls now (n ∷ ns) s)
      by_ceiling true c rest = subst FireGoes (sym (numbers_exhausted limit rolls now n ns s c)) (refl, spent_at s q)
      by_ceiling false c rest = subst FireGoes (sym (numbers_going limit rolls now n ns s c (ap is_going (number_sized g n q).0))) (rest c)

  -- ---- all timers, and then the window
  timers_sized : {t : Timing} {samples : ℕ} {s : FireState} → GoodFire t rolls samples now s → SentAt s → FireGoes (fire_timers limit t rolls now s)
  timers_sized {t} {samples} {s} g q =
      timers_by limit t rolls now s FireGoes (λ c. (refl, spent_at s q)) (λ c. (refl, q)) (refl, clock_sent s (stopped s.outgoing.clock) q) (λ other. timed_out_sized (stopped_good g) (timeout_of t) (clock_sent s (stopped s.outgoing.clock) q))
      (λ e. numbers_sized (expired s.outgoing.clock now) s (subst (λ (u : Timing). GoodFire u rolls samples now s) e g) q)

  pub send_due_sized : {t : Timing} {size : ℕ} {file : List ℕ} {samples : ℕ} {s : FireState} → CanSendDue t rolls size file total now s → GoodFire t rolls samples now s → SentAt s → FireGoes (send_due limit t rolls (chunks_of size file) now s)
  unfolding send_due
  send_due_sized {t} {size} {file} {samples} {s} can g q = by_test_lem (is_going_on (fired limit can)) refl
    where
      by_test_lem : (b : Bool) → is_going_on (fired limit can) ≡ b → FireGoes (cond b (pumped (fired limit can) (pump_sends t rolls (chunks_of size file) (fired limit can).state.estimator.current_rto now (pump_of (fired limit can).state))) (fired limit can))
      by_test_lem true e = pump_sized limit (fired limit can).state.resends (pump_of (fired limit can).state) (can_pump_lem limit can e) (timers_sized g q).1
      by_test_lem false e = timers_sized g q
