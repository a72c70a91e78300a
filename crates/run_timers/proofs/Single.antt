-- The single timer of Stop-and-Wait and Go-Back-N: it is set exactly while a number is outstanding.
use Rattle.std.specs.Prelude.{None, Option, Some}
use Prim.Native.Nat.{ℕ, zero, suc, ◌+◌, ◌-◌, ◌≤◌, ◌<◌, min}
use native.Mathlib.Omega.{arith}
use mathlib.Core.Path.{◌≡◌, refl, sym, ap, ◌∙◌, subst}
use mathlib.Core.Bool.{Bool, true, false, cond, not, true≢false, and-eq-true_iff, ◌||◌}
use mathlib.Core.List.{List, [], ◌∷◌}
use lib.Dec.{ltb, eqb}
use lib.Ieee.{Float}
use lib.ListN.{take}
use borrow.Author.Tests.{ltb-true, lt-ltb, leb-false, eqb-false}
use Rattle.packet.specs.Reading.{read_datagram}
use Rattle.timer.specs.Timer.{active, expired_at, cancelled_unchecked}
use Rattle.timer.specs.declared.RetransmissionTimer.{RetransmissionTimer}
use Rattle.window.specs.State.{outstanding}
use Rattle.window.specs.Slots as slots
use Rattle.window.specs.Acknowledgement.{is_in_window}
use Rattle.window.specs.Resending.{mark_from}
use Rattle.window.proofs.Laws.{sound}
use Rattle.stop_and_wait.specs.Sender as stop_and_wait
use Rattle.stop_and_wait.specs.declared.StopAndWaitSender.{StopAndWaitSender}
use Rattle.chunks.specs.Chunks.{chunks_of}
use Rattle.delivery.specs.Calls.{number_of}
use Rattle.notes.specs.Notes.{SegMetas}
use Rattle.notes.specs.declared.Notes.{Notes}
use Rattle.path.specs.Direction.{Direction}
use Rattle.path.specs.Path.{is_going}
use Rattle.path.proofs.Laws.{going_is}
use Rattle.rto.specs.Rto.{on_timeout_unchecked}
use Rattle.clock.specs.Clock.{ClockState, timer_of, with_timer, is_oldest, arm_oldest, arm_after_submit, rearm_after_ack, Submission, sample_rtt, single_due, due}
use Rattle.clock.specs.declared.Timing.TheVariants.{Single}
use Rattle.clock.specs.declared.Due.TheVariants as ran
use Rattle.clock.proofs.Laws.{arm_oldest_deadline}
use Rattle.session.specs.Sending.{SenderEnd, sender_in, stop_and_wait_end, go_back_nEnd, window_of, has_outstanding, oldest_outstanding, send_chunk, acknowledged, Resent, resent, resent_numbers}
use Rattle.session.specs.GoodSender.{is_selective, SenderUnbroken}
use Rattle.session.specs.declared.Sender.{Sender}
use Rattle.session.specs.declared.SenderState.{SenderState}
use Rattle.session.specs.declared.SenderState.TheVariants as senderState
use Rattle.session.specs.declared.Timeout.TheVariants.{All}
use Rattle.session.proofs.Laws.{SameWindow, resent_as}
use Rattle.session.proofs.Resends.{go_back_n_resent, stop_and_wait_resent}
use Rattle.submission.specs.Submission.{Outgoing, submit}
use Rattle.submission.proofs.Laws.{metas_of, submitted, submit_going, submit_stopped, submit_again_notes}
use Rattle.sending.specs.Sending.{PumpState, PumpExit, can_pump, next_number, send_one, pump_sends}
use Rattle.sending.specs.Good.{CanPump}
use Rattle.sending.specs.Retransmit.{RetransmitExit, retransmit, ceiling_met, exhausted, retransmit_all}
use Rattle.sending.specs.declared.Resends.{Resends}
use Rattle.sending.proofs.Laws.{chunk, blank, given, written, can_send_lem, sent_next, notes_grow, retransmit_counts, all_going, all_stopped, resend_turns, pump_turns}
use Rattle.acks.specs.Acks.{AckState, ack_number, sample_seq, on_accepted, counted, on_ack}
use Rattle.acks.specs.Good.{CanOnAck}
use Rattle.acks.specs.Reverse.{serve_reverse, CanServeReverse}
use Rattle.acks.proofs.Laws.{on_ack_dropped, on_ack_duplicate, on_ack_accepted, on_ack_keeps, next_taken, can_hand_over, turn_good, serve_reverse_invariant}
use Rattle.receiving.proofs.Laws.{serve_keeps_sizes}
use Rattle.arrivals.specs.Arrivals.{ArrivalState, ArrivalExit, acks_of, serve_arrivals, CanServeArrivals}
use Rattle.arrivals.proofs.Laws.{between, can_serve_reverse, either_exit}
use Rattle.timeouts.specs.Timeouts.{FireState, FireExit, with_clock, stopped, timed_out, by_due, fire_timers}
use Rattle.timeouts.specs.Good.{GoodFire}
use Rattle.timeouts.proofs.Laws.{sender_unbroken, timed_out_by, timers_met, timers_due_lem}
use Rattle.departures.specs.Departures.{pump_of, pumped, is_going_on, send_due, CanSendDue}
use Rattle.departures.proofs.Laws.{fired, can_pump_lem}
use Rattle.edition_clock.proofs.Senders.{retries_of, LimitIs, Fresh, sent_fresh, acknowledged_fresh}

abbrev is_set : ClockState → Bool
is_set c = active (timer_of c).deadline

abbrev next_of : SenderEnd → ℕ
next_of v = (window_of v.sender).next_seq_num

-- every number sent has its note, and the timer is set while one isn't acknowledged; `limit` is Stop-and-Wait's on its retries, which are packets sent again
pub record Runs (limit : ℕ) (v : SenderEnd) (c : ClockState) (count again : ℕ) : Type 0 where
  pub noted : count ≡ next_of v
  pub runs : is_set c ≡ has_outstanding v.sender
  pub limit_is : LimitIs limit v.sender.state
  pub retries : retries_of v.sender.state ≤ again

-- ---- the timer of the oldest number
some_left : (low high : ℕ) → 0 < high - low → low < high
some_left low high h = omega arith

arm_is : (t : RetransmissionTimer) (m : SegMetas) (now : ℕ) (s : Sender) → (window_of s).next_seq_num ≤ m.notes.count → active (arm_oldest t m now (oldest_outstanding s)).deadline ≡ has_outstanding s
unfolding arm_oldest cancelled_unchecked
arm_is t m now s h = by_some (has_outstanding s) refl
  where
    by_some : (b : Bool) → has_outstanding s ≡ b → active (arm_oldest t m now (cond b (Some (window_of s).send_base) None)).deadline ≡ b
    by_some true o =
        let low = some_left (window_of s).send_base (window_of s).next_seq_num (ltb-true 0 (outstanding (window_of s)) o) in
        ap active (arm_oldest_deadline t m now (window_of s).send_base (omega (arith, low, h)))
    by_some false o = refl

-- ---- an ACK
module _ (limit now again : ℕ) where
  abbrev OfAcks : AckState → Type 0
  OfAcks s = Runs limit s.sender s.clock s.metas.notes.count again

  accepted_set : (n seq : ℕ) (s : AckState) → let y = on_accepted Single now n seq s in y.metas.notes.count ≡ next_of y.sender → is_set y.clock ≡ has_outstanding y.sender.sender
  unfolding on_accepted rearm_after_ack
  accepted_set n seq s e = arm_is (timer_of s.clock) (sample_rtt s.estimator s.metas seq now).metas now s.sender.sender (omega (arith, e))

  accepted_sender : (n seq : ℕ) (s : AckState) → (on_accepted Single now n seq s).sender ≡ s.sender
  unfolding on_accepted
  accepted_sender n seq s = refl

  on_ack_runs : (raw : List ℕ) (s : AckState) → CanOnAck s now → OfAcks s → OfAcks (on_ack Single now raw s)
  on_ack_runs raw s on h = by_number_lem (ack_number (read_datagram raw)) refl
    where
      still_noted : (on_ack Single now raw s).metas.notes.count ≡ next_of (on_ack Single now raw s).sender
      still_noted = let k = on_ack_keeps Single now s on raw in ap (λ (n : Notes). n.count) k.notes ∙ h.noted ∙ sym k.sender.next

      accepted : (n : ℕ) → let y = on_accepted Single now n (sample_seq s.sender.sender.state n) (counted s (acknowledged s.sender n)) in y.metas.notes.count ≡ next_of y.sender → OfAcks y
      accepted n e =
          let seq = sample_seq s.sender.sender.state n in
          let u = counted s (acknowledged s.sender n) in
          let f = acknowledged_fresh limit s.sender n h.limit_is in
          let none : retries_of (acknowledged s.sender n).sender.state ≤ again = (let z = f.retries in omega (arith, z)) in
          record {
            noted = e;
            runs = accepted_set n seq u e;
            limit_is = subst (λ (v : SenderEnd). LimitIs limit v.sender.state) (sym (accepted_sender n seq u)) f.limit_is;
            retries = subst (λ (v : SenderEnd). retries_of v.sender.state ≤ again) (sym (accepted_sender n seq u)) none;
          }

      by_test_lem : (n : ℕ) → ack_number (read_datagram raw) ≡ Some n → (b : Bool) → is_in_window (window_of s.sender.sender) n ≡ b → OfAcks (on_ack Single now raw s)
      by_test_lem n e true i =
          let is = on_ack_accepted Single now raw s n on.good.sender e i in
          subst OfAcks (sym is) (accepted n (subst (λ (y : AckState). y.metas.notes.count ≡ next_of y.sender) is still_noted))
      by_test_lem n e false i = subst OfAcks (sym (on_ack_duplicate Single now raw s n on.good.sender e i)) (record { noted = h.noted; runs = h.runs; limit_is = h.limit_is; retries = h.retries })

      by_number_lem : (x : Option ℕ) → ack_number (read_datagram raw) ≡ x → OfAcks (on_ack Single now raw s)
      by_number_lem None e = subst OfAcks (sym (on_ack_dropped Single now raw s e)) h
      by_number_lem (Some n) e = by_test_lem n e (is_in_window (window_of s.sender.sender) n) refl

  reverse_runs : (d : Direction) (s : AckState) → CanServeReverse d s now → OfAcks s → OfAcks (serve_reverse Single now d s).state
  reverse_runs d s can h =
      (serve_reverse_invariant Single now (λ d s. CanServeReverse d s now × OfAcks s)
      (λ d s n e q. (turn_good Single now d s q.0 n e, on_ack_runs (take n (next_taken now d).out) s (can_hand_over Single now d s q.0 n e) q.1)) d s (can, h)).1

  -- ---- the arrivals of a moment
  abbrev OfArrivals : ArrivalState → Type 0
  OfArrivals s = Runs limit s.sender s.clock s.inbound.metas.notes.count again

  pub arrivals_run : (rolls : List Float) (total : ℕ) (s : ArrivalState) → CanServeArrivals rolls now s → OfArrivals s → OfArrivals (serve_arrivals Single rolls total now s).state
  arrivals_run rolls total s can h =
      either_exit Single rolls total now s can (λ (x : ArrivalExit). OfArrivals x.state) (λ g. forth) (λ g. reverse_runs _ (acks_of (between Single rolls total now s can)) (can_serve_reverse rolls total now s can) forth)
    where
      forth : OfArrivals (between Single rolls total now s can)
      forth = record { noted = (serve_keeps_sizes rolls total now s.forward s.inbound can.forward).count ∙ h.noted; runs = h.runs; limit_is = h.limit_is; retries = h.retries }

-- ---- a packet again
record Armed (next least : ℕ) (r : Resends) (o : Outgoing) : Type 0 where
  noted : o.metas.notes.count ≡ next
  runs : is_set o.clock ≡ true
  counted : least ≤ r.retx_submitted

module _ (rolls : List Float) (rto now : ℕ) (s : Sender) (some : has_outstanding s ≡ true) where
  abbrev again : ℕ → Submission
  again seq = record { time = now; seq = seq; rto = rto; retransmission = true; oldest = oldest_outstanding s }

  abbrev sends : List ℕ → Resends → Outgoing → RetransmitExit
  sends packet r o = retransmit Single rolls rto now (oldest_outstanding s) (number_of packet) packet r o

  again_noted : (packet : List ℕ) (r : Resends) (o : Outgoing) → (sends packet r o).outgoing.metas.notes ≡ o.metas.notes
  unfolding retransmit
  again_noted packet r o = submit_again_notes Single rolls (again (number_of packet)) packet o refl

  -- where the line carries it, the oldest number's timer is set
  armed_set : (c : ClockState) (m : SegMetas) (seq : ℕ) → (window_of s).next_seq_num ≤ m.notes.count → is_set (arm_after_submit Single c m (again seq)) ≡ true
  unfolding arm_after_submit
  armed_set c m seq h = arm_is (timer_of c) m now s h ∙ some

  carried_noted : (seq : ℕ) (o : Outgoing) (packet : List ℕ) → o.metas.notes.count ≡ (window_of s).next_seq_num → (submit Single rolls (again seq) packet o).outgoing.metas.notes.count ≡ (window_of s).next_seq_num
  carried_noted seq o packet e = ap (λ (n : Notes). n.count) (submit_again_notes Single rolls (again seq) packet o refl) ∙ e

  again_set : (packet : List ℕ) (r : Resends) (o : Outgoing) → o.metas.notes.count ≡ (window_of s).next_seq_num → is_going (sends packet r o).stop ≡ true → is_set (sends packet r o).outgoing.clock ≡ true
  unfolding retransmit
  again_set packet r o e g =
      let seq = number_of packet in
      let is = submit_going Single rolls (again (number_of packet)) packet o (going_is _ g) in
      let c : (metas_of rolls (again (number_of packet)) o).notes.count ≡ (window_of s).next_seq_num = ap (λ (y : Outgoing). y.metas.notes.count) (sym is) ∙ carried_noted (number_of packet) o packet e in
      ap (λ (y : Outgoing). is_set y.clock) is ∙ armed_set o.clock (metas_of rolls (again (number_of packet)) o) (number_of packet) (omega (arith, c))

  -- and else it stays as it was
  again_armed : (least : ℕ) (packet : List ℕ) (r : Resends) (o : Outgoing) → Armed (window_of s).next_seq_num least r o → Armed (window_of s).next_seq_num least (sends packet r o).resends (sends packet r o).outgoing
  unfolding retransmit
  again_armed least packet r o a =
      record {
        noted = ap (λ (n : Notes). n.count) (again_noted packet r o) ∙ a.noted;
        runs = by_stop_lem (is_going (sends packet r o).stop) refl;
        counted = let k = a.counted in omega (arith, k);
      }
    where
      same : is_going (sends packet r o).stop ≡ false → is_set (sends packet r o).outgoing.clock ≡ true
      same g = ap (λ (y : Outgoing). is_set y.clock) (submit_stopped Single rolls (again (number_of packet)) packet o g) ∙ a.runs

      by_stop_lem : (b : Bool) → is_going (sends packet r o).stop ≡ b → is_set (sends packet r o).outgoing.clock ≡ true
      by_stop_lem true g = again_set packet r o a.noted g
      by_stop_lem false g = same g

  first_armed : (packet : List ℕ) (r : Resends) (o : Outgoing) → o.metas.notes.count ≡ (window_of s).next_seq_num → is_going (sends packet r o).stop ≡ true
      → Armed (window_of s).next_seq_num (r.retx_submitted + 1) (sends packet r o).resends (sends packet r o).outgoing
  first_armed packet r o e g =
      record {
        noted = ap (λ (n : Notes). n.count) (again_noted packet r o) ∙ e;
        runs = again_set packet r o e g;
        counted = rw (retransmit_counts Single rolls rto now (oldest_outstanding s) (number_of packet) packet r o) (omega arith);
      }

  -- several, of which the first can be sent
  all_armed : (top : ℕ) (packet : List ℕ) (packets : List (List ℕ)) (r : Resends) (o : Outgoing) → ceiling_met top r ≡ false → o.metas.notes.count ≡ (window_of s).next_seq_num
      → let y = retransmit_all top Single rolls rto now (oldest_outstanding s) (packet ∷ packets) r o in is_going y.stop ≡ true → Armed (window_of s).next_seq_num (r.retx_submitted + 1) y.resends y.outgoing
  all_armed top packet packets r o m e = by_stop_lem (is_going (sends packet r o).stop) refl
    where
      After : RetransmitExit → Type 0
      After y = is_going y.stop ≡ true → Armed (window_of s).next_seq_num (r.retx_submitted + 1) y.resends y.outgoing

      by_stop_lem : (b : Bool) → is_going (sends packet r o).stop ≡ b → After (retransmit_all top Single rolls rto now (oldest_outstanding s) (packet ∷ packets) r o)
      by_stop_lem true g =
          subst After (sym (all_going top Single rolls rto now (oldest_outstanding s) packet packets r o refl m g))
          (λ on. resend_turns top Single rolls rto now (oldest_outstanding s) (Armed (window_of s).next_seq_num (r.retx_submitted + 1)) (λ r o a. record { noted = a.noted; runs = a.runs; counted = a.counted }) packets
          (λ wire mem r o a. again_armed _ wire r o a) _ _ (first_armed packet r o e g))
      by_stop_lem false g = subst After (sym (all_stopped top Single rolls rto now (oldest_outstanding s) packet packets r o refl m g)) (λ on. absurd (true≢false (sym on ∙ g)))

-- ---- a timeout sends the oldest number again
pub record First (limit : ℕ) (v : SenderEnd) : Type 0 where
  pub packet : List ℕ
  pub packets : List (List ℕ)
  pub are : (resent v All).packets ≡ packet ∷ packets
  pub retries : retries_of (resent v All).after.sender.state ≤ retries_of v.sender.state + 1
  pub limit_is : LimitIs limit (resent v All).after.sender.state

by_equation : (limit : ℕ) (v u : SenderEnd) (n k : ℕ) → 0 < k → resent_numbers u n k ≡ resent v All → retries_of u.sender.state ≤ retries_of v.sender.state + 1 → LimitIs limit u.sender.state → First limit v
by_equation limit v u n zero h e r l = absurd (omega arith)
by_equation limit v u n (suc k) h e r l =
    record {
      packet = _;
      packets = _;
      are = sym (ap (λ (x : Resent). x.packets) e);
      retries = subst (λ (x : Resent). retries_of x.after.sender.state ≤ retries_of v.sender.state + 1) e r;
      limit_is = subst (λ (x : Resent). LimitIs limit x.after.sender.state) e l;
    }

some_one : (n : ℕ) → 0 < n → 1 ≡ min 1 n
some_one n h = omega arith

pub all_again : (limit : ℕ) (v : SenderEnd) → SenderUnbroken v → has_outstanding v.sender ≡ true → LimitIs limit v.sender.state → retries_of v.sender.state < limit → First limit v
all_again limit v h o i few = by_state v.sender.state v.store h (ltb-true 0 _ o) i few
  where
    left : (s : StopAndWaitSender) → s.max_retries ≡ limit → s.current_retries < limit → 0 < outstanding (stop_and_wait.window_of s) → 1 ≡ min (stop_and_wait.retries_left s) (outstanding (stop_and_wait.window_of s))
    left s i few o = rw (lt-ltb s.current_retries s.max_retries (rw i few)) (some_one (outstanding (stop_and_wait.window_of s)) o)

    by_state : (s : SenderState) (store : List ℕ) → SenderUnbroken (sender_in s store) → 0 < outstanding (window_of (sender_in s store).sender) → LimitIs limit s → retries_of s < limit → First limit (sender_in s store)
    by_state (senderState.StopAndWait s) store h o i few =
        by_equation limit (sender_in (senderState.StopAndWait s) store) (stop_and_wait_end (stop_and_wait.marked_again (stop_and_wait.end_of s store))) s.current_seq 1 (omega arith)
        (stop_and_wait_resent s store h All (left s i few o) (λ z. omega arith) refl) (omega arith) i
    by_state (senderState.GoBackN s) store h o i few =
        by_equation limit (sender_in (senderState.GoBackN s) store) (go_back_nEnd (mark_from (slots.sender s.window store) s.window.send_base (outstanding s.window))) s.window.send_base (outstanding s.window) o
        (go_back_n_resent (slots.sender s.window store) h All refl refl) (omega arith) tt
    by_state (senderState.SelectiveRepeat s) store h o i few = absurd i

-- ---- the timers of a moment
module _ (limit top now : ℕ) (rolls : List Float) (enough : top ≤ limit) where
  abbrev OfFire : FireState → Type 0
  OfFire s = Runs limit s.sender s.outgoing.clock s.outgoing.metas.notes.count s.resends.retx_submitted

  fires_single : (s : FireState) {samples : ℕ} → GoodFire Single rolls samples now s → OfFire s → ceiling_met top s.resends ≡ false → has_outstanding s.sender.sender ≡ true
      → let x = timed_out top Single rolls now All (with_clock s (stopped s.outgoing.clock)) in is_going x.stop ≡ true → OfFire x.state
  fires_single s g h c o = timed_out_by top Single rolls now All (with_clock s (stopped s.outgoing.clock)) After (λ e. absurd (nothing e)) (λ z. some)
    where
      After : FireExit → Type 0
      After x = is_going x.stop ≡ true → OfFire x.state

      first : First limit s.sender
      first =
          let below = leb-false top s.resends.retx_submitted c in
          let r = h.retries in
          all_again limit s.sender (sender_unbroken g) o h.limit_is (omega (arith, below, r, enough))

      nothing : (resent s.sender All).packets ≡ [] → ⊥
      nothing e = let f : ◌≡◌ {A = List (List ℕ)} (first.packet ∷ first.packets) [] = sym first.are ∙ e in let z : ◌≡◌ {A = ℕ} 0 1 = cc in omega arith

      u : SenderEnd
      u = (resent s.sender All).after

      same : SameWindow s.sender u
      same = (resent_as s.sender All (sender_unbroken g)).same

      still : has_outstanding u.sender ≡ true
      still = ap (λ (n : ℕ). ltb 0 (n - (window_of u.sender).send_base)) same.next ∙ ap (λ (n : ℕ). ltb 0 (next_of s.sender - n)) same.base ∙ o

      exit : List (List ℕ) → RetransmitExit
      exit ps = retransmit_all top Single rolls (on_timeout_unchecked s.estimator).current_rto now (oldest_outstanding u.sender) ps s.resends (with_clock s (stopped s.outgoing.clock)).outgoing

      armed : is_going (exit (resent s.sender All).packets).stop ≡ true → Armed (next_of u) (s.resends.retx_submitted + 1) (exit (resent s.sender All).packets).resends (exit (resent s.sender All).packets).outgoing
      armed =
          subst (λ (ps : List (List ℕ)). is_going (exit ps).stop ≡ true → Armed (next_of u) (s.resends.retx_submitted + 1) (exit ps).resends (exit ps).outgoing) (sym first.are)
          (all_armed rolls (on_timeout_unchecked s.estimator).current_rto now u.sender still top first.packet first.packets s.resends (with_clock s (stopped s.outgoing.clock)).outgoing c (h.noted ∙ sym same.next))

      some : is_going (exit (resent s.sender All).packets).stop ≡ true → Runs limit u (exit (resent s.sender All).packets).outgoing.clock (exit (resent s.sender All).packets).outgoing.metas.notes.count (exit (resent s.sender All).packets).resends.retx_submitted
      some on =
          let a = armed on in
          let r = first.retries in
          let q = h.retries in
          let k = a.counted in
          record { noted = a.noted; runs = a.runs ∙ sym still; limit_is = first.limit_is; retries = omega (arith, r, q, k) }

  single_due_lem : (c : ClockState) (b outstanding : Bool) → expired_at (timer_of c).deadline now ≡ b → single_due b outstanding ran.Nothing ≡ due Single c now outstanding
  unfolding due
  single_due_lem c b outstanding e = ap (λ (x : Bool). single_due x outstanding ran.Nothing) (sym e)

  fire_runs : {samples : ℕ} (s : FireState) → GoodFire Single rolls samples now s → OfFire s → is_going (fire_timers top Single rolls now s).stop ≡ true → OfFire (fire_timers top Single rolls now s).state
  fire_runs s g h = by_ceiling (ceiling_met top s.resends) refl
    where
      After : FireExit → Type 0
      After x = is_going x.stop ≡ true → OfFire x.state

      by_due_lem : ceiling_met top s.resends ≡ false → (b o : Bool) → expired_at (timer_of s.outgoing.clock).deadline now ≡ b → has_outstanding s.sender.sender ≡ o → After (fire_timers top Single rolls now s)
      by_due_lem c b o x e = subst After (sym (timers_due_lem top Single rolls now s c (single_due_lem s.outgoing.clock b o x ∙ ap (due Single s.outgoing.clock now) (sym e)))) (by_tests b o e)
        where
          by_tests : (b o : Bool) → has_outstanding s.sender.sender ≡ o → After (by_due (single_due b o ran.Nothing) top Single rolls now s)
          by_tests true true e = fires_single s g h c e
          by_tests true false e = λ on. h
          by_tests false o e = λ on. h

      by_ceiling : (b : Bool) → ceiling_met top s.resends ≡ b → After (fire_timers top Single rolls now s)
      by_ceiling true c = subst After (sym (timers_met top Single rolls now s c)) (λ on. record { noted = h.noted; runs = h.runs; limit_is = h.limit_is; retries = h.retries })
      by_ceiling false c = by_due_lem c (expired_at (timer_of s.outgoing.clock).deadline now) (has_outstanding s.sender.sender) refl refl

  -- ---- new chunks
  module _ (size : ℕ) (file : List ℕ) (total rto again : ℕ) where
    abbrev OfPump : PumpState → Type 0
    OfPump s = Runs limit s.sender s.outgoing.clock s.outgoing.metas.notes.count again

    -- the timer is set for a number that is the oldest; before another one was outstanding already
    sent_set : (c : ClockState) (m : SegMetas) (x : Submission) (v : Sender) → x.retransmission ≡ false → x.oldest ≡ oldest_outstanding v → has_outstanding v ≡ true → (window_of v).next_seq_num ≤ m.notes.count
        → (((window_of v).send_base ≡ x.seq → ⊥) → is_set c ≡ true) → is_set (arm_after_submit Single c m x) ≡ true
    unfolding arm_after_submit
    sent_set c m x v r e o n before = ap (λ (b : Bool). is_set (cond (b || is_oldest x.oldest x.seq) (with_timer c (arm_oldest (timer_of c) m x.time x.oldest)) c)) r ∙ by_oldest (is_oldest x.oldest x.seq) refl
      where
        first : is_oldest x.oldest x.seq ≡ eqb (window_of v).send_base x.seq
        first = ap (λ (y : Option ℕ). is_oldest y x.seq) (e ∙ ap (λ (b : Bool). cond b (Some (window_of v).send_base) None) o)

        by_oldest : (b : Bool) → is_oldest x.oldest x.seq ≡ b → is_set (cond b (with_timer c (arm_oldest (timer_of c) m x.time x.oldest)) c) ≡ true
        by_oldest true i = ap (λ (y : Option ℕ). active (arm_oldest (timer_of c) m x.time y).deadline) e ∙ arm_is (timer_of c) m x.time v n ∙ o
        by_oldest false i = before (eqb-false _ _ (sym first ∙ i))

    chunk_runs : (s : PumpState) → CanPump Single rolls size file total rto now s → can_pump total s.sender.sender ≡ true → is_going (send_one Single rolls (chunks_of size file) rto now s).stop ≡ true → OfPump s
        → OfPump (send_one Single rolls (chunks_of size file) rto now s).state
    unfolding send_one
    chunk_runs s can free going h =
        record {
          noted = grown;
          runs = ap (λ (y : Outgoing). is_set y.clock) is ∙ sent_set s.outgoing.clock (metas_of rolls (given can free) s.outgoing) (given can free) v.sender refl refl some (omega (arith, fits)) before ∙ sym some;
          limit_is = f.limit_is;
          retries = let z = f.retries in omega (arith, z);
        }
      where
        v : SenderEnd
        v = (send_chunk s.sender (chunk can free) (blank can free)).after

        f : Fresh limit v.sender.state
        f = sent_fresh limit s.sender (chunk can free) (blank can free) (can_send_lem can free) h.limit_is

        grown : (send_one Single rolls (chunks_of size file) rto now s).state.outgoing.metas.notes.count ≡ next_of (send_one Single rolls (chunks_of size file) rto now s).state.sender
        grown = notes_grow can free h.noted

        is : (submit Single rolls (given can free) (written can free) s.outgoing).outgoing ≡ submitted Single rolls (given can free) (written can free) s.outgoing
        is = submit_going Single rolls (given can free) (written can free) s.outgoing (going_is _ going)

        fits : (metas_of rolls (given can free) s.outgoing).notes.count ≡ next_of v
        fits = ap (λ (y : Outgoing). y.metas.notes.count) (sym is) ∙ grown

        ordered : (window_of s.sender.sender).send_base ≤ next_number s
        ordered = (sound (is_selective s.sender.sender.state) (window_of s.sender.sender) s.sender.store can.good.sender.state).ordered

        some : has_outstanding v.sender ≡ true
        some = let b = (sent_next can free).base in let n = (sent_next can free).next in let o = ordered in lt-ltb 0 (outstanding (window_of v.sender)) (omega (arith, b, n, o))

        before : ((window_of v.sender).send_base ≡ next_number s → ⊥) → is_set s.outgoing.clock ≡ true
        before other = h.runs ∙ lt-ltb 0 (outstanding (window_of s.sender.sender)) (more (window_of s.sender.sender).send_base (next_number s) ordered (λ i. other ((sent_next can free).base ∙ i)))
          where
            more : (low high : ℕ) → low ≤ high → (low ≡ high → ⊥) → 0 < high - low
            more low high h n = omega arith

    pump_runs : (s : PumpState) → CanPump Single rolls size file total rto now s → OfPump s → is_going (pump_sends Single rolls (chunks_of size file) rto now s).stop ≡ true → OfPump (pump_sends Single rolls (chunks_of size file) rto now s).state
    pump_runs =
        pump_turns (λ (s : PumpState) (x : PumpExit). OfPump s → is_going x.stop ≡ true → OfPump x.state) (λ s can none h g. h) (λ s x can free g rest h on. rest (chunk_runs s can free g h) on)
        (λ s can free g h on. absurd (true≢false (sym on ∙ g)))

  -- ---- the departures of a moment
  pub departures_run : {size : ℕ} {file : List ℕ} {total samples : ℕ} (s : FireState) → CanSendDue Single rolls size file total now s → GoodFire Single rolls samples now s → OfFire s
      → is_going (send_due top Single rolls (chunks_of size file) now s).stop ≡ true → OfFire (send_due top Single rolls (chunks_of size file) now s).state
  unfolding send_due
  departures_run {size} {file} {total} s can g h = by_test_lem (is_going_on (fired top can)) refl
    where
      chunks_sent : PumpExit
      chunks_sent = pump_sends Single rolls (chunks_of size file) (fired top can).state.estimator.current_rto now (pump_of (fired top can).state)

      by_test_lem : (b : Bool) → is_going_on (fired top can) ≡ b → is_going (cond b (pumped (fired top can) chunks_sent) (fired top can)).stop ≡ true → OfFire (cond b (pumped (fired top can) chunks_sent) (fired top can)).state
      by_test_lem true e on =
          let first = ((and-eq-true_iff (is_going (fired top can).stop) (not (fired top can).state.resends.exhausted)).0 e).0 in
          pump_runs size file total (fired top can).state.estimator.current_rto (fired top can).state.resends.retx_submitted (pump_of (fired top can).state) (can_pump_lem top can e) (fire_runs s g h first) on
      by_test_lem false e on = fire_runs s g h on
