-- Demand 3 for the ends of the three protocols, from what making leaves.
use Prim.Native.Nat.{ℕ, zero, suc, ◌+◌, ◌-◌, ◌≤◌, ◌<◌}
use mathlib.Core.Path.{◌≡◌, refl, ◌∙◌}
use mathlib.Core.List.{List, flatten}
use mathlib.Core.Bool.{Bool, true, false, cond, ◌&&◌}
use native.Mathlib.Omega.{arith}
use lib.Dec.{ltb, leb, eqb}
use borrow.Author.Tests.{ltb-false}
use Rattle.refusal.proofs.Laws.{none_of}
use Rattle.octets.specs.Octets.{Octets}
use Rattle.protocol.specs.declared.ProtocolType.{ProtocolType}
use Rattle.protocol.specs.declared.ProtocolType.TheVariants.{StopAndWait, GoBackN, SelectiveRepeat}
use Rattle.protocol.specs.Machine.{new_sender}
use Rattle.protocol.specs.Trace.{new_world}
use Rattle.window.specs.State.{window_broken, store_short}
use Rattle.window.specs.Slots as slots
use Rattle.window.specs.Slots.{release, mark_retransmitted}
use Rattle.window.specs.Sending.{send_chunk}
use Rattle.window.specs.Resending.{TimeoutExit, mark_from}
use Rattle.window.specs.Acknowledgement.{ack_decision}
use Rattle.receiver.specs.State as receiverState
use Rattle.receiver.specs.Reading.{read_packet}
use Rattle.receiver.specs.declared.PacketReading.{PacketReading}
use Rattle.receiver.specs.declared.PacketReading.TheVariants as reading
use Rattle.selective_repeat.specs.declared.SelectiveRepeatDecision.{SelectiveRepeatDecision}
use Rattle.stop_and_wait.specs.Sender as stop_and_wait
use Rattle.stop_and_wait.specs.Receiver as stopAndWaitReceiver
use Rattle.go_back_n.specs.Sender as go_back_n
use Rattle.go_back_n.specs.Receiver as goBackNReceiver
use Rattle.selective_repeat.specs.Sender as selective_repeat
use Rattle.selective_repeat.specs.Receiver as sr
use Rattle.refinement.specs.Good.{GoodSelectiveReceiver}
use Rattle.refinement.proofs.Laws.{ResendOutcome, timeout_refused, nothing_sent, sent_again_lem, after_packet_lem, after_ack, marks_octets, go_back_n_ack, go_back_n_ack_octets, go_back_n_timeout, lowest_sent_again, go_back_nView, go_back_n_receives, go_back_n_receiver_good, stop_and_wait_view, stop_and_wait_send, stop_and_wait_timeout, stop_and_wait_ack, stop_and_wait_ack_octets, stop_and_wait_made, state_good, stop_and_wait_receives, stop_and_wait_receiver_good, selective_ack, selective_ack_octets, selective_timeout, selective_view, selective_receives, selective_receiver_good, fresh_good, fresh_octets, fresh_follows, fresh_receiver_follows, fresh_receiver_good}
use Rattle.delivery.specs.Calls.{Call, World, Admissible}
use Rattle.delivery.specs.Ends.{SingleTimeout, GoBackNTimeout, all, earliest, go_back_nTimeout, ends, fresh_ends, Made}
use Rattle.delivery.specs.Demand3.{plain_after, Claim, Demand3}
use Rattle.delivery.proofs.Lists.{Reached}
use Rattle.delivery.proofs.Follow.{Follow}
use Rattle.delivery.proofs.SenderFollows.{SenderIs, not_handled}
use Rattle.delivery.proofs.ReceiverFollows.{not_received}
use Rattle.delivery.proofs.Instances.{TimeoutAs, SenderCalls, ReceiverCalls, calls_follow}
use Rattle.delivery.proofs.Simulation.{Follows}
use Rattle.delivery.proofs.FromCalls.{from_calls}

-- the window's size stays, and octets stay octets
release_size : (v : slots.Sender) (until : ℕ) → (release v until).window.window_size ≡ v.window.window_size
unfolding release
release_size v until = refl

marks_size : (v : slots.Sender) (n k : ℕ) → (mark_from v n k).window.window_size ≡ v.window.window_size
unfolding mark_from mark_retransmitted
marks_size v n zero = refl
marks_size v n (suc k) = marks_size (mark_retransmitted v n) (n + 1) k

module _ (selective : Bool) (v : slots.Sender) (n k : ℕ) (out : List ℕ) (y : TimeoutExit slots.Sender) (r : ResendOutcome selective v n k out y) where
  outcome_size : y.after.window.window_size ≡ v.window.window_size
  outcome_size = elim r [
    | timeout_refused s e ↦ rw e refl
    | nothing_sent z e ↦ rw e refl
    | sent_again_lem x ↦ rw x.marked (marks_size v n k)
  ]

  outcome_octets : Octets v.store → Octets y.after.store
  outcome_octets o = elim r [
    | timeout_refused s e ↦ rw e o
    | nothing_sent z e ↦ rw e o
    | sent_again_lem x ↦ rw x.marked (marks_octets v n k o)
  ]

-- a timeout whose window does what y does
as_window : {S : Type 0} (selective : Bool) (view : S → slots.Sender) (v : S) (n k : ℕ) (out : List ℕ) (r : TimeoutExit S) (y : TimeoutExit slots.Sender)
    → view r.after ≡ y.after → r.answer ≡ y.answer → r.out ≡ y.out → ResendOutcome selective (view v) n k out y → TimeoutAs selective view v out r
as_window selective view v n k out r y after answer out_is o =
    record {
      first = n;
      count = k;
      by = y;
      after = after;
      answer = answer;
      out_is = out_is;
      outcome = o;
      octets = outcome_octets selective (view v) n k out y o;
      size = outcome_size selective (view v) n k out y o;
    }

-- Go-Back-N
go_back_n_times : (v : slots.Sender) (t : GoBackNTimeout) (out : List ℕ) → TimeoutAs false (λ u. u) v out (go_back_nTimeout v t out)
go_back_n_times v all out = as_window false (λ u. u) v _ _ out _ _ refl refl refl (go_back_n_timeout v out)
go_back_n_times v earliest out = as_window false (λ u. u) v _ _ out _ _ refl refl refl (lowest_sent_again v 1 out)

pub go_back_n_sender : SenderCalls GoBackN false (λ u. u) (send_chunk false) go_back_nTimeout go_back_n.handle_ack (λ v. v.window.send_base)
go_back_n_sender = record {
  base_is = λ v. refl;
  send_after = λ v payload out. refl;
  send_answer = λ v payload out. refl;
  send_out = λ v payload out. refl;
  timeout_as = go_back_n_times;
  ack_outcome = go_back_n_ack;
  ack_octets = go_back_n_ack_octets;
  ack_size = λ v raw. after_ack (λ (u : slots.Sender). u.window.window_size ≡ v.window.window_size) (ack_decision false v.window v.store raw) v (λ n. release v (n + 1)) refl (λ n. release_size v (n + 1));
  ack_refused = λ v raw. not_handled (ack_decision false v.window v.store raw) v (λ n. release v (n + 1));
}

pub go_back_n_receiver : (w : ℕ) → ReceiverCalls GoBackN w go_back_nView (λ r. r.filled) (λ r output. receiverState.state_broken r.expected_seq r.filled output ≡ false) goBackNReceiver.handle_packet (λ r. r.expected_seq)
go_back_n_receiver w = record {
  base_is = λ r. refl;
  outcome = λ r raw output ack g. go_back_n_receives w r raw output ack;
  good = λ r raw output ack g. go_back_n_receiver_good w r raw output ack g;
  refused = λ r raw output ack. not_received _ raw output ack;
}

-- Stop-and-Wait
pub stop_and_wait_sender_lem : SenderCalls StopAndWait false {T = SingleTimeout} stop_and_wait.window_end stop_and_wait.send_chunk (λ v t out. stop_and_wait.handle_timeout v out) stop_and_wait.handle_ack (λ v. v.sender.current_seq)
stop_and_wait_sender_lem = record {
  base_is = λ v. refl;
  send_after = stop_and_wait_send;
  send_answer = λ v payload out. refl;
  send_out = λ v payload out. refl;
  timeout_as = λ v t out.
      as_window false stop_and_wait.window_end v _ _ out _ _ (stop_and_wait_timeout v out) refl refl (lowest_sent_again (stop_and_wait.window_end v) (stop_and_wait.retries_left v.sender) out);
  ack_outcome = stop_and_wait_ack;
  ack_octets = stop_and_wait_ack_octets;
  ack_size = λ v raw. refl;
  ack_refused = λ v raw. not_handled (ack_decision false (stop_and_wait.window_of v.sender) v.store raw) v (stop_and_wait.acknowledged v);
}

pub stop_and_wait_receiver : (w : ℕ) → ReceiverCalls StopAndWait w stop_and_wait_view (λ r. r.filled) (λ r output. receiverState.state_broken r.expected_seq r.filled output ≡ false) stopAndWaitReceiver.handle_packet (λ r. r.expected_seq)
stop_and_wait_receiver w = record {
  base_is = λ r. refl;
  outcome = λ r raw output ack g. stop_and_wait_receives w r raw output ack;
  good = λ r raw output ack g. stop_and_wait_receiver_good w r raw output ack g;
  refused = λ r raw output ack. not_received _ raw output ack;
}

-- Selective Repeat
acknowledge_size : (v : slots.Sender) (n : ℕ) → (selective_repeat.acknowledge_one v n).window.window_size ≡ v.window.window_size
unfolding selective_repeat.acknowledge_one
acknowledge_size v n = release_size (selective_repeat.mark_acknowledged v n) _

pub selective_repeat_sender_lem : SenderCalls SelectiveRepeat true (λ u. u) (send_chunk true) selective_repeat.handle_timeout selective_repeat.handle_ack (λ v. v.window.send_base)
selective_repeat_sender_lem = record {
  base_is = λ v. refl;
  send_after = λ v payload out. refl;
  send_answer = λ v payload out. refl;
  send_out = λ v payload out. refl;
  timeout_as = λ v n out. as_window true (λ u. u) v n _ out _ _ refl refl refl (selective_timeout v n out);
  ack_outcome = selective_ack;
  ack_octets = selective_ack_octets;
  ack_size = λ v raw. after_ack (λ (u : slots.Sender). u.window.window_size ≡ v.window.window_size) (ack_decision true v.window v.store raw) v (selective_repeat.acknowledge_one v) refl (acknowledge_size v);
  ack_refused = λ v raw. not_handled (ack_decision true v.window v.store raw) v (selective_repeat.acknowledge_one v);
}

-- a good receiver of window w
pub record GoodOf (w : ℕ) (r : sr.Receiver) (output : List ℕ) : Type 0 where
  pub good : GoodSelectiveReceiver r output
  pub size : r.state.window_size ≡ w

same_size : (w : ℕ) (x y : SelectiveRepeatDecision) (b : Bool) → x.receiver.window_size ≡ w → y.receiver.window_size ≡ w → (cond b x y).receiver.window_size ≡ w
same_size w x y true e f = e
same_size w x y false e f = f

data_size : (v : sr.Receiver) (n : ℕ) → (sr.data_decision v n).receiver.window_size ≡ v.state.window_size
unfolding sr.data_decision
data_size v n =
    let w = v.state.window_size in
    let b = v.state.recv_base in
    let within = same_size w (sr.duplicate v n) (sr.out_of_order v n) (sr.held v n) refl refl in
    let below = same_size w (sr.duplicate v n) (sr.unanswered v.state) (leb (b - w) n && ltb n b) refl refl in
    same_size w (sr.in_order v n) _ (eqb n b) refl (same_size w (cond (sr.held v n) (sr.duplicate v n) (sr.out_of_order v n)) _ (ltb b n && ltb n (b + w)) within below)

decision_size : (v : sr.Receiver) (h : PacketReading) → (sr.decision v h).receiver.window_size ≡ v.state.window_size
unfolding sr.decision
decision_size v (reading.Data n) = data_size (sr.counted v) n
decision_size v (reading.Fin n) = refl
decision_size v reading.Ack = refl
decision_size v reading.Corrupted = refl

packet_size : (r : sr.Receiver) (raw output ack : List ℕ) → (sr.handle_packet r raw output ack).receiver.state.window_size ≡ r.state.window_size
packet_size r raw output ack =
    after_packet_lem (λ (u : sr.Receiver). u.state.window_size ≡ r.state.window_size) _ raw output ack refl (λ k n. decision_size r (read_packet raw))

pub selective_repeat_receiver : (w : ℕ) → ReceiverCalls SelectiveRepeat w selective_view (λ r. r.state.filled) (GoodOf w) sr.handle_packet (λ r. r.state.recv_base)
selective_repeat_receiver w = record {
  base_is = λ r. refl;
  outcome = λ r raw output ack g. rw (← g.size) (selective_receives r raw output ack);
  good = λ r raw output ack g. record { good = selective_receiver_good r raw output ack g.good; size = packet_size r raw output ack ∙ g.size };
  refused = λ r raw output ack. not_received _ raw output ack;
}

unfoldable pub follows : (p : ProtocolType) (w : ℕ) → Follow p w (ends p)
follows StopAndWait w = calls_follow StopAndWait w false stop_and_wait.window_end stop_and_wait.send_chunk _ _ _ stop_and_wait_sender_lem stop_and_wait_view _ _ _ _ (stop_and_wait_receiver w)
follows GoBackN w = calls_follow GoBackN w false (λ u. u) (send_chunk false) _ _ _ go_back_n_sender go_back_nView _ _ _ _ (go_back_n_receiver w)
follows SelectiveRepeat w = calls_follow SelectiveRepeat w true (λ u. u) (send_chunk true) _ _ _ selective_repeat_sender_lem selective_view _ _ _ _ (selective_repeat_receiver w)

-- fresh ends
fresh_size : (w : ℕ) (store : List ℕ) → (slots.fresh w store).window.window_size ≡ w
unfolding slots.fresh
fresh_size w store = refl

fresh_sender : (selective : Bool) (w : ℕ) (store : List ℕ) → window_broken w ≡ false → store_short store w ≡ false → Octets store → SenderIs selective w (slots.fresh w store) new_sender
fresh_sender selective w store bounds room octets =
    record { good = fresh_good selective w store bounds room; octets = fresh_octets w store octets; size = fresh_size w store; is = fresh_follows w store }

pub fresh_mark : (output : List ℕ) → receiverState.state_broken 0 0 output ≡ false
fresh_mark output = state_good 0 0 output (omega arith) (omega arith)

positive : (w : ℕ) → window_broken w ≡ false → 0 < w
unfolding window_broken
positive w e = let p : 1 ≤ w = ltb-false w 1 (none_of _ e).0 in omega arith

fresh_follow : (p : ProtocolType) (w limit : ℕ) (sending receiving output : List ℕ) → Made p w sending receiving → Follows p w (ends p) (follows p w) output (fresh_ends p w limit sending receiving output) (new_world p w)
unfolding new_world follows calls_follow flatten
fresh_follow StopAndWait w limit sending receiving output m =
    let e = m.window in
    record {
      sender = rw (stop_and_wait_made limit sending, ← e) (fresh_sender false w sending m.in_bounds m.sending_room m.octets);
      receiver = record { good = fresh_mark output; mark = omega arith; is = refl };
      sent = tt;
      replies = tt;
      output = refl;
      unwritten = refl;
    }
fresh_follow GoBackN w limit sending receiving output m =
    record {
      sender = fresh_sender false w sending m.in_bounds m.sending_room m.octets;
      receiver = record { good = fresh_mark output; mark = omega arith; is = refl };
      sent = tt;
      replies = tt;
      output = refl;
      unwritten = refl;
    }
fresh_follow SelectiveRepeat w limit sending receiving output m =
    record {
      sender = fresh_sender true w sending m.in_bounds m.sending_room m.octets;
      receiver = record {
        good = record { good = fresh_receiver_good w receiving output m.in_bounds m.receiving_room; size = refl };
        mark = omega arith;
        is = fresh_receiver_follows w receiving (positive w m.in_bounds);
      };
      sent = tt;
      replies = tt;
      output = refl;
      unwritten = refl;
    }

-- at the start all of the output is behind the fill mark
pub fresh_start : (p : ProtocolType) (w limit : ℕ) (sending receiving output : List ℕ) → Made p w sending receiving
    → Follows p w (ends p) (follows p w) ((ends p).unwritten (fresh_ends p w limit sending receiving output).receiver) (fresh_ends p w limit sending receiving output) (new_world p w)
fresh_start StopAndWait w limit sending receiving output m = fresh_follow StopAndWait w limit sending receiving output m
fresh_start GoBackN w limit sending receiving output m = fresh_follow GoBackN w limit sending receiving output m
fresh_start SelectiveRepeat w limit sending receiving output m = fresh_follow SelectiveRepeat w limit sending receiving output m

-- Demand 3
pub demand_3 : (p : ProtocolType) (w limit : ℕ) (sending receiving output : List ℕ) → Made p w sending receiving
    → (cs : List (Call (ends p).Timeout)) → Admissible (ends p) (fresh_ends p w limit sending receiving output) cs → Demand3 p w (ends p) (fresh_ends p w limit sending receiving output) cs
demand_3 p w limit sending receiving output m cs l =
    from_calls p w m.window (ends p) (follows p w) (fresh_ends p w limit sending receiving output) (fresh_start p w limit sending receiving output m) cs l

-- of a world to which an admissible list of calls leads
pub reached_claim : (p : ProtocolType) (w limit : ℕ) (sending receiving output : List ℕ) → Made p w sending receiving → {now : World (ends p)}
    → (r : Reached (ends p) (fresh_ends p w limit sending receiving output) now)
    → Claim (ends p) w (fresh_ends p w limit sending receiving output) now (plain_after p w (ends p) (fresh_ends p w limit sending receiving output) r.calls)
reached_claim p w limit sending receiving output m r = rw (← r.leads) (demand_3 p w limit sending receiving output m r.calls r.admissible).claim
