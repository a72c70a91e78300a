-- Any datagram given as an ACK leaves a sender's protocol, window size, next number, counts and length of the store; its base does not fall.
use Rattle.std.specs.Prelude.{Err, Ok, Result}
use Prim.Native.Nat.{ℕ, ◌+◌, ◌-◌, ◌*◌, ◌≤◌, ◌<◌}
use mathlib.Core.Path.{◌≡◌, refl, ◌∙◌}
use mathlib.Core.Bool.{Bool, true, false, cond}
use mathlib.Core.List.{List}
use native.Mathlib.Omega.{arith}
use lib.ListN.{length, length-set}
use Rattle.bounds.specs.Bounds.{slot_size}
use Rattle.refinement.proofs.Writes.{emptied_length}
use Rattle.window.specs.Slots as slots
use Rattle.window.specs.Acknowledgement.{ack_decision, by_decision}
use Rattle.window.specs.declared.AckDecision.{AckDecision}
use Rattle.window.specs.declared.AckDecision.TheVariants as decision
use Rattle.window.proofs.Laws.{Accepted, ack_accepted}
use Rattle.stop_and_wait.specs.declared.StopAndWaitSender.{StopAndWaitSender}
use Rattle.stop_and_wait.specs.Sender as stop_and_wait
use Rattle.selective_repeat.specs.Sender as selective_repeat
use Rattle.session.specs.declared.SenderState.{SenderState}
use Rattle.session.specs.declared.SenderState.TheVariants as senderState
use Rattle.session.specs.Sending.{SenderEnd, sender_in, window_in, window_of, handle_ack, acknowledged_in}
use Rattle.session.specs.GoodSender.{is_selective}
use Rattle.session.proofs.Acks.{ack_decided}
use Rattle.refusal.specs.declared.Refusal.{Refusal}

pub record AckKeepsSender (v v' : SenderEnd) : Type 0 where
  pub selective : is_selective v'.sender.state ≡ is_selective v.sender.state
  pub size : (window_of v'.sender).window_size ≡ (window_of v.sender).window_size
  pub next : (window_of v'.sender).next_seq_num ≡ (window_of v.sender).next_seq_num
  pub sent : (window_of v'.sender).total_sent ≡ (window_of v.sender).total_sent
  pub again : (window_of v'.sender).retransmissions ≡ (window_of v.sender).retransmissions
  pub base : (window_of v.sender).send_base ≤ (window_of v'.sender).send_base
  pub store : length v'.store ≡ length v.store

pub sender_keeps_same : (v : SenderEnd) → AckKeepsSender v v
sender_keeps_same v = record { selective = refl; size = refl; next = refl; sent = refl; again = refl; base = omega arith; store = refl }

pub sender_keeps_then : {a b c : SenderEnd} → AckKeepsSender a b → AckKeepsSender b c → AckKeepsSender a c
sender_keeps_then p q =
    record {
      selective = q.selective ∙ p.selective;
      size = q.size ∙ p.size;
      next = q.next ∙ p.next;
      sent = q.sent ∙ p.sent;
      again = q.again ∙ p.again;
      base = omega (arith, p.base, q.base);
      store = q.store ∙ p.store;
    }

-- the slots of numbers below `until` emptied
released_length : (v : slots.Sender) (until : ℕ) → 0 < v.window.window_size → v.window.window_size * slot_size ≤ length v.store → length (slots.release v until).store ≡ length v.store
unfolding slots.release
released_length v until positive room = emptied_length v.store v.window.window_size v.window.send_base (until - v.window.send_base) positive room

-- Stop-and-Wait accepts an ACK of the packet in flight
moved_on : (s : StopAndWaitSender) (n : ℕ) → s.current_seq ≤ n → n < (stop_and_wait.window_of s).next_seq_num → s.current_seq + 1 ≡ (stop_and_wait.window_of s).next_seq_num
moved_on s n = by_flight s.in_flight
  where
    by_flight : (b : Bool) → s.current_seq ≤ n → n < cond b (s.current_seq + 1) s.current_seq → s.current_seq + 1 ≡ cond b (s.current_seq + 1) s.current_seq
    by_flight true h k = refl
    by_flight false h k = absurd (omega arith)

accepted_keeps : (s : SenderState) (store : List ℕ) (n m : ℕ) → Accepted (is_selective s) (window_in s) store n m → AckKeepsSender (sender_in s store) (acknowledged_in s store n)
unfolding slots.release selective_repeat.acknowledge_one
accepted_keeps (senderState.StopAndWait s) store n m a =
    record {
      selective = refl;
      size = refl;
      next = moved_on s n a.from a.below;
      sent = refl;
      again = refl;
      base = omega arith;
      store = released_length (slots.sender (stop_and_wait.window_of s) store) (n + 1) a.state.positive a.state.room;
    }
accepted_keeps (senderState.GoBackN s) store n m a =
    record { selective = refl; size = refl; next = refl; sent = refl; again = refl; base = omega (arith, a.from); store = released_length (slots.sender s.window store) (n + 1) a.state.positive a.state.room }
accepted_keeps (senderState.SelectiveRepeat s) store n m a =
    let v = selective_repeat.mark_acknowledged (slots.sender s.window store) n in
    record {
      selective = refl;
      size = refl;
      next = refl;
      sent = refl;
      again = refl;
      base = omega arith;
      store = released_length v (s.window.send_base + selective_repeat.acknowledged_run v) a.state.positive (rw length-set a.state.room) ∙ length-set store _ _;
    }

pub ack_keeps_sender : (v : SenderEnd) (raw : List ℕ) → AckKeepsSender v (handle_ack v raw).after
unfolding handle_ack by_decision
ack_keeps_sender v raw =
    let s = v.sender.state in
    rw (ack_decided s v.store raw) (by_decision_lem (ack_decision (is_selective s) (window_in s) v.store raw) (λ n m e. ack_accepted (is_selective s) (window_in s) v.store raw n m e))
  where
    by_decision_lem : (d : Result AckDecision Refusal) → ((n m : ℕ) → d ≡ Ok (decision.Accept n m) → Accepted (is_selective v.sender.state) (window_in v.sender.state) v.store n m) → AckKeepsSender v (by_decision d v (acknowledged_in v.sender.state v.store)).after
    by_decision_lem (Ok (decision.Accept n m)) h = accepted_keeps v.sender.state v.store n m (h n m refl)
    by_decision_lem (Ok decision.NotAccepted) h = sender_keeps_same v
    by_decision_lem (Err r) h = sender_keeps_same v
