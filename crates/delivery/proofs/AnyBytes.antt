-- From fresh ends a good state stays good: after any list of calls with any bytes the next call meets no 9.
use Prim.Native.Nat.{ℕ}
use mathlib.Core.Path.{refl, sym, subst}
use mathlib.Core.List.{List, [], ◌∷◌}
use mathlib.Core.Bool.{Bool, true, false}
use Rattle.protocol.specs.declared.ProtocolType.{ProtocolType}
use Rattle.protocol.specs.declared.ProtocolType.TheVariants.{StopAndWait, GoBackN, SelectiveRepeat}
use Rattle.window.specs.Slots as slots
use Rattle.window.specs.Sending.{SendExit}
use Rattle.window.specs.Resending.{TimeoutExit}
use Rattle.window.specs.Acknowledgement.{AckExit}
use Rattle.receiver.specs.Receive.{ReceiveExit}
use Rattle.stop_and_wait.specs.Receiver as stopAndWaitReceiver
use Rattle.go_back_n.specs.Receiver as goBackNReceiver
use Rattle.selective_repeat.specs.Receiver as selectiveRepeatReceiver
use Rattle.refinement.specs.Good.{Good}
use Rattle.refinement.proofs.Laws.{fresh_good, fresh_receiver_good, stop_and_wait_made, send_good, ack_refused, ack_ignored, ack_taken, timeout_refused, nothing_sent, sent_again_lem}
use Rattle.delivery.specs.Calls.{Ends}
use Rattle.delivery.specs.Ends.{ends_of, ends, fresh_ends, Made}
use Rattle.delivery.specs.AnyBytes.{SenderCall, send, timeout, ack, sender_step, sender_after, ReceiverCall, receiver_after, SenderSound, ReceiverSound}
use Rattle.delivery.proofs.Instances.{SenderCalls}
use Rattle.delivery.proofs.Demand3.{stop_and_wait_sender_lem, go_back_n_sender, selective_repeat_sender_lem, stop_and_wait_receiver, go_back_n_receiver, selective_repeat_receiver, GoodOf, fresh_mark}

-- what each call keeps, any list keeps
every_sender : (E : Ends) (P : E.Sender → Type 0) → ((s : E.Sender) (c : SenderCall E.Timeout) → P s → P (sender_step E s c)) → (s : E.Sender) (cs : List (SenderCall E.Timeout)) → P s → P (sender_after E s cs)
unfolding sender_after
every_sender E P step s [] h = h
every_sender E P step s (c ∷ cs) h = every_sender E P step (sender_step E s c) cs (step s c h)

every_receiver : (E : Ends) (P : E.Receiver → Type 0) → ((r : E.Receiver) (c : ReceiverCall) → P r → P (E.handle_packet r c.raw c.buffer).after) → (r : E.Receiver) (cs : List ReceiverCall) → P r → P (receiver_after E r cs)
unfolding receiver_after
every_receiver E P step r [] h = h
every_receiver E P step r (c ∷ cs) h = every_receiver E P step (E.handle_packet r c.raw c.buffer).after cs (step r c h)

module _ (p : ProtocolType) (selective : Bool) {S R T : Type 0} (view : S → slots.Sender) (send' : S → List ℕ → List ℕ → SendExit S) (timeout' : S → T → List ℕ → TimeoutExit S)
    (ack' : S → List ℕ → AckExit S) (base : S → ℕ) (c : SenderCalls p selective view send' timeout' ack' base) (packet : R → List ℕ → List ℕ → List ℕ → ReceiveExit R) (receiver_base filled : R → ℕ) where
  abbrev E : Ends
  E = ends_of send' timeout' ack' packet base receiver_base filled

  step_good : (s : S) (k : SenderCall T) → Good selective (view s) → Good selective (view (sender_step E s k))
  step_good s (send payload buffer) g = subst (Good selective) (sym (c.send_after s payload buffer)) (send_good selective (view s) payload buffer g)
  step_good s (timeout t buffer) g =
      let x = c.timeout_as s t buffer in
      subst (Good selective) (sym x.after) (elim x.outcome [
        | timeout_refused r e ↦ rw e g
        | nothing_sent z e ↦ rw e g
        | sent_again_lem y ↦ y.good
      ])
  step_good s (ack raw) g = elim (c.ack_outcome s raw) [
    | ack_refused r e ↦ subst (λ (y : AckExit S). Good selective (view y.after)) (sym e) g
    | ack_ignored n e ↦ subst (λ (y : AckExit S). Good selective (view y.after)) (sym e) g
    | ack_taken n e x ↦ x.good
  ]

-- a call keeps a sender's 9 false
pub sender_step_sound : (p : ProtocolType) (s : (ends p).Sender) (k : SenderCall (ends p).Timeout) → SenderSound p s → SenderSound p (sender_step (ends p) s k)
sender_step_sound StopAndWait = step_good StopAndWait false _ _ _ _ _ stop_and_wait_sender_lem stopAndWaitReceiver.handle_packet (λ r. r.expected_seq) (λ r. r.filled)
sender_step_sound GoBackN = step_good GoBackN false _ _ _ _ _ go_back_n_sender goBackNReceiver.handle_packet (λ r. r.expected_seq) (λ r. r.filled)
sender_step_sound SelectiveRepeat = step_good SelectiveRepeat true _ _ _ _ _ selective_repeat_sender_lem selectiveRepeatReceiver.handle_packet (λ r. r.state.recv_base) (λ r. r.state.filled)

pub fresh_sender_sound : (p : ProtocolType) (w limit : ℕ) (sending receiving output : List ℕ) → Made p w sending receiving → SenderSound p (fresh_ends p w limit sending receiving output).sender
fresh_sender_sound StopAndWait w limit sending receiving output m =
    let fresh : Good false (slots.fresh 1 sending) = subst (λ (n : ℕ). Good false (slots.fresh n sending)) m.window (fresh_good false w sending m.in_bounds m.sending_room) in
    subst (Good false) (sym (stop_and_wait_made limit sending)) fresh
fresh_sender_sound GoBackN w limit sending receiving output m = fresh_good false w sending m.in_bounds m.sending_room
fresh_sender_sound SelectiveRepeat w limit sending receiving output m = fresh_good true w sending m.in_bounds m.sending_room

-- a sender that making left in any store, after any calls
pub sender_sound : (p : ProtocolType) (w limit : ℕ) (sending receiving output : List ℕ) → Made p w sending receiving → (cs : List (SenderCall (ends p).Timeout))
    → SenderSound p (sender_after (ends p) (fresh_ends p w limit sending receiving output).sender cs)
sender_sound p w limit sending receiving output m cs = every_sender (ends p) (SenderSound p) (sender_step_sound p) _ cs (fresh_sender_sound p w limit sending receiving output m)

-- what a receiver with a window of w keeps: a Selective Repeat receiver also holds no number too high
abbrev pub ReceiverGood : (p : ProtocolType) → ℕ → (ends p).Receiver → Type 0
ReceiverGood StopAndWait w r = ReceiverSound StopAndWait r
ReceiverGood GoBackN w r = ReceiverSound GoBackN r
ReceiverGood SelectiveRepeat w r = GoodOf w r.receiver r.output

pub receiver_good_sound : (p : ProtocolType) (w : ℕ) (r : (ends p).Receiver) → ReceiverGood p w r → ReceiverSound p r
receiver_good_sound StopAndWait w r g = g
receiver_good_sound GoBackN w r g = g
receiver_good_sound SelectiveRepeat w r g = g.good.sound

pub receiver_step_good : (p : ProtocolType) (w : ℕ) (r : (ends p).Receiver) (k : ReceiverCall) → ReceiverGood p w r → ReceiverGood p w ((ends p).handle_packet r k.raw k.buffer).after
receiver_step_good StopAndWait w r k h = (stop_and_wait_receiver w).good r.receiver k.raw r.output k.buffer h
receiver_step_good GoBackN w r k h = (go_back_n_receiver w).good r.receiver k.raw r.output k.buffer h
receiver_step_good SelectiveRepeat w r k h = (selective_repeat_receiver w).good r.receiver k.raw r.output k.buffer h

pub fresh_receiver_sound : (p : ProtocolType) (w limit : ℕ) (sending receiving output : List ℕ) → Made p w sending receiving → ReceiverGood p w (fresh_ends p w limit sending receiving output).receiver
fresh_receiver_sound StopAndWait w limit sending receiving output m = fresh_mark output
fresh_receiver_sound GoBackN w limit sending receiving output m = fresh_mark output
fresh_receiver_sound SelectiveRepeat w limit sending receiving output m = record { good = fresh_receiver_good w receiving output m.in_bounds m.receiving_room; size = refl }

-- a receiver, with the output as each call left it
pub receiver_sound : (p : ProtocolType) (w limit : ℕ) (sending receiving output : List ℕ) → Made p w sending receiving → (cs : List ReceiverCall)
    → ReceiverSound p (receiver_after (ends p) (fresh_ends p w limit sending receiving output).receiver cs)
receiver_sound p w limit sending receiving output m cs =
    receiver_good_sound p w _ (every_receiver (ends p) (ReceiverGood p w) (receiver_step_good p w) _ cs (fresh_receiver_sound p w limit sending receiving output m))
