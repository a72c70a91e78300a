-- The calls of a run on each end lead to the end, so that the laws of tallies hold of it.
use Prim.Native.Nat.{ℕ}
use mathlib.Core.Path.{◌≡◌, refl, sym, ap, ◌∙◌, subst}
use mathlib.Core.Bool.{Bool, true, false, cond}
use mathlib.Core.List.{List, [], ◌∷◌, ◌++◌}
use Rattle.delivery.specs.AnyBytes as any
use Rattle.tallies.specs.Senders as senders
use Rattle.tallies.specs.Senders.{SenderCounted, answers}
use Rattle.tallies.specs.Receivers as receivers
use Rattle.tallies.proofs.Laws.{Counted, EachCallCounted, from_zero, stop_and_wait_counted_lem, go_back_n_counted, selective_repeat_counted}
use Rattle.delivery.specs.Ends.{one, all, earliest}
use Rattle.stop_and_wait.specs.Sender as stop_and_wait
use Rattle.window.specs.Slots as slots
use Rattle.sending.proofs.Laws.{unused}
use Rattle.session.specs.Sending.{SenderEnd, sender_in, send_chunk, handle_ack, handle_timeout, timeout_number, resent}
use Rattle.receiver.specs.Receive.{ReceiveExit}
use Rattle.receiver.specs.declared.PacketReading.{PacketReading}
use Rattle.tallies.proofs.Laws.{stop_and_wait_receiver, go_back_n_receiver, selective_repeat_receiver}
use Rattle.stop_and_wait.specs.Receiver as stopAndWaitReceiver
use Rattle.go_back_n.specs.Receiver as goBackNReceiver
use Rattle.selective_repeat.specs.Receiver as selectiveRepeatReceiver
use Rattle.protocol.specs.declared.ProtocolType.{ProtocolType}
use Rattle.protocol.specs.declared.ProtocolType.TheVariants.{StopAndWait, GoBackN, SelectiveRepeat}
use Rattle.session.specs.Receiving.{ReceiverEnd, filled, new_receiver, handle_packet, received_as, stop_and_wait_receiver_end, go_back_nReceiver_end, selective_repeat_receiver_end}
use Rattle.session.specs.declared.ReceiverState.TheVariants as receiverState
use Rattle.setup.specs.declared.TransferConfig.{TransferConfig}
use Rattle.step.specs.State.{Given, Lent}
use Rattle.transfer.specs.declared.Ceilings.{Ceilings}
use Rattle.transfer.specs.declared.Outcome.{Outcome}
use Rattle.run_history.specs.History.{start_ends, ends_at, History}
use Rattle.session.specs.declared.SenderState.{SenderState}
use Rattle.session.specs.declared.SenderState.TheVariants as senderState
use Rattle.session.specs.declared.Timeout.{Timeout}
use Rattle.session.specs.declared.Timeout.TheVariants as timeout
use Rattle.receiving.specs.Receiving.{ack_buffer}
use Rattle.run_history.specs.Calls.{Call, chunk, timeout as timesOut, arrival, return, Ends, ends, after, after_calls, collect, reads_as_data, reads_as_ack, received_by}
use Rattle.run_history.specs.EndCalls.{session_sender, sender_call_by, receiver_call_by, receiver_from}

-- ---- the sender: each call of a session is its protocol's
pub session_counted : EachCallCounted session_sender
unfolding send_chunk handle_timeout handle_ack
session_counted v c = by_state v.sender.state v.store c
  where
    by_state : (s : SenderState) (store : List ℕ) (c : any.SenderCall Timeout)
        → Counted session_sender.total_sent session_sender.retransmissions (sender_in s store) (senders.after_call session_sender (sender_in s store) c) (senders.answer_to session_sender (sender_in s store) c)
    by_state (senderState.StopAndWait s) store (any.send payload out) = let x = stop_and_wait_counted_lem (stop_and_wait.end_of s store) (any.send payload out) in record { sent_count = x.sent_count; resent_count = x.resent_count }
    by_state (senderState.StopAndWait s) store (any.timeout t out) = let x = stop_and_wait_counted_lem (stop_and_wait.end_of s store) (any.timeout one out) in record { sent_count = x.sent_count; resent_count = x.resent_count }
    by_state (senderState.StopAndWait s) store (any.ack raw) = let x = stop_and_wait_counted_lem (stop_and_wait.end_of s store) (any.ack raw) in record { sent_count = x.sent_count; resent_count = x.resent_count }
    by_state (senderState.GoBackN s) store (any.send payload out) = let x = go_back_n_counted (slots.sender s.window store) (any.send payload out) in record { sent_count = x.sent_count; resent_count = x.resent_count }
    by_state (senderState.GoBackN s) store (any.timeout timeout.All out) = let x = go_back_n_counted (slots.sender s.window store) (any.timeout all out) in record { sent_count = x.sent_count; resent_count = x.resent_count }
    by_state (senderState.GoBackN s) store (any.timeout timeout.Earliest out) = let x = go_back_n_counted (slots.sender s.window store) (any.timeout earliest out) in record { sent_count = x.sent_count; resent_count = x.resent_count }
    by_state (senderState.GoBackN s) store (any.timeout (timeout.Number n) out) = let x = go_back_n_counted (slots.sender s.window store) (any.timeout all out) in record { sent_count = x.sent_count; resent_count = x.resent_count }
    by_state (senderState.GoBackN s) store (any.ack raw) = let x = go_back_n_counted (slots.sender s.window store) (any.ack raw) in record { sent_count = x.sent_count; resent_count = x.resent_count }
    by_state (senderState.SelectiveRepeat s) store (any.send payload out) = let x = selective_repeat_counted (slots.sender s.window store) (any.send payload out) in record { sent_count = x.sent_count; resent_count = x.resent_count }
    by_state (senderState.SelectiveRepeat s) store (any.timeout t out) = let x = selective_repeat_counted (slots.sender s.window store) (any.timeout (timeout_number s.window t) out) in record { sent_count = x.sent_count; resent_count = x.resent_count }
    by_state (senderState.SelectiveRepeat s) store (any.ack raw) = let x = selective_repeat_counted (slots.sender s.window store) (any.ack raw) in record { sent_count = x.sent_count; resent_count = x.resent_count }

pub sender_after : (e : Ends) (cs : List Call) → senders.after_calls session_sender e.sender (collect sender_call_by e cs) ≡ (after_calls e cs).sender
unfolding after_calls collect senders.after_calls resent
sender_after e [] = refl
sender_after e (chunk payload carried ∷ cs) = sender_after (after e (chunk payload carried)) cs
sender_after e (timesOut t carried ∷ cs) = sender_after (after e (timesOut t carried)) cs
sender_after e (arrival raw carried ∷ cs) = ap (λ (v : SenderEnd). senders.after_calls session_sender v (collect sender_call_by (after e (arrival raw carried)) cs)) (same (reads_as_data raw) (received_by e raw)) ∙ sender_after (after e (arrival raw carried)) cs
  where
    same : (b : Bool) (x : ReceiveExit ReceiverEnd) → e.sender ≡ (cond b (ends e.sender x.receiver x.output) e).sender
    same true x = refl
    same false x = refl
sender_after e (return raw age ∷ cs) = go (reads_as_ack raw) (sender_after (after e (return raw age)) cs)
  where
    go : (b : Bool) → senders.after_calls session_sender (cond b (ends (handle_ack e.sender raw).after e.receiver e.output) e).sender (collect sender_call_by (after e (return raw age)) cs) ≡ (after_calls (after e (return raw age)) cs).sender
        → senders.after_calls session_sender e.sender (cond b (any.ack raw ∷ []) [] ++ collect sender_call_by (after e (return raw age)) cs) ≡ (after_calls (after e (return raw age)) cs).sender
    go true h = h
    go false h = h

-- ---- the receiver
pub receiver_after : (e : Ends) (cs : List Call) → receivers.after_calls handle_packet e.receiver (collect receiver_call_by e cs) ≡ (after_calls e cs).receiver
unfolding after_calls collect receivers.after_calls
receiver_after e [] = refl
receiver_after e (chunk payload carried ∷ cs) = receiver_after (after e (chunk payload carried)) cs
receiver_after e (timesOut t carried ∷ cs) = receiver_after (after e (timesOut t carried)) cs
receiver_after e (arrival raw carried ∷ cs) = go (reads_as_data raw) (receiver_after (after e (arrival raw carried)) cs)
  where
    go : (b : Bool) → receivers.after_calls handle_packet (cond b (ends e.sender (received_by e raw).receiver (received_by e raw).output) e).receiver (collect receiver_call_by (after e (arrival raw carried)) cs) ≡ (after_calls (after e (arrival raw carried)) cs).receiver
        → receivers.after_calls handle_packet e.receiver (cond b (record { raw = raw; output = e.output; ack = ack_buffer } ∷ []) [] ++ collect receiver_call_by (after e (arrival raw carried)) cs) ≡ (after_calls (after e (arrival raw carried)) cs).receiver
    go true h = h
    go false h = h
receiver_after e (return raw age ∷ cs) = ap (λ (r : ReceiverEnd). receivers.after_calls handle_packet r (collect receiver_call_by (after e (return raw age)) cs)) (same (reads_as_ack raw) (handle_ack e.sender raw).after) ∙ receiver_after (after e (return raw age)) cs
  where
    same : (b : Bool) (v : SenderEnd) → e.receiver ≡ (cond b (ends v e.receiver e.output) e).receiver
    same true v = refl
    same false v = refl

-- each call of a session is its protocol's
module _ {R : Type 0} (handle : receivers.Handling R) (end : R → ReceiverEnd) (each : (r : R) (raw output ack : List ℕ) → handle_packet (end r) raw output ack ≡ received_as end (handle r raw output ack)) where
  ends_as : (r : R) (cs : List receivers.Call) → receivers.after_calls handle_packet (end r) cs ≡ end (receivers.after_calls handle r cs)
  unfolding receivers.after_calls
  ends_as r [] = refl
  ends_as r (c ∷ cs) = ap (λ (x : ReceiveExit ReceiverEnd). receivers.after_calls handle_packet x.receiver cs) (each r c.raw c.output c.ack) ∙ ends_as (handle r c.raw c.output c.ack).receiver cs

  reads_as : (r : R) (hs : List PacketReading) (cs : List receivers.Call) → receivers.readings_after handle_packet (end r) hs cs ≡ receivers.readings_after handle r hs cs
  unfolding receivers.readings_after
  reads_as r hs [] = refl
  reads_as r hs (c ∷ cs) =
      ap (λ (x : ReceiveExit ReceiverEnd). receivers.readings_after handle_packet x.receiver (receivers.readings_with x c.raw hs) cs) (each r c.raw c.output c.ack)
      ∙ reads_as (handle r c.raw c.output c.ack).receiver (receivers.readings_with (handle r c.raw c.output c.ack) c.raw hs) cs

pub receiver_counted : (p : ProtocolType) (w : ℕ) (store : List ℕ) (cs : List receivers.Call)
    → (receivers.after_calls handle_packet (new_receiver p w store) cs).receiver.state ≡ receiver_from p w (receivers.readings handle_packet (new_receiver p w store) cs) (filled (receivers.after_calls handle_packet (new_receiver p w store) cs).receiver)
unfolding new_receiver handle_packet
receiver_counted StopAndWait w store cs =
    let end = stop_and_wait_receiver_end store in
    let r = stopAndWaitReceiver.new_receiver in
    let a = ends_as stopAndWaitReceiver.handle_packet end (λ r raw output ack. refl) r cs in
    let h = reads_as stopAndWaitReceiver.handle_packet end (λ r raw output ack. refl) r [] cs in
    ap (λ (x : ReceiverEnd). x.receiver.state) a ∙ ap receiverState.StopAndWait (stop_and_wait_receiver cs) ∙ ap (λ (l : List PacketReading). receiver_from StopAndWait w l (receivers.after_calls stopAndWaitReceiver.handle_packet r cs).filled) (sym h)
    ∙ ap (λ (x : ReceiverEnd). receiver_from StopAndWait w (receivers.readings handle_packet (end r) cs) (filled x.receiver)) (sym a)
receiver_counted GoBackN w store cs =
    let end = go_back_nReceiver_end store in
    let r = goBackNReceiver.new_receiver in
    let a = ends_as goBackNReceiver.handle_packet end (λ r raw output ack. refl) r cs in
    let h = reads_as goBackNReceiver.handle_packet end (λ r raw output ack. refl) r [] cs in
    ap (λ (x : ReceiverEnd). x.receiver.state) a ∙ ap receiverState.GoBackN (go_back_n_receiver cs) ∙ ap (λ (l : List PacketReading). receiver_from GoBackN w l (receivers.after_calls goBackNReceiver.handle_packet r cs).filled) (sym h)
    ∙ ap (λ (x : ReceiverEnd). receiver_from GoBackN w (receivers.readings handle_packet (end r) cs) (filled x.receiver)) (sym a)
receiver_counted SelectiveRepeat w store cs =
    let r = receivers.new_selective_repeat w store in
    let a = ends_as selectiveRepeatReceiver.handle_packet selective_repeat_receiver_end (λ r raw output ack. refl) r cs in
    let h = reads_as selectiveRepeatReceiver.handle_packet selective_repeat_receiver_end (λ r raw output ack. refl) r [] cs in
    ap (λ (x : ReceiverEnd). x.receiver.state) a ∙ ap receiverState.SelectiveRepeat (selective_repeat_receiver w store cs)
    ∙ ap (λ (l : List PacketReading). receiver_from SelectiveRepeat w l (receivers.after_calls selectiveRepeatReceiver.handle_packet r cs).state.filled) (sym h)
    ∙ ap (λ (x : ReceiverEnd). receiver_from SelectiveRepeat w (receivers.readings handle_packet (selective_repeat_receiver_end r) cs) (filled x.receiver)) (sym a)

-- ---- of a run
module _ {k : Ceilings} {c : TransferConfig} {g : Given} {before : Lent} {o : Outcome} {l : Lent} (h : History k c g before o l) where
  abbrev start : Ends
  start = start_ends k c before

  pub history_sender : SenderCounted session_sender (answers session_sender start.sender (collect sender_call_by start h.calls)) (ends_at o l).sender
  history_sender =
      let none = unused c.protocol c.window_size k.retries before.sender_store in
      subst (SenderCounted session_sender (answers session_sender start.sender (collect sender_call_by start h.calls))) (sender_after start h.calls ∙ ap (λ (e : Ends). e.sender) h.tell.ends_are)
      (from_zero session_sender session_counted start.sender none.sent none.again (collect sender_call_by start h.calls))

  pub history_receiver : o.receiver.state ≡ receiver_from c.protocol c.window_size (receivers.readings handle_packet start.receiver (collect receiver_call_by start h.calls)) (filled o.receiver)
  history_receiver =
      let is = receiver_after start h.calls ∙ ap (λ (e : Ends). e.receiver) h.tell.ends_are in
      subst (λ (r : ReceiverEnd). r.receiver.state ≡ receiver_from c.protocol c.window_size (receivers.readings handle_packet start.receiver (collect receiver_call_by start h.calls)) (filled r.receiver)) is
      (receiver_counted c.protocol c.window_size before.receiver_store (collect receiver_call_by start h.calls))
