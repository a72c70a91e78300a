-- The calls of demand 3's ends are a session's.
use Prim.Native.Nat.{ℕ}
use mathlib.Core.Path.{◌≡◌, refl, sym, ap}
use lib.ListN.{take, drop}
use mathlib.Core.List.{List, [], ◌++◌}
use Rattle.protocol.specs.declared.ProtocolType.{ProtocolType}
use Rattle.protocol.specs.declared.ProtocolType.TheVariants.{StopAndWait, GoBackN, SelectiveRepeat}
use Rattle.delivery.specs.Calls.{Done, Copy, copy_bytes, World, send, timeout, to_receiver, to_sender, step, datagrams}
use Rattle.delivery.specs.Ends.{ends, fresh_ends, bytes_sent, by_sending, by_resending, by_acknowledging, by_receiving, WithOutput, with_output}
use Rattle.session.specs.declared.Timeout.{Timeout}
use Rattle.session.specs.declared.Timeout.TheVariants as timeouts
use Rattle.session.specs.Sending.{SenderEnd, window_of, new_sender, send_chunk, handle_ack, handle_timeout, ample_buffer, resent}
use Rattle.session.specs.Receiving.{ReceiverEnd, new_receiver, base, filled, handle_packet}
use Rattle.session.specs.Ends.{sender_of, receiver_of, output_of, timeout_of, done_as}
use Rattle.session.proofs.Replies.{replied_packets}

pub new_sender_is : (p : ProtocolType) (w limit : ℕ) (sending receiving output : List ℕ) → sender_of p (fresh_ends p w limit sending receiving output).sender ≡ new_sender p w limit sending
unfolding new_sender
new_sender_is StopAndWait w limit sending receiving output = refl
new_sender_is GoBackN w limit sending receiving output = refl
new_sender_is SelectiveRepeat w limit sending receiving output = refl

pub send_chunk_is : (p : ProtocolType) (s : (ends p).Sender) (payload out : List ℕ) → by_sending (send_chunk (sender_of p s) payload out) ≡ done_as (sender_of p) ((ends p).send_chunk s payload out)
unfolding send_chunk
send_chunk_is StopAndWait s payload out = refl
send_chunk_is GoBackN s payload out = refl
send_chunk_is SelectiveRepeat s payload out = refl

pub handle_ack_is : (p : ProtocolType) (s : (ends p).Sender) (raw : List ℕ) → by_acknowledging (handle_ack (sender_of p s) raw) ≡ done_as (sender_of p) ((ends p).handle_ack s raw)
unfolding handle_ack
handle_ack_is StopAndWait s raw = refl
handle_ack_is GoBackN s raw = refl
handle_ack_is SelectiveRepeat s raw = refl

pub handle_timeout_is : (p : ProtocolType) (s : (ends p).Sender) (t : Timeout) (out : List ℕ)
    → by_resending (handle_timeout (sender_of p s) t out) ≡ done_as (sender_of p) ((ends p).handle_timeout s (timeout_of p s t) out)
unfolding handle_timeout
handle_timeout_is StopAndWait s t out = refl
handle_timeout_is GoBackN s timeouts.All out = refl
handle_timeout_is GoBackN s timeouts.Earliest out = refl
handle_timeout_is GoBackN s (timeouts.Number n) out = refl
handle_timeout_is SelectiveRepeat s t out = refl

-- a world after a call of the sender: its end, and what it made
pub record SenderStep (p : ProtocolType) (u : World (ends p)) (after : SenderEnd) (made : List (List ℕ)) (w : World (ends p)) : Type 0 where
  pub sender : sender_of p w.sender ≡ after
  pub sent : w.sent ≡ u.sent ++ made
  pub receiver : w.receiver ≡ u.receiver
  pub replies : w.replies ≡ u.replies

module _ (p : ProtocolType) (u : World (ends p)) where
  pub send_step : (payload out : List ℕ)
      → SenderStep p u (send_chunk (sender_of p u.sender) payload out).after (datagrams (bytes_sent (send_chunk (sender_of p u.sender) payload out).answer (send_chunk (sender_of p u.sender) payload out).out)) (step (ends p) u (send payload out))
  unfolding step
  send_step payload out =
      let e = sym (send_chunk_is p u.sender payload out) in
      record { sender = ap (λ (d : Done SenderEnd). d.after) e; sent = ap (λ (d : Done SenderEnd). u.sent ++ datagrams d.written) e; receiver = refl; replies = refl }

  pub timeout_step : (t : Timeout)
      → SenderStep p u (resent (sender_of p u.sender) t).after (resent (sender_of p u.sender) t).packets (step (ends p) u (timeout (timeout_of p u.sender t) (ample_buffer (sender_of p u.sender).sender)))
  unfolding step resent
  timeout_step t =
      let e = sym (handle_timeout_is p u.sender t (ample_buffer (sender_of p u.sender).sender)) in
      record { sender = ap (λ (d : Done SenderEnd). d.after) e; sent = ap (λ (d : Done SenderEnd). u.sent ++ datagrams d.written) e; receiver = refl; replies = refl }

  pub ack_step : (c : Copy) → SenderStep p u (handle_ack (sender_of p u.sender) (copy_bytes u.replies c)).after [] (step (ends p) u (to_sender c))
  unfolding step datagrams
  ack_step c =
      let e = sym (handle_ack_is p u.sender (copy_bytes u.replies c)) in
      record { sender = ap (λ (d : Done SenderEnd). d.after) e; sent = ap (λ (d : Done SenderEnd). u.sent ++ datagrams d.written) e; receiver = refl; replies = refl }

-- ---- the receiver's
pub new_receiver_is : (p : ProtocolType) (w limit : ℕ) (sending store output : List ℕ) → receiver_of p store (fresh_ends p w limit sending store output).receiver ≡ new_receiver p w store
unfolding new_receiver
new_receiver_is StopAndWait w limit sending store output = refl
new_receiver_is GoBackN w limit sending store output = refl
new_receiver_is SelectiveRepeat w limit sending store output = refl

abbrev pub with_output_of : (p : ProtocolType) → List ℕ → (ends p).Receiver → WithOutput ReceiverEnd
with_output_of p store r = with_output (receiver_of p store r) (output_of p r)

pub handle_packet_is : (p : ProtocolType) (store : List ℕ) (r : (ends p).Receiver) (raw ack : List ℕ)
    → by_receiving (handle_packet (receiver_of p store r) raw (output_of p r) ack) ≡ done_as (with_output_of p store) ((ends p).handle_packet r raw ack)
unfolding handle_packet
handle_packet_is StopAndWait store r raw ack = refl
handle_packet_is GoBackN store r raw ack = refl
handle_packet_is SelectiveRepeat store r raw ack = refl

-- a world after a call of the receiver
pub record ReceiverStep (p : ProtocolType) (store : List ℕ) (u : World (ends p)) (after : ReceiverEnd) (output : List ℕ) (made : List (List ℕ)) (w : World (ends p)) : Type 0 where
  pub receiver : receiver_of p store w.receiver ≡ after
  pub output_is : output_of p w.receiver ≡ output
  pub replies : w.replies ≡ u.replies ++ made
  pub sender : w.sender ≡ u.sender
  pub sent : w.sent ≡ u.sent

pub packet_step : (p : ProtocolType) (store : List ℕ) (u : World (ends p)) (c : Copy) (ack : List ℕ)
    → ReceiverStep p store u (handle_packet (receiver_of p store u.receiver) (copy_bytes u.sent c) (output_of p u.receiver) ack).receiver
    (handle_packet (receiver_of p store u.receiver) (copy_bytes u.sent c) (output_of p u.receiver) ack).output
    (replied_packets (handle_packet (receiver_of p store u.receiver) (copy_bytes u.sent c) (output_of p u.receiver) ack)) (step (ends p) u (to_receiver c ack))
unfolding step
packet_step p store u c ack =
    let e = sym (handle_packet_is p store u.receiver (copy_bytes u.sent c) ack) in
    record {
      receiver = ap (λ (d : Done (WithOutput ReceiverEnd)). d.after.receiver) e;
      output_is = ap (λ (d : Done (WithOutput ReceiverEnd)). d.after.output) e;
      replies = ap (λ (d : Done (WithOutput ReceiverEnd)). u.replies ++ datagrams d.written) e;
      sender = refl;
      sent = refl;
    }

-- ---- what demand 3's claim speaks of
pub sender_base_is : (p : ProtocolType) (s : (ends p).Sender) → (ends p).sender_base s ≡ (window_of (sender_of p s).sender).send_base
sender_base_is StopAndWait s = refl
sender_base_is GoBackN s = refl
sender_base_is SelectiveRepeat s = refl

pub receiver_base_is : (p : ProtocolType) (store : List ℕ) (r : (ends p).Receiver) → (ends p).receiver_base r ≡ base (receiver_of p store r).receiver
receiver_base_is StopAndWait store r = refl
receiver_base_is GoBackN store r = refl
receiver_base_is SelectiveRepeat store r = refl

pub output_is : (p : ProtocolType) (store : List ℕ) (r : (ends p).Receiver) → (ends p).output r ≡ take (filled (receiver_of p store r).receiver) (output_of p r)
output_is StopAndWait store r = refl
output_is GoBackN store r = refl
output_is SelectiveRepeat store r = refl

pub unwritten_is : (p : ProtocolType) (store : List ℕ) (r : (ends p).Receiver) → (ends p).unwritten r ≡ drop (filled (receiver_of p store r).receiver) (output_of p r)
unwritten_is StopAndWait store r = refl
unwritten_is GoBackN store r = refl
unwritten_is SelectiveRepeat store r = refl
