-- Document 01, demand 3, over the exports: two ends in lent words, each call an export, and its outcome as a host reads
-- it from the answer.
use Rattle.std.specs.Prelude.{ℕ, ◌≡◌, List, [], Bool, true, cond, not, ◌&&◌, get_or, take, drop, leb, eqb}
use Rattle.bounds.specs.Bounds.{header_size}
use Rattle.octets.specs.Octets.{Octets}
use Rattle.protocol.specs.declared.ProtocolType.{ProtocolType}
use Rattle.protocol.specs.declared.ProtocolType.TheVariants as protocol
use Rattle.delivery.specs.Calls.{Done, done, Ends, World, fresh}
use Rattle.session.specs.declared.Timeout.{Timeout}
use Rattle.session.specs.Sending.{slot_count}
use Rattle.host_answer.specs.Answer.{done_status, status_in, value_in}
use Rattle.host_ends.specs.Answers.{CallExit}
use Rattle.host_ends.specs.Sender as sender
use Rattle.host_ends.specs.Receiver as receiver
use Rattle.host_ends.specs.Making.{make_sender, make_receiver}

-- what a host lends to every call of an end
pub record HostSender : Type 0 where
  pub words : List ℕ
  pub store : List ℕ

pub record HostReceiver : Type 0 where
  pub words : List ℕ
  pub store : List ℕ
  pub output : List ℕ

-- an answer: done, or refused
abbrev pub is_done : ℕ → Bool
is_done answer = eqb (status_in answer) done_status

abbrev pub is_refused : ℕ → Bool
is_refused answer = leb 1 (status_in answer) && leb (status_in answer) 11

-- the i-th of the lent lists after a call
abbrev pub lent : CallExit → ℕ → List ℕ
lent x i = get_or x.lent i []

abbrev pub sender_after : CallExit → HostSender
sender_after x = record { words = lent x 0; store = lent x 1 }

-- a send or a timeout that is done has written as many bytes as it answers
abbrev pub bytes_written : ℕ → List ℕ → List ℕ
bytes_written answer out = cond (is_done answer) (take (value_in answer) out) []

abbrev pub by_sender : CallExit → Done HostSender
by_sender x =
    done (sender_after x) (bytes_written x.answer (lent x 2)) (is_done x.answer) (is_refused x.answer)

-- an ACK that isn't refused is handled, accepted or not
abbrev pub by_ack : CallExit → Done HostSender
by_ack x = done (sender_after x) [] (not (is_refused x.answer)) (is_refused x.answer)

-- a datagram that isn't refused is handled; where the call is done its ACK is written
abbrev pub ack_written : ℕ → List ℕ → List ℕ
ack_written answer ack = cond (is_done answer) (take header_size ack) []

abbrev pub receiver_after : CallExit → HostReceiver
receiver_after x = record { words = lent x 0; store = lent x 1; output = lent x 2 }

abbrev pub by_receiver : CallExit → Done HostReceiver
by_receiver x =
    done (receiver_after x) (ack_written x.answer (lent x 3)) (not (is_refused x.answer)) (is_refused x.answer)

-- the exports as two ends; base is word 2, the fill mark word 3
abbrev pub host_ends : Ends
host_ends = record {
  Sender = HostSender;
  Receiver = HostReceiver;
  Timeout = Timeout;
  send_chunk = λ s payload out. by_sender (sender.send s.words s.store payload out);
  handle_timeout = λ s t out. by_sender (sender.timeout s.words s.store t out);
  handle_ack = λ s raw. by_ack (sender.acknowledge s.words s.store raw);
  handle_packet = λ r raw ack. by_receiver (receiver.receive r.words r.store raw r.output ack);
  sender_base = λ s. get_or s.words 2 0;
  receiver_base = λ r. get_or r.words 2 0;
  output = λ r. take (get_or r.words 3 0) r.output;
  unwritten = λ r. drop (get_or r.words 3 0) r.output;
}

-- what making is called with, at both ends: the protocol by its number, one window, any words and stores, any output
pub record Setup : Type 0 where
  pub protocol : ProtocolType
  pub window : ℕ
  pub limit : ℕ
  pub sender_words : List ℕ
  pub sender_store : List ℕ
  pub receiver_words : List ℕ
  pub receiver_store : List ℕ
  pub output : List ℕ

-- the window that the ends run with: Stop-and-Wait's is 1
abbrev pub window_of : Setup → ℕ
window_of s = slot_count s.protocol s.window

abbrev pub protocol_number : ProtocolType → ℕ
protocol_number protocol.StopAndWait = 1
protocol_number protocol.GoBackN = 2
protocol_number protocol.SelectiveRepeat = 3

abbrev pub sender_making : Setup → CallExit
sender_making s = make_sender (protocol_number s.protocol) s.window s.limit s.sender_words s.sender_store

abbrev pub receiver_making : Setup → CallExit
receiver_making s = make_receiver (protocol_number s.protocol) s.window s.receiver_words s.receiver_store

abbrev pub made_ends : Setup → World host_ends
made_ends s =
    fresh host_ends (sender_after (sender_making s))
    (record { words = lent (receiver_making s) 0; store = lent (receiver_making s) 1; output = s.output })

-- both makings are done; the bytes of the sender's store are bytes
pub record BothMade (s : Setup) : Type 0 where
  pub sender : is_done (sender_making s).answer ≡ true
  pub receiver : is_done (receiver_making s).answer ≡ true
  pub octets : Octets s.sender_store
