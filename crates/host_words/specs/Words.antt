-- The states of the ends in lent words, eight at least. Word 0 is the version of this layout times 256 and the kind: 1
-- Stop-and-Wait's sender, 2 Go-Back-N's, 3 Selective Repeat's, 4 to 6 their receivers.
-- A sender: 1 window_size, 2 send_base, 3 next_seq_num, 4 total_sent, 5 retransmissions; Stop-and-Wait's also 6
-- max_retries, 7 current_retries.
-- A receiver: 1 window_size, Stop-and-Wait's and Go-Back-N's 1, 2 the number expected or base, 3 the fill mark, 4
-- total_received, 5 and 6 its other two counters in the source's order.
use Rattle.std.specs.Prelude.{ℕ, ◌+◌, ◌*◌, ◌≤◌, ◌≡◌, List, [], ◌∷◌, Bool, cond, not, ◌&&◌, length, get_or, set, ltb}
use Rattle.std.specs.Prelude.{eqb, None, Option, Some}
use Rattle.refusal.specs.Clauses.{any_of}
use Rattle.protocol.specs.declared.ProtocolType.{ProtocolType}
use Rattle.protocol.specs.declared.ProtocolType.TheVariants as protocol
use Rattle.window.specs.declared.SendWindow.{SendWindow}
use Rattle.stop_and_wait.specs.Sender as stop_and_wait
use Rattle.stop_and_wait.specs.Receiver as stopAndWaitReceiver
use Rattle.stop_and_wait.specs.declared.StopAndWaitSender.{StopAndWaitSender}
use Rattle.stop_and_wait.specs.declared.StopAndWaitReceiver.{StopAndWaitReceiver}
use Rattle.go_back_n.specs.Receiver as goBackNReceiver
use Rattle.go_back_n.specs.declared.GoBackNReceiver.{GoBackNReceiver}
use Rattle.selective_repeat.specs.declared.SelectiveRepeatReceiver.{SelectiveRepeatReceiver}
use Rattle.session.specs.declared.SenderState.{SenderState}
use Rattle.session.specs.declared.SenderState.TheVariants as senderState
use Rattle.session.specs.declared.ReceiverState.{ReceiverState}
use Rattle.session.specs.declared.ReceiverState.TheVariants as receiverState
use Rattle.host_answer.specs.Exit.{wide}
use Rattle.host_words.specs.declared.Kind.{Kind}
use Rattle.host_words.specs.declared.Kind.TheVariants as kinds
use Rattle.host_words.specs.declared.ReceiverFields.{ReceiverFields}
use Rattle.session.specs.declared.Receiver.{Receiver}
use Rattle.session.specs.declared.Sender.{Sender}

abbrev pub state_words : ℕ
state_words = 8

abbrev pub layout_version : ℕ
layout_version = 1

abbrev pub word_of_kind : ℕ → ℕ
word_of_kind kind = layout_version * 256 + kind

abbrev pub sender_word : ProtocolType → ℕ
sender_word protocol.StopAndWait = word_of_kind 1
sender_word protocol.GoBackN = word_of_kind 2
sender_word protocol.SelectiveRepeat = word_of_kind 3

abbrev pub receiver_word : ProtocolType → ℕ
receiver_word protocol.StopAndWait = word_of_kind 4
receiver_word protocol.GoBackN = word_of_kind 5
receiver_word protocol.SelectiveRepeat = word_of_kind 6

-- word 0 at making, and zeros in the words that not every kind has
abbrev pub with_kind : List ℕ → ℕ → List ℕ
with_kind s word = set (set (set s 0 word) 6 0) 7 0

-- the sender that words hold
abbrev pub window_in : List ℕ → SendWindow
window_in s =
    record {
      window_size = get_or s 1 0;
      send_base = get_or s 2 0;
      next_seq_num = get_or s 3 0;
      total_sent = get_or s 4 0;
      retransmissions = get_or s 5 0;
    }

-- a packet is in flight where base isn't next
abbrev pub stop_and_wait_in : List ℕ → StopAndWaitSender
stop_and_wait_in s =
    record {
      current_seq = get_or s 2 0;
      in_flight = not (eqb (get_or s 2 0) (get_or s 3 0));
      max_retries = get_or s 6 0;
      current_retries = get_or s 7 0;
      total_sent = get_or s 4 0;
      retransmissions = get_or s 5 0;
    }

-- too few words, or a number that isn't one of 32 bits
unfoldable pub sender_unreadable : List ℕ → Bool
sender_unreadable s = any_of (ltb (length s) state_words ∷ wide (get_or s 2 0) ∷ wide (get_or s 3 0) ∷ [])

-- of Stop-and-Wait also a window that isn't 1, a next number that is neither base nor one more, retries that aren't
-- numbers of 32 bits
unfoldable pub not_single : List ℕ → Bool
not_single s =
    any_of
    (not (eqb (get_or s 1 0) 1)
    ∷ wide (get_or s 6 0)
    ∷ wide (get_or s 7 0)
    ∷ (not (eqb (get_or s 2 0) (get_or s 3 0)) && not (eqb (get_or s 2 0 + 1) (get_or s 3 0)))
    ∷ [])

abbrev pub held : SenderState → Option Sender
held s = Some (record { state = s })

unfoldable pub held_sender : List ℕ → Option Sender
held_sender s =
    cond (sender_unreadable s)
    None
    (cond (eqb (get_or s 0 0) (sender_word protocol.SelectiveRepeat))
    (held (senderState.SelectiveRepeat (record { window = window_in s })))
    (cond (eqb (get_or s 0 0) (sender_word protocol.GoBackN))
    (held (senderState.GoBackN (record { window = window_in s })))
    (cond (eqb (get_or s 0 0) (sender_word protocol.StopAndWait))
    (cond (not_single s) None (held (senderState.StopAndWait (stop_and_wait_in s))))
    None)))

-- words with a sender put into them; the others as they were
unfoldable pub with_window : List ℕ → SendWindow → List ℕ
with_window s w =
    set (set (set (set (set s 1 w.window_size) 2 w.send_base) 3 w.next_seq_num) 4 w.total_sent)
    5 w.retransmissions

unfoldable pub with_stop_and_wait : List ℕ → StopAndWaitSender → List ℕ
with_stop_and_wait s w =
    set (set (with_window s (stop_and_wait.window_of w)) 6 w.max_retries) 7 w.current_retries

unfoldable pub with_sender : List ℕ → SenderState → List ℕ
with_sender s (senderState.StopAndWait w) = with_stop_and_wait s w
with_sender s (senderState.GoBackN w) = with_window s w.window
with_sender s (senderState.SelectiveRepeat w) = with_window s w.window

-- the receiver that words hold
abbrev pub stop_and_wait_receiver_in : List ℕ → StopAndWaitReceiver
stop_and_wait_receiver_in s =
    stopAndWaitReceiver.state (get_or s 2 0) (get_or s 3 0) (get_or s 4 0) (get_or s 5 0) (get_or s 6 0)

abbrev pub go_back_nReceiver_in : List ℕ → GoBackNReceiver
go_back_nReceiver_in s = goBackNReceiver.state (get_or s 2 0) (get_or s 3 0) (get_or s 4 0) (get_or s 5 0)
    (get_or s 6 0)

abbrev pub selective_repeat_receiver_in : List ℕ → SelectiveRepeatReceiver
selective_repeat_receiver_in s =
    record {
      window_size = get_or s 1 0;
      recv_base = get_or s 2 0;
      filled = get_or s 3 0;
      total_received = get_or s 4 0;
      buffered_out_of_order = get_or s 5 0;
      duplicates_count = get_or s 6 0;
    }

unfoldable pub receiver_unreadable : List ℕ → Bool
receiver_unreadable s = any_of (ltb (length s) state_words ∷ wide (get_or s 2 0) ∷ [])

abbrev pub held_by : ReceiverState → Option Receiver
held_by r = Some (record { state = r })

unfoldable pub held_receiver : List ℕ → Option Receiver
held_receiver s =
    cond (receiver_unreadable s)
    None
    (cond (eqb (get_or s 0 0) (receiver_word protocol.SelectiveRepeat))
    (held_by (receiverState.SelectiveRepeat (selective_repeat_receiver_in s)))
    (cond (not (eqb (get_or s 1 0) 1))
    None
    (cond (eqb (get_or s 0 0) (receiver_word protocol.GoBackN))
    (held_by (receiverState.GoBackN (go_back_nReceiver_in s)))
    (cond (eqb (get_or s 0 0) (receiver_word protocol.StopAndWait))
    (held_by (receiverState.StopAndWait (stop_and_wait_receiver_in s)))
    None))))

-- words with a receiver put into them: window, base, fill mark, its three counters
unfoldable pub with_fields : List ℕ → ReceiverFields → List ℕ
with_fields s w =
    set (set (set (set (set (set s 1 w.window) 2 w.base) 3 w.filled) 4 w.received) 5 w.second)
    6 w.third

unfoldable pub receiver_fields : ReceiverState → ReceiverFields
receiver_fields (receiverState.StopAndWait r) = record {
  window = 1;
  base = r.expected_seq;
  filled = r.filled;
  received = r.total_received;
  second = r.duplicates_count;
  third = r.corrupted_count;
}
receiver_fields (receiverState.GoBackN r) = record {
  window = 1;
  base = r.expected_seq;
  filled = r.filled;
  received = r.total_received;
  second = r.discarded_out_of_order;
  third = r.duplicate_acks_sent;
}
receiver_fields (receiverState.SelectiveRepeat r) = record {
  window = r.window_size;
  base = r.recv_base;
  filled = r.filled;
  received = r.total_received;
  second = r.buffered_out_of_order;
  third = r.duplicates_count;
}

abbrev pub with_receiver : List ℕ → ReceiverState → List ℕ
with_receiver s r = with_fields s (receiver_fields r)

-- what the functions below the entry points ask
pub record SenderReadable (s : List ℕ) : Type 0 where
  pub long : state_words ≤ length s
  pub base : get_or s 2 0 ≤ 4294967295
  pub next : get_or s 3 0 ≤ 4294967295

pub record RetriesReadable (s : List ℕ) : Type 0 where
  pub max : get_or s 6 0 ≤ 4294967295
  pub current : get_or s 7 0 ≤ 4294967295

-- what a sender's kind says of its words
abbrev pub SenderAs : List ℕ → Kind → Type 0
SenderAs s kinds.StopAndWait =
    SenderReadable s × RetriesReadable s × (held_sender s ≡ held (senderState.StopAndWait (stop_and_wait_in s)))
SenderAs s kinds.GoBackN =
    SenderReadable s × (held_sender s ≡ held (senderState.GoBackN (record { window = window_in s })))
SenderAs s kinds.SelectiveRepeat =
    SenderReadable s × (held_sender s ≡ held (senderState.SelectiveRepeat (record { window = window_in s })))
SenderAs s kinds.Broken = held_sender s ≡ None

pub record ReceiverReadable (s : List ℕ) : Type 0 where
  pub long : state_words ≤ length s
  pub base : get_or s 2 0 ≤ 4294967295
