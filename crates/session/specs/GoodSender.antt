-- Document 01, "Turned away" 9 and 8, of a session's sender, and what the functions below the entry points ask.
use Rattle.std.specs.Prelude.{ℕ, ◌+◌, ◌≤◌, ◌<◌, ◌≡◌, List, Bool, true, false, length}
use Rattle.bounds.specs.Bounds.{header_size, max_payload, max_datagram, seq_num_limit}
use Rattle.window.specs.State.{state_broken, counts_broken}
use Rattle.window.specs.Slots.{Clean}
use Rattle.window.specs.declared.SendWindow.{SendWindow}
use Rattle.session.specs.declared.SenderState.{SenderState}
use Rattle.session.specs.declared.SenderState.TheVariants as senderState
use Rattle.session.specs.Sending.{SenderEnd, window_of, window_end, can_send}

abbrev pub is_selective : SenderState → Bool
is_selective (senderState.StopAndWait s) = false
is_selective (senderState.GoBackN s) = false
is_selective (senderState.SelectiveRepeat s) = true

-- 9
abbrev pub sender_broken : SenderEnd → Bool
sender_broken v = state_broken (is_selective v.sender.state) (window_of v.sender) v.store

-- 9 is false, and the bytes of the slots past their lengths are zeros; no entry point looks at these
pub record CleanSender (v : SenderEnd) : Type 0 where
  pub state : sender_broken v ≡ false
  pub clean : Clean (window_end v)

-- the same, and 8 is false
pub record SenderUnbroken (v : SenderEnd) : Type 0 where
  pub state : sender_broken v ≡ false
  pub clean : Clean (window_end v)
  pub counts : counts_broken (window_of v.sender) ≡ false

-- 9 is false, the slots are clean, and at most k datagrams were sent
pub record GoodSender (v : SenderEnd) (k : ℕ) : Type 0 where
  pub state : CleanSender v
  pub sent : (window_of v.sender).total_sent ≤ k
  pub again : (window_of v.sender).retransmissions ≤ k

-- a chunk can be sent: the window is free, a number is left, and the payload and its datagram fit
pub record CanSendChunk (v : SenderEnd) (payload out : List ℕ) : Type 0 where
  pub unbroken : SenderUnbroken v
  pub free : can_send v.sender ≡ true
  pub low : (window_of v.sender).next_seq_num < seq_num_limit
  pub short : length payload ≤ max_payload
  pub fits : header_size + length payload ≤ length out

-- count numbers from first on are outstanding
pub record Within (s : SendWindow) (first count : ℕ) : Type 0 where
  pub from : s.send_base ≤ first
  pub below : first + count ≤ s.next_seq_num

-- a number's datagram can be written
pub record CanWriteDatagram (v : SenderEnd) (n : ℕ) (out : List ℕ) : Type 0 where
  pub state : sender_broken v ≡ false
  pub within : Within (window_of v.sender) n 1
  pub room : max_datagram ≤ length out
