-- Document 01, demand 3, of the ends of a run: D is the receiver's base, A the sender's.
use Rattle.std.specs.Prelude.{ℕ, ◌+◌, ◌≤◌, ◌≡◌, length, take, drop}
use mathlib.Core.List.{List, flatten}
use Rattle.session.specs.Sending.{SenderEnd, window_of}
use Rattle.session.specs.Receiving.{ReceiverEnd, base, filled}

-- the number of the next chunk to be delivered, the lowest number not acknowledged, the next number to be sent
abbrev pub delivered_to : ReceiverEnd → ℕ
delivered_to r = base r.receiver

abbrev pub acknowledged_to : SenderEnd → ℕ
acknowledged_to v = (window_of v.sender).send_base

abbrev pub sent_to : SenderEnd → ℕ
sent_to v = (window_of v.sender).next_seq_num

-- the output up to its fill mark, and behind it
abbrev pub written : ReceiverEnd → List ℕ → List ℕ
written r output = take (filled r.receiver) output

abbrev pub behind : ReceiverEnd → List ℕ → List ℕ
behind r output = drop (filled r.receiver) output

-- Of a file's chunks, with window w: the delivered ones are the first, and joined they are all that was written to the
-- output; D is at least A and above it by no more than the window; none is delivered that wasn't sent. With all
-- delivered, what was written are all chunks joined: the file.
pub record FirstDelivered (chunks : List (List ℕ)) (w : ℕ) (before : List ℕ) (v : SenderEnd) (r : ReceiverEnd)
    (output : List ℕ) : Type 0 where
  pub few : delivered_to r ≤ length chunks
  pub sent : delivered_to r ≤ sent_to v
  pub first_written : written r output ≡ flatten (take (delivered_to r) chunks)
  pub nothing_else : behind r output ≡ behind r before
  pub not_negative : acknowledged_to v ≤ delivered_to r
  pub in_window : delivered_to r ≤ acknowledged_to v + w
  pub all_written : length chunks ≤ delivered_to r → written r output ≡ flatten chunks
