-- The Stop-and-Wait sender does what its window of 1 does.
use Prim.Native.Nat.{ℕ, zero, suc, ◌+◌, ◌-◌, ◌≤◌, ◌<◌, min}
use mathlib.Core.Path.{◌≡◌, refl, sym, ap, subst, ◌∙◌}
use mathlib.Core.Bool.{Bool, true, false, cond}
use mathlib.Core.List.{List}
use native.Mathlib.Omega.{arith}
use Rattle.protocol.specs.declared.ProtocolType.TheVariants.{StopAndWait}
use Rattle.octets.specs.Octets.{Octets}
use Rattle.window.specs.State.{outstanding}
use Rattle.window.specs.Slots.{Sender, sender, fresh, hold, mark_retransmitted, release}
use Rattle.window.specs.Sending as window
use Rattle.window.specs.Resending.{mark_from, resend_outstanding}
use Rattle.window.specs.declared.SendWindow.{SendWindow}
use Rattle.window.proofs.Laws.{Accepted}
use Rattle.stop_and_wait.specs.Sender.{state, End, end_of, window_of, window_end, counted, send_chunk, acknowledged, handle_ack, retries_left, handle_timeout}
use Rattle.refinement.specs.Follows.{sender_of}
use Rattle.refinement.specs.Good.{Good}
use Rattle.refinement.proofs.Octets.{release_octets, after_ack}
use Rattle.refinement.proofs.Sending.{chunks_length, send_refused, window_full, chunk_sent, send_outcome}
use Rattle.refinement.proofs.Acknowledging.{AckOutcome, ack_outcome, cumulative_follows, cumulative_good}
use Rattle.refinement.proofs.Resending.{timeout_refused, nothing_sent, sent_again_lem, lowest_sent_again}

-- sending: nothing was in flight
idle : (current : ℕ) (flight : Bool) → cond flight (current + 1) current - current < 1 → flight ≡ false
idle current true h = absurd (omega arith)
idle current false h = refl

held_window : (v : End) (payload : List ℕ) → v.sender.in_flight ≡ false
    → window_end (end_of (counted v.sender true 0 (hold (window_end v) payload).window) (hold (window_end v) payload).store) ≡ hold (window_end v) payload
unfolding hold
held_window v payload e = rw e

pub stop_and_wait_send : (v : End) (payload out : List ℕ) → window_end (send_chunk v payload out).after ≡ (window.send_chunk false (window_end v) payload out).after
stop_and_wait_send v payload out = elim (send_outcome false (window_end v) payload out) [
  | send_refused s e ↦ rw e
  | window_full n e ↦ rw e
  | chunk_sent s ↦ let free : cond v.sender.in_flight (v.sender.current_seq + 1) v.sender.current_seq - v.sender.current_seq < 1 = rw (chunks_length (window_end v)) at s.free in
      rw (s.answered, s.held) (held_window v payload (idle v.sender.current_seq v.sender.in_flight free))
]

-- an accepted ACK: of the number in flight
waiting : (current n : ℕ) (flight : Bool) → current ≤ n → n < cond flight (current + 1) current → (flight ≡ true) × (n ≡ current)
waiting current n true h k = (refl, omega arith)
waiting current n false h k = absurd (omega arith)

acknowledged_window : (v : End) (n : ℕ) → Accepted false (window_of v.sender) v.store n (n + 1) → window_end (acknowledged v n) ≡ release (window_end v) (n + 1)
unfolding release
acknowledged_window v n a =
    let w = waiting v.sender.current_seq n v.sender.in_flight a.from a.below in
    rw (w.0, w.1)

pub stop_and_wait_ack : (v : End) (raw : List ℕ) → AckOutcome StopAndWait false window_end v raw (handle_ack v raw)
stop_and_wait_ack v raw =
    ack_outcome StopAndWait false window_end v (acknowledged v)
    (record {
      follows = λ n a. ap sender_of (acknowledged_window v n a) ∙ cumulative_follows (window_end v) n a;
      good = λ n a. subst (Good false) (sym (acknowledged_window v n a)) (cumulative_good (window_end v) n a);
    })
    raw

-- a timeout
marked_window : (v : Sender) (n k : ℕ) → (mark_from v n k).window
    ≡ record {
      window_size = v.window.window_size;
      send_base = v.window.send_base;
      next_seq_num = v.window.next_seq_num;
      total_sent = (mark_from v n k).window.total_sent;
      retransmissions = (mark_from v n k).window.retransmissions;
    }
unfolding mark_from mark_retransmitted
marked_window v n zero = refl
marked_window v n (suc k) = marked_window (mark_retransmitted v n) (n + 1) k

pub stop_and_wait_timeout : (v : End) (out : List ℕ) → window_end (handle_timeout v out).after ≡ (resend_outstanding (window_end v) (retries_left v.sender) out).after
stop_and_wait_timeout v out = elim (lowest_sent_again (window_end v) (retries_left v.sender) out) [
  | timeout_refused s e ↦ rw e
  | nothing_sent z e ↦ rw e
  | sent_again_lem s ↦ let n = v.sender.current_seq in
      let k = min (retries_left v.sender) (outstanding (window_of v.sender)) in
      rw (s.answered, s.marked) (ap (λ (w : SendWindow). sender w (mark_from (window_end v) n k).store) (sym (marked_window (window_end v) n k)))
]

-- making, for a window of 1
pub stop_and_wait_made : (limit : ℕ) (store : List ℕ) → window_end (end_of (state 0 false limit 0 0 0) (fresh 1 store).store) ≡ fresh 1 store
unfolding fresh
stop_and_wait_made limit store = refl

-- a store of octets stays one
pub stop_and_wait_ack_octets : (v : End) (raw : List ℕ) → Octets v.store → Octets (handle_ack v raw).after.store
stop_and_wait_ack_octets v raw o = after_ack (λ u. Octets u.store) _ v (acknowledged v) o (λ n. release_octets (window_end v) (n + 1) o)
