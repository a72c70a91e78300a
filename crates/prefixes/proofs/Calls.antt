-- The sender's calls of a run are not refused: a chunk that can be sent, a timeout, a valid ACK.
use Rattle.std.specs.Prelude.{Ok}
use Prim.Native.Nat.{ℕ, zero, suc, ◌*◌, ◌≤◌, min}
use mathlib.Core.Path.{◌≡◌, refl, sym, ap, ◌∙◌}
use mathlib.Core.Bool.{Bool, true, false, cond}
use mathlib.Core.List.{List}
use native.Mathlib.Omega.{arith}
use lib.ListN.{length, length-replicate}
use Rattle.bounds.specs.Bounds.{max_datagram}
use Rattle.packet.specs.Reading.{read_datagram}
use Rattle.packet.specs.declared.Packet.{Packet}
use Rattle.packet.specs.declared.PacketType.TheVariants as packetType
use Rattle.packet.specs.declared.DatagramReading.TheVariants as reading
use Rattle.window.specs.State.{state_broken, counts_broken, outstanding}
use Rattle.window.specs.Slots as slots
use Rattle.window.specs.Sending.{SendExit}
use Rattle.window.specs.Acknowledgement.{is_in_window, AckExit}
use Rattle.window.specs.Resending.{TimeoutExit, resend}
use Rattle.window.proofs.Laws.{sound, resend_nothing, resend_some}
use Rattle.selective_repeat.specs.Sender as selective_repeat
use Rattle.selective_repeat.proofs.Laws.{due_within}
use Rattle.stop_and_wait.specs.Sender as stop_and_wait
use Rattle.delivery.specs.Ends.{is_send_refused, is_timeout_refused, is_handled}
use Rattle.delivery.proofs.Laws.{again_within}
use Rattle.session.specs.declared.SenderState as session
use Rattle.session.specs.declared.SenderState.TheVariants as senderState
use Rattle.session.specs.declared.Timeout.{Timeout}
use Rattle.session.specs.declared.Timeout.TheVariants as timeout
use Rattle.session.specs.Sending.{SenderEnd, sender_in, window_of, window_end, send_chunk_in, send_chunk, handle_ack, handle_ack_unchecked, ack_answer_of, handle_timeout_in, handle_timeout, timeout_number, ample_buffer}
use Rattle.session.specs.GoodSender.{SenderUnbroken, CanSendChunk, Within}
use Rattle.session.proofs.Laws.{send_unchecked, ack_of_number}

-- ---- a chunk
pub send_not_refused : (v : SenderEnd) (payload out : List ℕ) → CanSendChunk v payload out → is_send_refused (send_chunk v payload out).answer ≡ false
unfolding send_chunk
send_not_refused v payload out can = by_state v.sender.state v.store can
  where
    by_state : (s : session.SenderState) (store : List ℕ) → CanSendChunk (sender_in s store) payload out → is_send_refused (send_chunk_in s store payload out).answer ≡ false
    by_state (senderState.StopAndWait s) store can = ap (λ (x : SendExit slots.Sender). is_send_refused x.answer) (send_unchecked (sender_in (senderState.StopAndWait s) store) payload out can)
    by_state (senderState.GoBackN s) store can = ap (λ (x : SendExit slots.Sender). is_send_refused x.answer) (send_unchecked (sender_in (senderState.GoBackN s) store) payload out can)
    by_state (senderState.SelectiveRepeat s) store can = ap (λ (x : SendExit slots.Sender). is_send_refused x.answer) (send_unchecked (sender_in (senderState.SelectiveRepeat s) store) payload out can)

-- ---- a timeout
window_not_refused : (selective : Bool) (v : slots.Sender) (n k : ℕ) (out : List ℕ) → state_broken selective v.window v.store ≡ false → counts_broken v.window ≡ false → Within v.window n k
    → v.window.window_size * max_datagram ≤ length out → is_timeout_refused (resend (state_broken selective v.window v.store) (counts_broken v.window) v n k out).answer ≡ false
window_not_refused selective v n zero out state counts within room = ap (λ (x : TimeoutExit slots.Sender). is_timeout_refused x.answer) (sym (resend_nothing _ _ v n 0 out state counts refl))
window_not_refused selective v n (suc k) out state counts within room =
    let from = within.from in
    let below = within.below in
    let few = (sound selective v.window v.store state).few in
    let size = again_within selective v n (suc k) state from below in
    ap (λ (x : TimeoutExit slots.Sender). is_timeout_refused x.answer) (sym (resend_some _ _ v n (suc k) out _ _ _ state counts (λ e. omega arith) (omega arith) refl refl refl))

lowest : (selective : Bool) (v : slots.Sender) (most : ℕ) → state_broken selective v.window v.store ≡ false → Within v.window v.window.send_base (min most (outstanding v.window))
lowest selective v most state = let o = (sound selective v.window v.store state).ordered in record { from = omega arith; below = omega arith }

every : (selective : Bool) (v : slots.Sender) → state_broken selective v.window v.store ≡ false → Within v.window v.window.send_base (outstanding v.window)
every selective v state = let o = (sound selective v.window v.store state).ordered in record { from = omega arith; below = omega arith }

-- into a buffer for a window's datagrams
pub timeout_not_refused : (v : SenderEnd) (t : Timeout) → SenderUnbroken v → is_timeout_refused (handle_timeout v t (ample_buffer v.sender)).answer ≡ false
unfolding handle_timeout
timeout_not_refused v t h = by_state v.sender.state v.store t (ample_buffer v.sender) h (let e = length-replicate {A = ℕ} ((window_of v.sender).window_size * max_datagram) 0 in omega arith)
  where
    by_due_lem : (u : slots.Sender) (n : ℕ) (out : List ℕ) → state_broken true u.window u.store ≡ false → counts_broken u.window ≡ false → u.window.window_size * max_datagram ≤ length out → (b : Bool) → selective_repeat.due u n ≡ b
        → is_timeout_refused (resend (state_broken true u.window u.store) (counts_broken u.window) u n (cond b 1 0) out).answer ≡ false
    by_due_lem u n out state counts room true e = let i = due_within u n e in window_not_refused true u n 1 out state counts (record { from = i.0; below = omega (arith, i.1) }) room
    by_due_lem u n out state counts room false e = ap (λ (x : TimeoutExit slots.Sender). is_timeout_refused x.answer) (sym (resend_nothing _ _ u n 0 out state counts refl))

    by_state : (s : session.SenderState) (store : List ℕ) (t : Timeout) (out : List ℕ) → SenderUnbroken (sender_in s store) → (window_of (sender_in s store).sender).window_size * max_datagram ≤ length out → is_timeout_refused (handle_timeout_in s store t out).answer ≡ false
    by_state (senderState.StopAndWait s) store t out h room =
        let u = stop_and_wait.window_end (stop_and_wait.end_of s store) in
        window_not_refused false u _ _ out h.state h.counts (lowest false u (stop_and_wait.retries_left s) h.state) room
    by_state (senderState.GoBackN s) store timeout.All out h room = let u = slots.sender s.window store in window_not_refused false u _ _ out h.state h.counts (every false u h.state) room
    by_state (senderState.GoBackN s) store timeout.Earliest out h room = let u = slots.sender s.window store in window_not_refused false u _ _ out h.state h.counts (lowest false u 1 h.state) room
    by_state (senderState.GoBackN s) store (timeout.Number n) out h room = let u = slots.sender s.window store in window_not_refused false u _ _ out h.state h.counts (every false u h.state) room
    by_state (senderState.SelectiveRepeat s) store t out h room = let u = slots.sender s.window store in by_due_lem u (timeout_number s.window t) out h.state h.counts room (selective_repeat.due u (timeout_number s.window t)) refl

-- ---- a valid ACK: what else a line hands over is no call
pub ack_not_refused : (v : SenderEnd) (raw : List ℕ) (p : Packet) → SenderUnbroken v → read_datagram raw ≡ Ok (reading.Valid p) → p.pkt_type ≡ packetType.Ack → is_handled (handle_ack v raw).answer ≡ true
unfolding handle_ack_unchecked
ack_not_refused v raw p h e k = ap (λ (x : AckExit SenderEnd). is_handled x.answer) (ack_of_number v raw h p e k) ∙ either (is_in_window (window_of v.sender) p.seq_num)
  where
    either : (b : Bool) → is_handled (ack_answer_of b) ≡ true
    either true = refl
    either false = refl
