-- A session's sender is as good after a call as before it.
use Prim.Native.Nat.{ℕ, ◌+◌, ◌≤◌}
use mathlib.Core.Path.{◌≡◌, refl, sym, ap, ◌∙◌, subst}
use mathlib.Core.Bool.{true, false}
use mathlib.Core.List.{List, [], ◌∷◌, ◌++◌, append-nil, flatten}
use native.Mathlib.Omega.{arith}
use lib.ListN.{length, take, drop}
use lib.Seq.{take_at}
use Rattle.bounds.specs.Bounds.{header_size}
use Rattle.protocol.specs.declared.ProtocolType.{ProtocolType}
use Rattle.protocol.specs.declared.ProtocolType.TheVariants.{StopAndWait, GoBackN, SelectiveRepeat}
use Rattle.packet.specs.Format.{new_packet}
use Rattle.packet.specs.declared.PacketType.TheVariants.{Data}
use Rattle.packet.proofs.Laws.{made_length}
use Rattle.window.specs.State.{window_broken, store_short}
use Rattle.window.specs.Slots as slots
use Rattle.window.specs.Slots.{first_datagram, Clean}
use Rattle.window.specs.Sending as window
use Rattle.window.specs.Sending.{SendExit}
use Rattle.window.proofs.Laws.{sound}
use Rattle.stop_and_wait.specs.Sender as stop_and_wait
use Rattle.refinement.proofs.Laws.{fresh_good}
use Rattle.delivery.specs.Calls.{datagrams}
use Rattle.delivery.specs.Ends.{bytes_sent, GoBackNTimeout, go_back_nTimeout, all, earliest, one}
use Rattle.delivery.specs.AnyBytes as call
use Rattle.delivery.proofs.Laws.{sender_step_sound, datagrams_flatten, made_framed}
use Rattle.tallies.proofs.Laws.{how_many, go_back_n_counted, selective_repeat_counted, stop_and_wait_counted_lem}
use Rattle.session.specs.declared.SenderState.{SenderState}
use Rattle.session.specs.declared.SenderState.TheVariants as senderState
use Rattle.session.specs.declared.Timeout.{Timeout}
use Rattle.session.specs.declared.Timeout.TheVariants as timeout
use Rattle.session.specs.Sending.{SenderEnd, sender_in, go_back_nEnd, window_of, window_end, slot_count, new_sender, send_chunk_in, send_chunk, handle_ack_in, handle_ack, timed_out_as, handle_timeout_in, handle_timeout, timeout_number, resent_by, ample_buffer, resent}
use Rattle.session.specs.GoodSender.{is_selective, sender_broken, SenderUnbroken, GoodSender, CanSendChunk}
use Rattle.session.proofs.Windows.{good_more}
use Rattle.session.proofs.Sends.{send_unchecked}
use Rattle.session.proofs.Resends.{resent_as}
use Rattle.session.proofs.Clean.{new_clean, sent_clean, ack_clean, resent_clean}

-- ---- making
pub new_sender_good : (p : ProtocolType) (w limit : ℕ) (store : List ℕ) → window_broken (slot_count p w) ≡ false → store_short store (slot_count p w) ≡ false → GoodSender (new_sender p w limit store) 0
unfolding new_sender slots.fresh
new_sender_good StopAndWait w limit store e f = record { state = record { state = fresh_good false 1 store e f; clean = new_clean StopAndWait w limit store }; sent = omega arith; again = omega arith }
new_sender_good GoBackN w limit store e f = record { state = record { state = fresh_good false w store e f; clean = new_clean GoBackN w limit store }; sent = omega arith; again = omega arith }
new_sender_good SelectiveRepeat w limit store e f = record { state = record { state = fresh_good true w store e f; clean = new_clean SelectiveRepeat w limit store }; sent = omega arith; again = omega arith }

pub new_sender_size : (p : ProtocolType) (w limit : ℕ) (store : List ℕ) → (window_of (new_sender p w limit store).sender).window_size ≡ slot_count p w
unfolding new_sender slots.fresh
new_sender_size StopAndWait w limit store = refl
new_sender_size GoBackN w limit store = refl
new_sender_size SelectiveRepeat w limit store = refl

pub new_sender_selective : (w limit : ℕ) (store : List ℕ) → is_selective (new_sender SelectiveRepeat w limit store).sender.state ≡ true
unfolding new_sender
new_sender_selective w limit store = refl

-- ---- sending
one_datagram : (v : slots.Sender) (payload rest : List ℕ) → datagrams (take (header_size + length payload) (first_datagram v payload ++ rest)) ≡ first_datagram v payload ∷ []
unfolding flatten
one_datagram v payload rest =
    ap datagrams (take_at (first_datagram v payload) rest (header_size + length payload) (made_length (new_packet v.window.next_seq_num Data) payload) ∙ sym (append-nil (first_datagram v payload)))
    ∙ datagrams_flatten (first_datagram v payload ∷ []) (made_framed _ payload, tt)

-- what is written: the chunk's datagram
abbrev pub sent_packets : SendExit SenderEnd → List (List ℕ)
sent_packets x = datagrams (bytes_sent x.answer x.out)

window_packets : (v : SenderEnd) (payload out : List ℕ) → CanSendChunk v payload out
    → datagrams (bytes_sent (window.send_chunk (is_selective v.sender.state) (window_end v) payload out).answer (window.send_chunk (is_selective v.sender.state) (window_end v) payload out).out) ≡ first_datagram (window_end v) payload ∷ []
window_packets v payload out h =
    ap (λ (x : SendExit slots.Sender). datagrams (bytes_sent x.answer x.out)) (send_unchecked v payload out h) ∙ one_datagram (window_end v) payload (drop (header_size + length payload) out)

pub sent_packets_lem : (v : SenderEnd) (payload out : List ℕ) → CanSendChunk v payload out → sent_packets (send_chunk v payload out) ≡ first_datagram (window_end v) payload ∷ []
unfolding send_chunk
sent_packets_lem v payload out h = by_state v.sender.state v.store h
  where
    by_state : (s : SenderState) (store : List ℕ) → CanSendChunk (sender_in s store) payload out → sent_packets (send_chunk_in s store payload out) ≡ first_datagram (window_end (sender_in s store)) payload ∷ []
    by_state (senderState.StopAndWait s) store h = window_packets (sender_in (senderState.StopAndWait s) store) payload out h
    by_state (senderState.GoBackN s) store h = window_packets (sender_in (senderState.GoBackN s) store) payload out h
    by_state (senderState.SelectiveRepeat s) store h = window_packets (sender_in (senderState.SelectiveRepeat s) store) payload out h

-- where each datagram written is counted: n of them, m of them by a timeout
after_good : {u v : SenderEnd} {k n m : ℕ} → sender_broken u ≡ false → Clean (window_end u) → (window_of u.sender).total_sent ≡ n + (window_of v.sender).total_sent
    → (window_of u.sender).retransmissions ≡ m + (window_of v.sender).retransmissions → m ≤ n → GoodSender v k → GoodSender u (k + n)
after_good e c f h few g =
    let a = g.sent in
    let b = g.again in
    record { state = record { state = e; clean = c }; sent = omega arith; again = omega arith }

sent_good : (v : SenderEnd) (payload out : List ℕ) (k : ℕ) → CanSendChunk v payload out → GoodSender v k → GoodSender (send_chunk v payload out).after (k + length (sent_packets (send_chunk v payload out)))
unfolding send_chunk
sent_good v payload out k h g = by_state v.sender.state v.store (sent_clean v payload out h) g
  where
    by_state : (s : SenderState) (store : List ℕ) → Clean (window_end (send_chunk_in s store payload out).after) → GoodSender (sender_in s store) k → GoodSender (send_chunk_in s store payload out).after (k + length (sent_packets (send_chunk_in s store payload out)))
    by_state (senderState.StopAndWait s) store c g =
        let u = stop_and_wait.end_of s store in
        let e = stop_and_wait_counted_lem u (call.send payload out) in
        after_good (sender_step_sound StopAndWait u (call.send payload out) g.state.state) c e.sent_count e.resent_count (omega arith) g
    by_state (senderState.GoBackN s) store c g =
        let u = slots.sender s.window store in
        let e = go_back_n_counted u (call.send payload out) in
        after_good (sender_step_sound GoBackN u (call.send payload out) g.state.state) c e.sent_count e.resent_count (omega arith) g
    by_state (senderState.SelectiveRepeat s) store c g =
        let u = slots.sender s.window store in
        let e = selective_repeat_counted u (call.send payload out) in
        after_good (sender_step_sound SelectiveRepeat u (call.send payload out) g.state.state) c e.sent_count e.resent_count (omega arith) g

pub send_good : (v : SenderEnd) (payload out : List ℕ) (k : ℕ) → CanSendChunk v payload out → GoodSender v k → GoodSender (send_chunk v payload out).after (k + 1)
send_good v payload out k h g = subst (λ (n : ℕ). GoodSender (send_chunk v payload out).after (k + n)) (ap length (sent_packets_lem v payload out h)) (sent_good v payload out k h g)

-- ---- ACKs: of any bytes
pub ack_good : (v : SenderEnd) (raw : List ℕ) (k : ℕ) → GoodSender v k → GoodSender (handle_ack v raw).after k
unfolding handle_ack
ack_good v raw k g = good_more (by_state v.sender.state v.store (ack_clean v raw g.state) g) k (omega arith)
  where
    by_state : (s : SenderState) (store : List ℕ) → Clean (window_end (handle_ack_in s store raw).after) → GoodSender (sender_in s store) k → GoodSender (handle_ack_in s store raw).after (k + 0)
    by_state (senderState.StopAndWait s) store c g =
        let u = stop_and_wait.end_of s store in
        let e = stop_and_wait_counted_lem u (call.ack raw) in
        after_good (sender_step_sound StopAndWait u (call.ack raw) g.state.state) c e.sent_count e.resent_count (omega arith) g
    by_state (senderState.GoBackN s) store c g =
        let u = slots.sender s.window store in
        let e = go_back_n_counted u (call.ack raw) in
        after_good (sender_step_sound GoBackN u (call.ack raw) g.state.state) c e.sent_count e.resent_count (omega arith) g
    by_state (senderState.SelectiveRepeat s) store c g =
        let u = slots.sender s.window store in
        let e = selective_repeat_counted u (call.ack raw) in
        after_good (sender_step_sound SelectiveRepeat u (call.ack raw) g.state.state) c e.sent_count e.resent_count (omega arith) g

-- ---- timeouts
pub resent_good : (v : SenderEnd) (t : Timeout) (k : ℕ) → GoodSender v k → GoodSender (resent v t).after (k + length (resent v t).packets)
unfolding resent handle_timeout
resent_good v t k g = by_state v.sender.state v.store t (ample_buffer v.sender) (resent_clean v t g.state) g
  where
    go_back_n : (u : slots.Sender) (t : GoBackNTimeout) (out : List ℕ) → Clean (go_back_nTimeout u t out).after → GoodSender (go_back_nEnd u) k → GoodSender (go_back_nEnd (go_back_nTimeout u t out).after) (k + length (resent_by (timed_out_as go_back_nEnd (go_back_nTimeout u t out))).packets)
    go_back_n u t out c g =
        let e = go_back_n_counted u (call.timeout t out) in
        after_good (sender_step_sound GoBackN u (call.timeout t out) g.state.state) c e.sent_count e.resent_count (omega arith) g

    by_state : (s : SenderState) (store : List ℕ) (t : Timeout) (out : List ℕ) → Clean (window_end (handle_timeout_in s store t out).after) → GoodSender (sender_in s store) k → GoodSender (handle_timeout_in s store t out).after (k + length (resent_by (handle_timeout_in s store t out)).packets)
    by_state (senderState.StopAndWait s) store t out c g =
        let u = stop_and_wait.end_of s store in
        let e = stop_and_wait_counted_lem u (call.timeout one out) in
        after_good (sender_step_sound StopAndWait u (call.timeout one out) g.state.state) c e.sent_count e.resent_count (omega arith) g
    by_state (senderState.GoBackN s) store timeout.All out c g = go_back_n (slots.sender s.window store) all out c g
    by_state (senderState.GoBackN s) store timeout.Earliest out c g = go_back_n (slots.sender s.window store) earliest out c g
    by_state (senderState.GoBackN s) store (timeout.Number n) out c g = go_back_n (slots.sender s.window store) all out c g
    by_state (senderState.SelectiveRepeat s) store t out c g =
        let u = slots.sender s.window store in
        let n = timeout_number s.window t in
        let e = selective_repeat_counted u (call.timeout n out) in
        after_good (sender_step_sound SelectiveRepeat u (call.timeout n out) g.state.state) c e.sent_count e.resent_count (omega arith) g

-- at most a window's
pub resent_few : (v : SenderEnd) (t : Timeout) → SenderUnbroken v → length (resent v t).packets ≤ (window_of v.sender).window_size
resent_few v t h =
    let r = resent_as v t h in
    let few = (sound _ (window_of v.sender) v.store h.state).few in
    let from = r.within.from in
    let below = r.within.below in
    let size = ap length r.packets_are ∙ how_many (window_end (resent v t).after) r.first r.count in
    omega (arith, few, from, below, size)

pub timeout_good : (v : SenderEnd) (t : Timeout) (k : ℕ) → SenderUnbroken v → GoodSender v k → GoodSender (resent v t).after (k + (window_of v.sender).window_size)
timeout_good v t k h g =
    let few = resent_few v t h in
    let n = resent_good v t k g in
    let a = n.sent in
    let b = n.again in
    record { state = n.state; sent = omega arith; again = omega arith }
