-- What a session's calls of send and ACK are below the entry points.
use Rattle.std.specs.Prelude.{Ok}
use Prim.Native.Nat.{ℕ, ◌*◌, ◌≤◌}
use mathlib.Core.Path.{◌≡◌, refl, sym, ap, ◌∙◌, subst}
use mathlib.Core.Bool.{Bool, true, false, cond, ◌&&◌}
use mathlib.Core.List.{List}
use native.Mathlib.Omega.{arith}
use borrow.Author.Tests.{le-ltb, ne_eqb}
use lib.ListN.{length}
use Rattle.bounds.specs.Bounds.{seq_num_limit, slot_size}
use Rattle.protocol.specs.declared.ProtocolType.{ProtocolType}
use Rattle.protocol.specs.declared.ProtocolType.TheVariants as protocol
use Rattle.refusal.proofs.Laws.{none_true_accepted, on_accepted}
use Rattle.window.specs.Slots as slots
use Rattle.window.specs.Sending as window
use Rattle.window.specs.Sending.{SendExit, window_free, send_checks}
use Rattle.window.specs.Acknowledgement.{is_in_window, ack_exit}
use Rattle.window.specs.declared.SendWindow.{SendWindow}
use Rattle.window.proofs.Laws.{sound, counts_low}
use Rattle.stop_and_wait.specs.Sender as stop_and_wait
use Rattle.stop_and_wait.specs.declared.StopAndWaitSender.{StopAndWaitSender}
use Rattle.session.specs.declared.SenderState.{SenderState}
use Rattle.session.specs.declared.SenderState.TheVariants as senderState
use Rattle.session.specs.Sending.{SenderEnd, sender_in, stop_and_wait_end, go_back_nEnd, selective_repeat_end, window_of, window_end, slot_count, new_sender, sent_as, send_chunk_in, send_chunk, acknowledged_in, acknowledged, ack_answer_of, handle_ack_unchecked}
use Rattle.session.specs.GoodSender.{is_selective, CanSendChunk}

and_false : (a : Bool) {b : Bool} → b ≡ false → (a && b) ≡ false
and_false true e = e
and_false false e = refl

-- where no check is true and the window is free, the call is the one below it
pub send_unchecked : (v : SenderEnd) (payload out : List ℕ) → CanSendChunk v payload out
    → window.send_chunk (is_selective v.sender.state) (window_end v) payload out ≡ window.send_chunk_unchecked (window_end v) payload out
unfolding window.send_chunk send_checks
send_unchecked v payload out h =
    let low = h.low in
    on_accepted _ _ (none_true_accepted _ (
      h.unbroken.state,
      (
        h.unbroken.counts,
        (
          le-ltb _ _ h.short,
          (
            and_false (window_free (window_of v.sender)) (ne_eqb _ _ (λ (e : (window_of v.sender).next_seq_num ≡ seq_num_limit). omega arith)),
            (and_false (window_free (window_of v.sender)) (le-ltb _ _ h.fits), tt),
          ),
        ),
      ),
    ))
    ∙ rw h.free

pub can_send_chunk : (v : SenderEnd) (payload out : List ℕ) → CanSendChunk v payload out → window.CanSendChunk (window_end v) payload out
can_send_chunk v payload out h =
    let s = sound (is_selective v.sender.state) (window_of v.sender) v.store h.unbroken.state in
    record {
      positive = s.positive;
      room = s.room;
      low = h.low;
      count = (counts_low (window_of v.sender) h.unbroken.counts).0;
      short = h.short;
      fits = h.fits;
    }

-- by the protocol y that the state x has
module _ (x y : SenderState) (store payload out : List ℕ) (e : x ≡ y) where
  pub can_send_in : CanSendChunk (sender_in x store) payload out → CanSendChunk (sender_in y store) payload out
  can_send_in h = subst (λ (z : SenderState). CanSendChunk (sender_in z store) payload out) e h

  pub sent_in : {r : SendExit SenderEnd} → r ≡ send_chunk_in y store payload out → r ≡ send_chunk (sender_in x store) payload out
  unfolding send_chunk
  sent_in f = f ∙ ap (λ (z : SenderState). send_chunk_in z store payload out) (sym e)

pub stop_and_wait_sent : (s : StopAndWaitSender) (store payload out : List ℕ) {r : SendExit stop_and_wait.End} → CanSendChunk (sender_in (senderState.StopAndWait s) store) payload out
    → r ≡ stop_and_wait.send_chunk_unchecked (stop_and_wait.end_of s store) payload out → sent_as stop_and_wait_end r ≡ send_chunk_in (senderState.StopAndWait s) store payload out
stop_and_wait_sent s store payload out h f =
    ap (sent_as stop_and_wait_end) (f ∙ ap (stop_and_wait.sent s) (sym (send_unchecked (sender_in (senderState.StopAndWait s) store) payload out h)))

pub go_back_n_sent : (s : SendWindow) (store payload out : List ℕ) {r : SendExit slots.Sender} → CanSendChunk (go_back_nEnd (slots.sender s store)) payload out
    → r ≡ window.send_chunk_unchecked (slots.sender s store) payload out → sent_as go_back_nEnd r ≡ send_chunk_in (senderState.GoBackN (record { window = s })) store payload out
go_back_n_sent s store payload out h f = ap (sent_as go_back_nEnd) (f ∙ sym (send_unchecked (go_back_nEnd (slots.sender s store)) payload out h))

pub selective_repeat_sent : (s : SendWindow) (store payload out : List ℕ) {r : SendExit slots.Sender} → CanSendChunk (selective_repeat_end (slots.sender s store)) payload out
    → r ≡ window.send_chunk_unchecked (slots.sender s store) payload out → sent_as selective_repeat_end r ≡ send_chunk_in (senderState.SelectiveRepeat (record { window = s })) store payload out
selective_repeat_sent s store payload out h f = ap (sent_as selective_repeat_end) (f ∙ sym (send_unchecked (selective_repeat_end (slots.sender s store)) payload out h))

-- ---- making
pub made_in : (p q : ProtocolType) (w limit : ℕ) (store : List ℕ) → p ≡ q → {r : SenderEnd} → r ≡ new_sender q w limit store → r ≡ new_sender p w limit store
made_in p q w limit store e f = f ∙ ap (λ (z : ProtocolType). new_sender z w limit store) (sym e)

pub slots_in : (p q : ProtocolType) (w : ℕ) (store : List ℕ) → p ≡ q → slot_count p w * slot_size ≤ length store → slot_count q w * slot_size ≤ length store
slots_in p q w store e h = subst (λ (z : ProtocolType). slot_count z w * slot_size ≤ length store) e h

pub stop_and_wait_made : (w limit : ℕ) (store : List ℕ) {s : SendWindow} {zeroed : List ℕ} → slots.sender s zeroed ≡ slots.fresh 1 store
    → stop_and_wait_end (stop_and_wait.end_of (stop_and_wait.state s.send_base false limit 0 s.total_sent s.retransmissions) zeroed) ≡ new_sender protocol.StopAndWait w limit store
unfolding new_sender slots.fresh
stop_and_wait_made w limit store e =
    ap (λ (v : slots.Sender). stop_and_wait_end (stop_and_wait.end_of (stop_and_wait.state v.window.send_base false limit 0 v.window.total_sent v.window.retransmissions) v.store)) e

pub go_back_n_made : (w limit : ℕ) (store : List ℕ) {v : slots.Sender} → v ≡ slots.fresh w store → go_back_nEnd v ≡ new_sender protocol.GoBackN w limit store
unfolding new_sender
go_back_n_made w limit store e = ap go_back_nEnd e

pub selective_repeat_made : (w limit : ℕ) (store : List ℕ) {v : slots.Sender} → v ≡ slots.fresh w store → selective_repeat_end v ≡ new_sender protocol.SelectiveRepeat w limit store
unfolding new_sender
selective_repeat_made w limit store e = ap selective_repeat_end e

-- ---- ACKs
pub acknowledged_in_lem : (x y : SenderState) (store : List ℕ) (n : ℕ) → x ≡ y → {r : SenderEnd} → r ≡ acknowledged_in y store n → r ≡ acknowledged (sender_in x store) n
unfolding acknowledged
acknowledged_in_lem x y store n e f = f ∙ ap (λ (z : SenderState). acknowledged_in z store n) (sym e)

pub ack_accepted : (v : SenderEnd) (n : ℕ) {r : SenderEnd} → is_in_window (window_of v.sender) n ≡ true → r ≡ acknowledged v n → ack_exit (Ok true) r ≡ handle_ack_unchecked v n
unfolding handle_ack_unchecked
ack_accepted v n i f = ap (ack_exit (Ok true)) f ∙ ap (λ (b : Bool). ack_exit (ack_answer_of b) (cond b (acknowledged v n) v)) (sym i)

pub ack_not_accepted : (v : SenderEnd) (n : ℕ) → is_in_window (window_of v.sender) n ≡ false → ack_exit (Ok false) v ≡ handle_ack_unchecked v n
unfolding handle_ack_unchecked
ack_not_accepted v n i = ap (λ (b : Bool). ack_exit (ack_answer_of b) (cond b (acknowledged v n) v)) (sym i)
