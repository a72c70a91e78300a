-- A sender after a chunk was sent.
use Prim.Native.Nat.{ℕ, ◌+◌, ◌-◌, ◌<◌}
use native.Mathlib.Omega.{arith}
use mathlib.Core.Path.{◌≡◌, refl, sym, ap, ◌∙◌, subst}
use mathlib.Core.Bool.{Bool, true, false, cond}
use mathlib.Core.List.{List, ◌++◌}
use lib.ListN.{length, take, drop}
use lib.Seq.{take_at}
use borrow.Author.Tests.{ltb-true}
use Rattle.bounds.specs.Bounds.{header_size}
use Rattle.packet.specs.Format.{new_packet}
use Rattle.packet.specs.declared.PacketType.TheVariants.{Data}
use Rattle.packet.proofs.Laws.{made_length}
use Rattle.window.specs.Slots as slots
use Rattle.window.specs.Slots.{hold, first_datagram}
use Rattle.window.specs.Sending as window
use Rattle.window.specs.Sending.{SendExit}
use Rattle.window.specs.declared.SendWindow.{SendWindow}
use Rattle.stop_and_wait.specs.Sender as stop_and_wait
use Rattle.stop_and_wait.specs.declared.StopAndWaitSender.{StopAndWaitSender}
use Rattle.delivery.specs.Ends.{bytes_sent}
use Rattle.session.specs.declared.SenderState.{SenderState}
use Rattle.session.specs.declared.SenderState.TheVariants as senderState
use Rattle.session.specs.Sending.{SenderEnd, stop_and_wait_end, go_back_nEnd, selective_repeat_end, sender_in, window_of, window_end, send_chunk_in, send_chunk}
use Rattle.session.specs.GoodSender.{is_selective, CanSendChunk}
use Rattle.session.proofs.Laws.{send_unchecked}

-- the window u after it: the next number is used, and one more datagram is counted; what was written is the chunk's
pub record SentOne (v : SenderEnd) (payload : List ℕ) (u : SendWindow) (written : List ℕ) : Type 0 where
  pub size : u.window_size ≡ (window_of v.sender).window_size
  pub base : u.send_base ≡ (window_of v.sender).send_base
  pub next : u.next_seq_num ≡ (window_of v.sender).next_seq_num + 1
  pub count : u.total_sent ≡ (window_of v.sender).total_sent + 1
  pub again : u.retransmissions ≡ (window_of v.sender).retransmissions
  pub bytes : written ≡ first_datagram (window_end v) payload

the_datagram : (v : slots.Sender) (payload rest : List ℕ) → take (header_size + length payload) (first_datagram v payload ++ rest) ≡ first_datagram v payload
the_datagram v payload rest = take_at (first_datagram v payload) rest (header_size + length payload) (made_length (new_packet v.window.next_seq_num Data) payload)

-- Stop-and-Wait sends where nothing is in flight
idle : (n : ℕ) (b : Bool) → cond b (n + 1) n - n < 1 → n + 1 ≡ cond b (n + 1) n + 1
idle n true h = absurd (omega arith)
idle n false h = refl

stop_and_wait_lem : (s : StopAndWaitSender) (store payload out : List ℕ) → CanSendChunk (sender_in (senderState.StopAndWait s) store) payload out
    → SentOne (sender_in (senderState.StopAndWait s) store) payload (window_of (send_chunk_in (senderState.StopAndWait s) store payload out).after.sender) (bytes_sent (send_chunk_in (senderState.StopAndWait s) store payload out).answer (send_chunk_in (senderState.StopAndWait s) store payload out).out)
unfolding hold
stop_and_wait_lem s store payload out h =
    let v = sender_in (senderState.StopAndWait s) store in
    subst (λ (x : SendExit slots.Sender). SentOne (sender_in (senderState.StopAndWait s) store) payload (stop_and_wait.window_of (stop_and_wait.sent s x).after.sender) (bytes_sent x.answer x.out))
    (sym (send_unchecked v payload out h))
    (record { size = refl; base = refl; next = idle s.current_seq s.in_flight (ltb-true _ _ h.free); count = refl; again = refl; bytes = the_datagram (window_end v) payload (drop (header_size + length payload) out) })

windowed : (v : SenderEnd) (payload out : List ℕ) {x : SendExit slots.Sender} → x ≡ window.send_chunk_unchecked (window_end v) payload out → SentOne v payload x.after.window (bytes_sent x.answer x.out)
unfolding hold
windowed v payload out e =
    subst (λ (x : SendExit slots.Sender). SentOne v payload x.after.window (bytes_sent x.answer x.out)) (sym e)
    (record { size = refl; base = refl; next = refl; count = refl; again = refl; bytes = the_datagram (window_end v) payload (drop (header_size + length payload) out) })

pub sent_one : (v : SenderEnd) (payload out : List ℕ) → CanSendChunk v payload out → SentOne v payload (window_of (send_chunk v payload out).after.sender) (bytes_sent (send_chunk v payload out).answer (send_chunk v payload out).out)
unfolding send_chunk
sent_one v payload out h = by_state v.sender.state v.store h
  where
    by_state : (s : SenderState) (store : List ℕ) → CanSendChunk (sender_in s store) payload out → SentOne (sender_in s store) payload (window_of (send_chunk_in s store payload out).after.sender) (bytes_sent (send_chunk_in s store payload out).answer (send_chunk_in s store payload out).out)
    by_state (senderState.StopAndWait s) store h = stop_and_wait_lem s store payload out h
    by_state (senderState.GoBackN s) store h = windowed (sender_in (senderState.GoBackN s) store) payload out (send_unchecked (sender_in (senderState.GoBackN s) store) payload out h)
    by_state (senderState.SelectiveRepeat s) store h = windowed (sender_in (senderState.SelectiveRepeat s) store) payload out (send_unchecked (sender_in (senderState.SelectiveRepeat s) store) payload out h)

-- whatever the buffer held: the sender after it, and what was written
module _ (payload a b : List ℕ) where
  same_end : (v : SenderEnd) (end : SendExit slots.Sender → SenderEnd) → (end (window.send_chunk_unchecked (window_end v) payload a) ≡ end (window.send_chunk_unchecked (window_end v) payload b))
      → CanSendChunk v payload a → CanSendChunk v payload b → end (window.send_chunk (is_selective v.sender.state) (window_end v) payload a) ≡ end (window.send_chunk (is_selective v.sender.state) (window_end v) payload b)
  same_end v end e h k = ap end (send_unchecked v payload a h) ∙ e ∙ sym (ap end (send_unchecked v payload b k))

  end_same : (s : SenderState) (store : List ℕ) → CanSendChunk (sender_in s store) payload a → CanSendChunk (sender_in s store) payload b → (send_chunk_in s store payload a).after ≡ (send_chunk_in s store payload b).after
  end_same (senderState.StopAndWait s) store h k = same_end (sender_in (senderState.StopAndWait s) store) (λ x. stop_and_wait_end (stop_and_wait.sent s x).after) refl h k
  end_same (senderState.GoBackN s) store h k = same_end (sender_in (senderState.GoBackN s) store) (λ x. go_back_nEnd x.after) refl h k
  end_same (senderState.SelectiveRepeat s) store h k = same_end (sender_in (senderState.SelectiveRepeat s) store) (λ x. selective_repeat_end x.after) refl h k

  pub sent_same : (v : SenderEnd) → CanSendChunk v payload a → CanSendChunk v payload b → (send_chunk v payload a).after ≡ (send_chunk v payload b).after
  unfolding send_chunk
  sent_same v h k = end_same v.sender.state v.store h k

pub written_same : (v : SenderEnd) (payload a b : List ℕ) → CanSendChunk v payload a → CanSendChunk v payload b
    → bytes_sent (send_chunk v payload a).answer (send_chunk v payload a).out ≡ bytes_sent (send_chunk v payload b).answer (send_chunk v payload b).out
written_same v payload a b h k = (sent_one v payload a h).bytes ∙ sym (sent_one v payload b k).bytes
