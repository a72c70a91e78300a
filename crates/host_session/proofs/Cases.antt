-- A session's call, by the protocol y that its state x has.
use Prim.Native.Nat.{ℕ}
use mathlib.Core.Path.{◌≡◌, sym, ap, ◌∙◌}
use mathlib.Core.List.{List}
use Rattle.window.specs.Resending.{TimeoutExit}
use Rattle.receiver.specs.Receive.{ReceiveExit}
use Rattle.window.specs.Slots as slots
use Rattle.window.specs.declared.SendWindow.{SendWindow}
use Rattle.selective_repeat.specs.Sender as selective_repeat
use Rattle.session.specs.declared.SenderState.{SenderState}
use Rattle.session.specs.declared.SenderState.TheVariants as senderState
use Rattle.session.specs.declared.ReceiverState.{ReceiverState}
use Rattle.session.specs.declared.Timeout.{Timeout}
use Rattle.session.specs.Sending.{SenderEnd, sender_in, timeout_number, timed_out_as, selective_repeat_end, handle_timeout_in, handle_timeout}
use Rattle.session.specs.Receiving.{ReceiverEnd, receiver_in, handle_packet_in, handle_packet}

module _ (x : SenderState) {y : SenderState} (store : List ℕ) (e : x ≡ y) where
  pub timed_out_in : (t : Timeout) (out : List ℕ) {r : TimeoutExit SenderEnd} → r ≡ handle_timeout_in y store t out → r ≡ handle_timeout (sender_in x store) t out
  unfolding handle_timeout
  timed_out_in t out f = f ∙ ap (λ (z : SenderState). handle_timeout_in z store t out) (sym e)

module _ (x : ReceiverState) {y : ReceiverState} (store raw output ack : List ℕ) (e : x ≡ y) where
  pub received_in : {r : ReceiveExit ReceiverEnd} → r ≡ handle_packet_in y store raw output ack → r ≡ handle_packet (receiver_in x store) raw output ack
  unfolding handle_packet
  received_in f = f ∙ ap (λ (z : ReceiverState). handle_packet_in z store raw output ack) (sym e)

-- Selective Repeat's timeout is of the number n that the session's means
pub number_timed_out : (w : SendWindow) (store : List ℕ) (t : Timeout) (out : List ℕ) {n : ℕ} {r : TimeoutExit slots.Sender} → r ≡ selective_repeat.handle_timeout (slots.sender w store) n out
    → n ≡ timeout_number w t → timed_out_as selective_repeat_end r ≡ handle_timeout_in (senderState.SelectiveRepeat (record { window = w })) store t out
number_timed_out w store t out e k =
    ap (timed_out_as selective_repeat_end) (e ∙ ap (λ (m : ℕ). selective_repeat.handle_timeout (slots.sender w store) m out) k)
