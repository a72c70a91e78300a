-- What a session's receiver leaves in the buffer for the ACK.
use Rattle.std.specs.Prelude.{Err, None, Ok, Option, Result, Some}
use Prim.Native.Nat.{ℕ}
use mathlib.Core.Path.{◌≡◌, refl, sym, ap, ◌∙◌}
use mathlib.Core.Bool.{Bool, true, false, cond}
use mathlib.Core.List.{List, [], ◌∷◌, ◌++◌, append-nil, flatten}
use lib.ListN.{drop}
use lib.Seq.{take_at}
use Rattle.bounds.specs.Bounds.{header_size}
use Rattle.packet.specs.Format.{new_packet, made}
use Rattle.packet.specs.Reading.{payload_of}
use Rattle.packet.specs.declared.PacketType.TheVariants.{Ack}
use Rattle.packet.proofs.Laws.{made_length}
use Rattle.receiver.specs.Reading.{read_packet}
use Rattle.receiver.specs.Reply.{answer_of, ack_after, ApplyExit, applied}
use Rattle.receiver.specs.Receive.{ReceiveExit, Reception, receive}
use Rattle.receiver.specs.declared.Decision.{Decision}
use Rattle.receiver.proofs.Laws.{receive_either}
use Rattle.stop_and_wait.specs.Receiver as stop_and_wait
use Rattle.go_back_n.specs.Receiver as go_back_n
use Rattle.selective_repeat.specs.Receiver as selective_repeat
use Rattle.delivery.specs.Calls.{datagrams}
use Rattle.delivery.specs.Ends.{bytes_replied}
use Rattle.delivery.proofs.Laws.{datagrams_flatten, made_framed}
use Rattle.session.specs.declared.ReceiverState.{ReceiverState}
use Rattle.session.specs.declared.ReceiverState.TheVariants as receiverState
use Rattle.session.specs.Receiving.{ReceiverEnd, handle_packet_in, handle_packet}
use Rattle.refusal.specs.declared.Refusal.{Refusal}

-- the buffer after an answer
abbrev pub answered_buffer : Result (Option ℕ) Refusal → List ℕ → List ℕ
answered_buffer (Ok (Some n)) ack = made (new_packet n Ack) [] ++ drop header_size ack
answered_buffer (Ok None) ack = ack
answered_buffer (Err r) ack = ack

by_reply : (r : Option ℕ) (ack : List ℕ) → ack_after r ack ≡ answered_buffer (answer_of r) ack
unfolding ack_after
by_reply (Some n) ack = refl
by_reply None ack = refl

applied_ack : (d : Decision) (payload : List ℕ) (filled : ℕ) (output ack : List ℕ) → (applied d payload filled output ack).ack ≡ ack_after d.reply ack
unfolding applied
applied_ack d payload filled output ack = either d.deliver _ _ refl refl
  where
    either : (b : Bool) (x y : ApplyExit) → x.ack ≡ ack_after d.reply ack → y.ack ≡ ack_after d.reply ack → (cond b x y).ack ≡ ack_after d.reply ack
    either true x y e f = e
    either false x y e f = f

receive_ack : {R : Type 0} (x : Reception R) (raw output ack : List ℕ) → (receive x raw output ack).ack ≡ answered_buffer (receive x raw output ack).answer ack
receive_ack {R} x raw output ack =
    receive_either x raw output ack (λ (y : ReceiveExit R). y.ack ≡ answered_buffer y.answer ack) (λ s. refl)
    (λ k. applied_ack x.decision x.delivered x.filled output ack ∙ by_reply x.decision.reply ack)

pub answered_buffer_lem : (v : ReceiverEnd) (raw output ack : List ℕ) → (handle_packet v raw output ack).ack ≡ answered_buffer (handle_packet v raw output ack).answer ack
unfolding handle_packet
answered_buffer_lem v raw output ack = by_state v.receiver.state v.store
  where
    by_state : (s : ReceiverState) (store : List ℕ) → (handle_packet_in s store raw output ack).ack ≡ answered_buffer (handle_packet_in s store raw output ack).answer ack
    by_state (receiverState.StopAndWait r) store = receive_ack (stop_and_wait.reception r (read_packet raw) (payload_of raw) output) raw output ack
    by_state (receiverState.GoBackN r) store = receive_ack (go_back_n.reception r (read_packet raw) (payload_of raw) output) raw output ack
    by_state (receiverState.SelectiveRepeat r) store = receive_ack (selective_repeat.reception (selective_repeat.receiver r store) (read_packet raw) (payload_of raw) output) raw output ack

-- the datagrams that a call makes: the ACK that its answer says
abbrev pub replied_packets : ReceiveExit ReceiverEnd → List (List ℕ)
replied_packets x = datagrams (bytes_replied x.answer x.ack)

abbrev pub ack_packets : Result (Option ℕ) Refusal → List (List ℕ)
ack_packets (Ok (Some n)) = made (new_packet n Ack) [] ∷ []
ack_packets (Ok None) = []
ack_packets (Err r) = []

answer_packets : (a : Result (Option ℕ) Refusal) (ack : List ℕ) → datagrams (bytes_replied a (answered_buffer a ack)) ≡ ack_packets a
unfolding datagrams flatten
answer_packets (Ok (Some n)) ack =
    ap datagrams (take_at (made (new_packet n Ack) []) (drop header_size ack) header_size (made_length (new_packet n Ack) []) ∙ sym (append-nil (made (new_packet n Ack) [])))
    ∙ datagrams_flatten (made (new_packet n Ack) [] ∷ []) (made_framed (new_packet n Ack) [], tt)
answer_packets (Ok None) ack = refl
answer_packets (Err r) ack = refl

pub replied_packets_lem : (v : ReceiverEnd) (raw output ack : List ℕ) → replied_packets (handle_packet v raw output ack) ≡ ack_packets (handle_packet v raw output ack).answer
replied_packets_lem v raw output ack =
    ap (λ (l : List ℕ). datagrams (bytes_replied (handle_packet v raw output ack).answer l)) (answered_buffer_lem v raw output ack) ∙ answer_packets (handle_packet v raw output ack).answer ack
