-- A packet leaves a session's receiver a store and an output of the same lengths.
use Prim.Native.Nat.{ℕ, ◌+◌, ◌%◌, ◌≤◌}
use mathlib.Core.Path.{◌≡◌, refl}
use mathlib.Core.Bool.{Bool, true, false, cond}
use mathlib.Core.List.{List}
use lib.ListN.{length}
use Rattle.bounds.specs.Bounds.{max_payload}
use Rattle.packet.specs.Reading.{payload_of}
use Rattle.store.specs.Slot.{slot_bytes}
use Rattle.store.specs.Numbers.{written_at}
use Rattle.store.proofs.Laws.{slot_in, put_length, slot_bytes_length, written_length}
use Rattle.refinement.proofs.Writes.{emptied_length}
use Rattle.receiver.specs.Reading.{read_packet}
use Rattle.receiver.specs.Reply.{ack_after, RoomFor, applied, apply_exit}
use Rattle.receiver.specs.Receive.{ReceiveExit, Reception, receive}
use Rattle.receiver.specs.declared.Decision.{Decision}
use Rattle.receiver.proofs.Laws.{ReceiveKnown, receive_either, room_output, state_low}
use Rattle.stop_and_wait.specs.Receiver as stop_and_wait
use Rattle.go_back_n.specs.Receiver as go_back_n
use Rattle.selective_repeat.specs.Receiver as selective_repeat
use Rattle.selective_repeat.specs.declared.SlotChange.{SlotChange}
use Rattle.selective_repeat.specs.declared.SlotChange.TheVariants as slotChange
use Rattle.selective_repeat.proofs.Laws.{ready, receiving_sound}
use Rattle.session.specs.declared.ReceiverState.{ReceiverState}
use Rattle.session.specs.declared.ReceiverState.TheVariants as receiverState
use Rattle.session.specs.Receiving.{ReceiverEnd, handle_packet_in, handle_packet}

applied_length : (d : Decision) (payload : List ℕ) (filled : ℕ) (output ack : List ℕ) → RoomFor d (length payload) filled output ack → length (applied d payload filled output ack).output ≡ length output
unfolding applied
applied_length d payload filled output ack room = by_test_lem d.deliver (λ e. room_output d (length payload) filled output ack room e)
  where
    by_test_lem : (b : Bool) → (b ≡ true → filled + length payload ≤ length output) → length (cond b (apply_exit (filled + length payload) (written_at output filled payload) (ack_after d.reply ack)) (apply_exit filled output (ack_after d.reply ack))).output ≡ length output
    by_test_lem true h = written_length output payload filled (h refl)
    by_test_lem false h = refl

-- refused, or received
received_lengths : {R : Type 0} (x : Reception R) (raw output ack : List ℕ) (store : R → List ℕ) → (x.state_broken ≡ false → x.filled ≤ length output) → (ReceiveKnown x raw output ack → (n : ℕ) → length (store (x.after n)) ≡ length (store x.state))
    → (length (store (receive x raw output ack).receiver) ≡ length (store x.state)) × (length (receive x raw output ack).output ≡ length output)
received_lengths {R} x raw output ack store mark same =
    receive_either x raw output ack (λ (y : ReceiveExit R). (length (store y.receiver) ≡ length (store x.state)) × (length y.output ≡ length output)) (λ s. (refl, refl))
    (λ known. (same known _, applied_length x.decision x.delivered x.filled output ack (record { mark = mark known.state_sound; room = known.room })))

slots_length : (v : selective_repeat.Receiver) (payload : List ℕ) → selective_repeat.state_broken v.state v.store ≡ false → length payload ≤ max_payload → (change : SlotChange) → length (selective_repeat.changed_slots v payload change) ≡ length v.store
slots_length v payload sound short slotChange.Unchanged = refl
slots_length v payload sound short (slotChange.Hold n) =
    let h = ready v.state v.store sound in
    put_length v.store (n % v.state.window_size) (slot_bytes payload 1 0) (slot_in v.store n v.state.window_size h.positive h.room) (slot_bytes_length payload 1 0 short)
slots_length v payload sound short (slotChange.Release k) = let h = ready v.state v.store sound in emptied_length v.store v.state.window_size _ k h.positive h.room

pub packet_lengths : (v : ReceiverEnd) (raw output ack : List ℕ) → (length (handle_packet v raw output ack).receiver.store ≡ length v.store) × (length (handle_packet v raw output ack).output ≡ length output)
unfolding handle_packet
packet_lengths v raw output ack = by_state v.receiver.state v.store
  where
    by_state : (s : ReceiverState) (store : List ℕ) → (length (handle_packet_in s store raw output ack).receiver.store ≡ length store) × (length (handle_packet_in s store raw output ack).output ≡ length output)
    by_state (receiverState.StopAndWait r) store =
        received_lengths (stop_and_wait.reception r (read_packet raw) (payload_of raw) output) raw output ack (λ x. store) (λ e. (state_low r.expected_seq r.filled output e).1) (λ known n. refl)
    by_state (receiverState.GoBackN r) store =
        received_lengths (go_back_n.reception r (read_packet raw) (payload_of raw) output) raw output ack (λ x. store) (λ e. (state_low r.expected_seq r.filled output e).1) (λ known n. refl)
    by_state (receiverState.SelectiveRepeat r) store =
        let u = selective_repeat.receiver r store in
        received_lengths (selective_repeat.reception u (read_packet raw) (payload_of raw) output) raw output ack (λ w. w.store) (λ e. (receiving_sound r store output e).1)
        (λ known n. slots_length u (payload_of raw) (receiving_sound r store output known.state_sound).0 known.short (selective_repeat.decision u (read_packet raw)).change)
