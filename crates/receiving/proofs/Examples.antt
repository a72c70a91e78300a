-- One byte to a Stop-and-Wait receiver, and no roll for its ACK: completed at 5 ms, though the run ends there. What the calls ask is met.
use Rattle.std.specs.Prelude.{Some}
use Prim.Native.Nat.{ℕ}
use mathlib.Core.Path.{◌≡◌, refl}
use mathlib.Core.Bool.{true, false}
use mathlib.Core.List.{List, [], ◌∷◌}
use native.Mathlib.Omega.{arith}
use lib.IntN.{pos}
use lib.Ieee.{Float, fin, le}
use Rattle.schedule.specs.Record.{vacant}
use Rattle.channel.specs.Bounds.{config_broken}
use Rattle.channel.specs.declared.ChannelConfig.{ChannelConfig}
use Rattle.protocol.specs.declared.ProtocolType.TheVariants.{StopAndWait}
use Rattle.notes.specs.Notes.{SegMetas, new_notes}
use Rattle.notes.proofs.Laws.{scheduled_new}
use Rattle.path.specs.Rolls.{rolls_broken}
use Rattle.path.specs.Direction.{Direction, Good}
use Rattle.path.specs.Path.{new_path, carry}
use Rattle.path.specs.declared.Stop.TheVariants as stop
use Rattle.path.proofs.Laws.{new_good}
use Rattle.stop_and_wait.specs.Receiver as stop_and_wait
use Rattle.window.specs.State.{window_broken, store_short}
use Rattle.refusal.specs.Clauses.{any_of}
use Rattle.refusal.specs.Order.{order, or_else, numbered, first_of, verdict, decide}
use Rattle.checksum.specs.Rfc1071.{words, ones_add, ones_sum, checksum}
use Rattle.packet.specs.Format.{header_bytes, datagram, checksum_of, matches}
use Rattle.packet.specs.Reading.{read_checks, header_of, payload_part, payload_of, read_datagram}
use Rattle.receiver.specs.State.{counts_broken, state_broken}
use Rattle.receiver.specs.Reply.{ack_after, room_missing, applied}
use Rattle.receiver.specs.Receive.{receive}
use Rattle.session.specs.Receiving.{new_receiver, handle_packet}
use Rattle.session.specs.declared.ReceiverState.TheVariants as receiverState
use Rattle.session.proofs.Laws.{new_receiver_good}
use Rattle.receiving.specs.Receiving.{Inbound, inbound, new_side, forward_exit, submit_ack, absorb, received, on_forward}
use Rattle.receiving.specs.Good.{GoodInbound, CanOnForward, CanServeForward}
use Rattle.receiving.proofs.Kept.{new_inbound_good}
use Rattle.receiving.proofs.Turns.{good_can_serve}

nought : Float
nought = fin false 0 (pos 0)

config : ChannelConfig
config = record { loss = nought; duplicate = nought; reorder = nought; reorder_extra_ms = 0; corrupt = nought; base_delay_ms = 5; jitter_ms = 0 }

line : Direction
line = new_path config [] []

notes : SegMetas
notes = new_notes (vacant ∷ [])

start : Inbound
start = inbound (new_side (new_receiver StopAndWait 1 []).receiver) [] (0 ∷ []) notes line

-- the number 0 and the byte 0x41
raw : List ℕ
raw = 0 ∷ 0 ∷ 0 ∷ 0 ∷ 1 ∷ 0 ∷ 0 ∷ 1 ∷ 189 ∷ 254 ∷ 65 ∷ []

line_good : Good line []
unfolding line config nought config_broken le rolls_broken
line_good = new_good config [] [] [] refl (record { each = λ i h. absurd (omega arith); size = omega arith }) refl

start_good : GoodInbound start []
unfolding start new_receiver notes new_notes window_broken any_of store_short
start_good = new_inbound_good _ [] (0 ∷ []) notes line [] (new_receiver_good StopAndWait 1 [] (0 ∷ []) refl refl) (omega arith) (scheduled_new (vacant ∷ [])) line_good

can_hand : CanOnForward start [] 5000000
unfolding start
can_hand = record { good = start_good; few = omega arith; in_time = omega arith }

can_serve : CanServeForward line start [] 5000000
unfolding start line new_path
can_serve = good_can_serve line_good start_good (omega arith) (omega arith)

completed_at_the_end : on_forward [] 1 5000000 raw start
    ≡ forward_exit (inbound (record { receiver = record { state = receiverState.StopAndWait (stop_and_wait.state 1 1 1 0 0) }; data_received = 1; ack_sent = 1; duplicate_data = 0; completed = true; completed_at = 5000000 }) [] (65 ∷ []) notes line) (Some stop.RollsSpent)
unfolding on_forward received absorb submit_ack start raw line notes new_path carry new_receiver handle_packet words ones_add ones_sum checksum any_of order or_else numbered first_of verdict decide header_bytes datagram checksum_of matches read_checks header_of payload_part payload_of read_datagram counts_broken state_broken ack_after room_missing applied receive stop_and_wait.decision stop_and_wait.data_decision
completed_at_the_end = refl
