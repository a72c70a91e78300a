-- The departures, by computation.
use mathlib.Core.Path.{refl}
use Rattle.checksum.specs.Rfc1071.{words, ones_add, ones_sum, checksum}
use Rattle.octets.specs.Flip.{flip}
use Rattle.refusal.specs.Clauses.{any_of}
use Rattle.refusal.specs.Order.{order, or_else, numbered, first_of, verdict, decide}
use Rattle.packet.specs.Format.{header_bytes, datagram, checksum_of, matches}
use Rattle.packet.specs.Reading.{read_checks, header_of, payload_part, payload_of, validity, read_datagram}
use Rattle.store.specs.Slot.{slot_at, slot_bytes, put_slot}
use Rattle.store.specs.Sound.{any_below, sender_slot_broken, sender_slots_broken}
use Rattle.window.specs.State.{window_broken, store_short, numbers_broken, state_broken}
use Rattle.window.specs.State as window
use Rattle.window.specs.Slots.{hold, mark_retransmitted, datagram_for}
use Rattle.window.specs.Sending.{send_checks, send_chunk}
use Rattle.window.specs.Resending.{datagrams_from, mark_from, resend}
use Rattle.receiver.specs.State as receiver
use Rattle.receiver.specs.Reply.{ack_after, room_missing, applied}
use Rattle.receiver.specs.Receive.{receive}
use Rattle.go_back_n.specs.Receiver as go_back_n
use Rattle.stop_and_wait.specs.Receiver as stop_and_wait
use Rattle.known_answers.specs.Departures.{Departures}

pub departures : Departures
unfolding words ones_add ones_sum checksum flip any_of order or_else numbered first_of verdict decide header_bytes datagram
    checksum_of matches read_checks header_of payload_part payload_of validity read_datagram receiver.state_broken
    receiver.counts_broken ack_after room_missing applied receive stop_and_wait.data_decision stop_and_wait.decision
    go_back_n.data_decision go_back_n.decision any_below sender_slot_broken sender_slots_broken slot_at slot_bytes put_slot
    window_broken store_short numbers_broken state_broken window.counts_broken hold mark_retransmitted datagram_for send_checks
    send_chunk datagrams_from mark_from resend
departures =
    record {
      k4_flip = refl;
      made_valid = refl;
      made_byte_7 = refl;
      field_sum = refl;
      field_invalid = refl;
      go_back_n_corrupt = refl;
      stop_and_wait_corrupt = refl;
      retry_limit = refl;
    }
