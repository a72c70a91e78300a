-- Document 01's proof sheet, row by row, by computation.
use mathlib.Core.Path.{refl}
use lib.Ieee.{add, mul, div, of_int, to_unsigned, le, lt}
use Rattle.checksum.specs.Rfc1071.{words, ones_add, ones_sum, checksum}
use Rattle.refusal.specs.Clauses.{any_of}
use Rattle.refusal.specs.Order.{order, or_else, numbered, first_of, verdict, decide}
use Rattle.packet.specs.Format.{header_bytes, datagram, checksum_of, matches}
use Rattle.packet.specs.Reading.{read_checks, header_of, payload_part, from_bytes, payload_of, validity, read_datagram}
use Rattle.packet.specs.Writing.{compute_checksum}
use Rattle.store.specs.Slot.{slot_at, slot_bytes, put_slot}
use Rattle.store.specs.Sound.{any_below, receiver_slot_broken, receiver_slots_broken}
use Rattle.store.specs.Numbers.{marked_run}
use Rattle.window.specs.State.{window_broken, store_short}
use Rattle.channel.specs.Bounds.{config_broken, stats_full, rolls_broken}
use Rattle.channel.specs.Faults.{is_lost, is_duplicated, is_reordered, is_corrupted, carried_bytes, deliveries_of}
use Rattle.channel.specs.Process.{counted_stats, process_unchecked, process}
use Rattle.rtt.specs.Rtt.{first_estimate}
use Rattle.rto.specs.Rto.{no_stats, fresh, estimate_for, accept_sample, sampled, timed_out, on_timeout_unchecked, config_in_bounds, update_rtt, on_timeout, counts_full, held_too_long}
use Rattle.rto.specs.Rto as rto
use Rattle.receiver.specs.State as receiver
use Rattle.receiver.specs.Reply.{ack_after, room_missing, applied}
use Rattle.receiver.specs.Receive.{receive}
use Rattle.selective_repeat.specs.Receiver as selective_repeat
use Rattle.go_back_n.specs.Receiver as go_back_n
use Rattle.stop_and_wait.specs.Receiver as stop_and_wait
use Rattle.known_answers.specs.ProofSheet.{ProofSheet}

pub proof_sheet : ProofSheet
unfolding words ones_add ones_sum checksum any_of order or_else numbered first_of verdict decide header_bytes datagram
    checksum_of matches read_checks header_of payload_part from_bytes payload_of validity read_datagram compute_checksum
    add mul div of_int to_unsigned le lt config_broken stats_full rolls_broken is_lost is_duplicated is_reordered is_corrupted
    carried_bytes deliveries_of counted_stats process_unchecked process first_estimate no_stats fresh estimate_for accept_sample
    sampled timed_out on_timeout_unchecked config_in_bounds update_rtt on_timeout counts_full held_too_long rto.state_broken
    slot_at slot_bytes put_slot any_below receiver_slot_broken receiver_slots_broken marked_run window_broken store_short
    receiver.state_broken receiver.counts_broken ack_after room_missing applied receive selective_repeat.state_broken
    selective_repeat.receiving_broken selective_repeat.data_decision selective_repeat.decision selective_repeat.delivered_bytes
    go_back_n.data_decision go_back_n.decision stop_and_wait.data_decision stop_and_wait.decision
proof_sheet =
    record {
      K1 = refl;
      K2 = refl;
      K3 = refl;
      K4 = (refl, refl, refl, refl);
      K5 = ((λ a b c d e f g h i. refl), (λ a b c d f i j. refl));
      K6 = λ a b c d f i j. refl;
      J1 = refl;
      R1 = (refl, refl);
      R2 = refl;
      S1 = (refl, refl);
      S2 = (refl, refl);
      S3 = (refl, refl);
    }
