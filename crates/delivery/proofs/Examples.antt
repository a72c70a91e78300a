-- Lists of calls that compute, bytes and all, one for each protocol: chunks A and B, a first datagram that comes only with a bit flipped, copies
-- that come twice or late, ACKs lost; and a resending of what is then outstanding, with a timeout that finds nothing to send.
use Prim.Native.Nat.{ℕ, zero, suc, ◌+◌, ◌*◌, ◌≤◌, ◌<◌}
use native.Mathlib.Nat.{lt_of_le_of_lt}
use borrow.Author.Tests.{le-ltb}
use mathlib.Core.Path.{◌≡◌, refl}
use mathlib.Core.Bool.{false}
use mathlib.Core.List.{List, [], ◌∷◌, flatten}
use lib.ListN.{length, replicate, get_or, length-replicate}
use lib.Dec.{lit<, lit≤}
use native.Mathlib.Omega.{arith}
use Rattle.bounds.specs.Bounds.{header_size, max_payload, max_datagram}
use Rattle.octets.specs.Octets.{Octets}
use Rattle.octets.proofs.Laws.{below_nil, below_cons}
use Rattle.checksum.specs.Rfc1071.{words, ones_add, ones_sum, checksum}
use Rattle.octets.specs.Flip.{flip}
use Rattle.refusal.specs.Clauses.{any_of}
use Rattle.refusal.specs.Order.{order, or_else, numbered, first_of, verdict, decide}
use Rattle.packet.specs.Format.{header_bytes, datagram, checksum_of, matches}
use Rattle.packet.specs.Reading.{read_checks, header_of, payload_part, payload_of, read_datagram}
use Rattle.store.specs.Slot.{slot_at, slot_bytes, put_slot}
use Rattle.store.specs.Slot as slot
use Rattle.store.specs.Sound.{any_below, sender_slot_broken, sender_slots_broken, receiver_slot_broken, receiver_slots_broken}
use Rattle.store.specs.Numbers.{marked_run, payloads_from}
use Rattle.window.specs.State.{window_broken, store_short}
use Rattle.window.specs.State as window
use Rattle.window.specs.Slots.{fresh, hold, mark_retransmitted, datagram_for, empty_from, release}
use Rattle.window.specs.Sending.{send_checks, send_chunk}
use Rattle.window.specs.Resending.{datagrams_from, mark_from, resend}
use Rattle.window.specs.Acknowledgement.{ack_decision, by_decision}
use Rattle.receiver.specs.State as receiverState
use Rattle.receiver.specs.State.{counts_broken}
use Rattle.receiver.specs.Reply.{ack_after, room_missing, applied}
use Rattle.receiver.specs.Receive.{receive}
use Rattle.selective_repeat.specs.Sender.{acknowledge_one}
use Rattle.selective_repeat.specs.Receiver as sr
use Rattle.stop_and_wait.specs.Receiver as stopAndWaitReceiver
use Rattle.go_back_n.specs.Receiver as goBackNReceiver
use Rattle.protocol.specs.declared.ProtocolType.{ProtocolType}
use Rattle.protocol.specs.declared.ProtocolType.TheVariants.{StopAndWait, GoBackN, SelectiveRepeat}
use Rattle.delivery.specs.Calls.{Call, whole, flipped, send, timeout, to_receiver, to_sender, World, datagrams, step, run, Admissible, fed_by, fed_in}
use Rattle.protocol.specs.PlainMachine.{plain_start, plain_send, plain_data, plain_ack, plain_call, plain_step, plain_run, plain_outstanding, WindowFits}
use Rattle.delivery.specs.Ends.{SingleTimeout, one, GoBackNTimeout, all, earliest, ends, fresh_ends, ReceivingRoom, Made}
use Rattle.delivery.specs.Demand3.{plain_after, resend_start, ResendsAll, Demand3}
use Rattle.refinement.specs.Follows.{slots_read}
use Rattle.delivery.specs.KuroseRoss.{event_by, CallsLikeBook}
use Rattle.delivery.specs.Room.{Suffices, RoomToResend, RetryLeft}
use Rattle.delivery.proofs.Demand3.{demand_3}
use Rattle.delivery.proofs.NotRefused.{sent_within}

abbrev pub start : (p : ProtocolType) → ℕ → ℕ → World (ends p)
start p w limit = fresh_ends p w limit (replicate (w * 1404) 7) (replicate (w * 1404) 7) (0 ∷ 0 ∷ 0 ∷ [])

abbrev pub buffer : List ℕ
buffer = replicate 2820 9

byte : (n : ℕ) → n < 256 → Octets (n ∷ [])
byte n h = below_cons h (below_nil (lit< tt))

sevens : (n i : ℕ) → get_or (replicate n 7) i 0 < 256
sevens zero i = lit< tt
sevens (suc n) zero = lit< tt
sevens (suc n) (suc i) = sevens n i

-- what is seen of a list cs from fresh ends, and of the resending ds after it
pub record Computed (p : ProtocolType) (w limit : ℕ) (cs ds : List (Call (ends p).Timeout)) (output : List ℕ) (receiver_at sender_at : ℕ) : Type 0 where
  pub fair : Admissible (ends p) (start p w limit) cs
  output_is : (ends p).output (run (ends p) (start p w limit) cs).receiver ≡ output
  receiver_at_lem : (ends p).receiver_base (run (ends p) (start p w limit) cs).receiver ≡ receiver_at
  sender_at_lem : (ends p).sender_base (run (ends p) (start p w limit) cs).sender ≡ sender_at
  resending : ResendsAll p w (ends p) (resend_start (ends p) (run (ends p) (start p w limit) cs) (plain_after p w (ends p) (start p w limit) cs)) ds

-- Stop-and-Wait: the first comes again late, after B was sent
abbrev pub stop_and_wait : List (Call SingleTimeout)
stop_and_wait =
    send (65 ∷ []) buffer ∷ to_receiver (flipped 0 10 3) buffer ∷ timeout one buffer ∷ to_receiver (whole 1) buffer ∷ to_sender (whole 0) ∷ send (66 ∷ []) buffer ∷ to_receiver (whole 0) buffer ∷ to_sender (whole 1) ∷ []

-- Go-Back-N: B comes first and is discarded; both are sent again, A comes twice, and its second ACK arrives
abbrev pub go_back_n : List (Call GoBackNTimeout)
go_back_n =
    send (65 ∷ []) buffer ∷ send (66 ∷ []) buffer ∷ to_receiver (whole 1) buffer ∷ to_receiver (flipped 0 10 3) buffer ∷ timeout all buffer ∷ to_receiver (whole 2) buffer ∷ to_receiver (whole 2) buffer
    ∷ to_sender (whole 1) ∷ []

-- Selective Repeat: B comes first, and twice, and is held; A is sent again and comes; its ACK is handed over twice, the others are lost
abbrev pub selective_repeat : List (Call ℕ)
selective_repeat =
    send (65 ∷ []) buffer ∷ send (66 ∷ []) buffer ∷ to_receiver (flipped 0 10 3) buffer ∷ to_receiver (whole 1) buffer ∷ to_receiver (whole 1) buffer
    ∷ timeout 0 buffer ∷ to_receiver (whole 2) buffer ∷ to_sender (whole 2) ∷ to_sender (whole 2) ∷ []

pub stop_and_wait_computed : Computed StopAndWait 1 3 stop_and_wait (timeout one buffer ∷ to_receiver (whole 3) buffer ∷ to_sender (whole 2) ∷ timeout one buffer ∷ []) (65 ∷ []) 1 1
unfolding words ones_add ones_sum checksum flip any_of order or_else numbered first_of verdict decide header_bytes datagram checksum_of matches read_checks header_of payload_part payload_of read_datagram slot_at slot_bytes put_slot slot.slot_payload any_below sender_slot_broken sender_slots_broken receiver_slot_broken receiver_slots_broken marked_run payloads_from window_broken store_short window.numbers_broken window.state_broken window.counts_broken fresh hold mark_retransmitted datagram_for empty_from release send_checks send_chunk datagrams_from mark_from resend ack_decision by_decision counts_broken ack_after room_missing applied receive acknowledge_one sr.state_broken sr.receiving_broken sr.data_decision sr.decision sr.delivered_bytes datagrams step run stopAndWaitReceiver.decision stopAndWaitReceiver.data_decision goBackNReceiver.decision goBackNReceiver.data_decision receiverState.state_broken fed_by fed_in plain_start plain_send plain_data plain_ack plain_call plain_step plain_run plain_outstanding
stop_and_wait_computed = record {
  fair = (byte 65 (lit< tt), ((lit< tt, lit< tt, lit< tt, (λ e. let z : ◌≡◌ {A = ℕ} 10 6 = e in omega arith), (λ e. let z : ◌≡◌ {A = ℕ} 10 7 = e in omega arith)), (tt, (lit< tt, (lit< tt, (byte 66 (lit< tt), (lit< tt, (lit< tt, tt))))))));
  output_is = refl;
  receiver_at_lem = refl;
  sender_at_lem = refl;
  resending = (refl, ((refl, refl, refl), ((refl, refl, refl), (refl, (refl, refl, refl)))));
}

pub go_back_n_computed : Computed GoBackN 2 0 go_back_n (timeout earliest buffer ∷ to_receiver (whole 4) buffer ∷ to_sender (whole 2) ∷ timeout all buffer ∷ []) (65 ∷ []) 1 1
unfolding words ones_add ones_sum checksum flip any_of order or_else numbered first_of verdict decide header_bytes datagram checksum_of matches read_checks header_of payload_part payload_of read_datagram slot_at slot_bytes put_slot slot.slot_payload any_below sender_slot_broken sender_slots_broken receiver_slot_broken receiver_slots_broken marked_run payloads_from window_broken store_short window.numbers_broken window.state_broken window.counts_broken fresh hold mark_retransmitted datagram_for empty_from release send_checks send_chunk datagrams_from mark_from resend ack_decision by_decision counts_broken ack_after room_missing applied receive acknowledge_one sr.state_broken sr.receiving_broken sr.data_decision sr.decision sr.delivered_bytes datagrams step run stopAndWaitReceiver.decision stopAndWaitReceiver.data_decision goBackNReceiver.decision goBackNReceiver.data_decision receiverState.state_broken fed_by fed_in plain_start plain_send plain_data plain_ack plain_call plain_step plain_run plain_outstanding
go_back_n_computed = record {
  fair = (byte 65 (lit< tt), (byte 66 (lit< tt), (lit< tt, ((lit< tt, lit< tt, lit< tt, (λ e. let z : ◌≡◌ {A = ℕ} 10 6 = e in omega arith), (λ e. let z : ◌≡◌ {A = ℕ} 10 7 = e in omega arith)), (tt, (lit< tt, (lit< tt, (lit< tt, tt))))))));
  output_is = refl;
  receiver_at_lem = refl;
  sender_at_lem = refl;
  resending = (refl, ((refl, refl, refl), ((refl, refl, refl), (refl, (refl, refl, refl)))));
}

pub selective_repeat_computed : Computed SelectiveRepeat 2 0 selective_repeat (timeout 0 buffer ∷ timeout 1 buffer ∷ to_receiver (whole 3) buffer ∷ to_sender (whole 3) ∷ []) (65 ∷ 66 ∷ []) 2 1
unfolding words ones_add ones_sum checksum flip any_of order or_else numbered first_of verdict decide header_bytes datagram checksum_of matches read_checks header_of payload_part payload_of read_datagram slot_at slot_bytes put_slot slot.slot_payload any_below sender_slot_broken sender_slots_broken receiver_slot_broken receiver_slots_broken marked_run payloads_from window_broken store_short window.numbers_broken window.state_broken window.counts_broken fresh hold mark_retransmitted datagram_for empty_from release send_checks send_chunk datagrams_from mark_from resend ack_decision by_decision counts_broken ack_after room_missing applied receive acknowledge_one sr.state_broken sr.receiving_broken sr.data_decision sr.decision sr.delivered_bytes datagrams step run stopAndWaitReceiver.decision stopAndWaitReceiver.data_decision goBackNReceiver.decision goBackNReceiver.data_decision receiverState.state_broken fed_by fed_in plain_start plain_send plain_data plain_ack plain_call plain_step plain_run plain_outstanding
selective_repeat_computed = record {
  fair = (byte 65 (lit< tt), (byte 66 (lit< tt), ((lit< tt, lit< tt, lit< tt, (λ e. let z : ◌≡◌ {A = ℕ} 10 6 = e in omega arith), (λ e. let z : ◌≡◌ {A = ℕ} 10 7 = e in omega arith)), (lit< tt, (lit< tt, (tt, (lit< tt, (lit< tt, (lit< tt, tt)))))))));
  output_is = refl;
  receiver_at_lem = refl;
  sender_at_lem = refl;
  resending = (refl, (refl, ((refl, refl, refl), ((refl, refl, refl), (refl, refl, refl)))));
}

-- the theorems speak of such ends
pub made : (p : ProtocolType) (w : ℕ) → window_broken w ≡ false → WindowFits p w → Made p w (replicate (w * 1404) 7) (replicate (w * 1404) 7)
unfolding store_short
made p w bounds window =
    record { in_bounds = bounds; window = window; sending_room = enough; receiving_room = receiving p; octets = record { at = sevens (w * 1404) } }
  where
    enough : store_short (replicate (w * 1404) 7) w ≡ false
    enough = let l = length-replicate {A = ℕ} (w * 1404) 7 in le-ltb (length (replicate (w * 1404) 7)) (w * 1404) (omega arith)

    receiving : (p : ProtocolType) → ReceivingRoom p w (replicate (w * 1404) 7)
    receiving StopAndWait = tt
    receiving GoBackN = tt
    receiving SelectiveRepeat = enough

pub stop_and_wait_made : Made StopAndWait 1 (replicate (1 * 1404) 7) (replicate (1 * 1404) 7)
unfolding window_broken any_of
stop_and_wait_made = made StopAndWait 1 refl refl

pub two_made : (p : ProtocolType) → WindowFits p 2 → Made p 2 (replicate (2 * 1404) 7) (replicate (2 * 1404) 7)
unfolding window_broken any_of
two_made p o = made p 2 refl o

admitted : Demand3 SelectiveRepeat 2 (ends SelectiveRepeat) (start SelectiveRepeat 2 0) selective_repeat
admitted = demand_3 SelectiveRepeat 2 0 (replicate (2 * 1404) 7) (replicate (2 * 1404) 7) (0 ∷ 0 ∷ 0 ∷ []) (two_made SelectiveRepeat tt) selective_repeat selective_repeat_computed.fair

-- and the lists have room enough
room : length buffer ≡ 2820
room = length-replicate {A = ℕ} 2820 9

a_chunk : (1 ≤ max_payload) × (header_size + 1 ≤ length buffer)
a_chunk = (omega arith, omega (arith, room))

an_ack : header_size ≤ length buffer
an_ack = omega (arith, room)

again : (k : ℕ) → k ≤ 2 → k * max_datagram ≤ length buffer
again k h = omega (arith, room)

pub stop_and_wait_suffices : Suffices StopAndWait 1 (start StopAndWait 1 3) stop_and_wait
unfolding flatten
stop_and_wait_suffices = record {
  buffers = (a_chunk, (an_ack, (again 1 (omega arith), (an_ack, (tt, (a_chunk, (an_ack, (tt, tt))))))));
  output = omega arith;
  numbers = lit≤ tt;
  datagrams = lt_of_le_of_lt (sent_within StopAndWait 1 3 _ _ _ stop_and_wait_made stop_and_wait stop_and_wait_computed.fair) (lit< tt);
  calls = lit< tt;
}

pub go_back_n_suffices : Suffices GoBackN 2 (start GoBackN 2 0) go_back_n
unfolding flatten
go_back_n_suffices = record {
  buffers = (a_chunk, (a_chunk, (an_ack, (an_ack, (again 2 (omega arith), (an_ack, (an_ack, (tt, tt))))))));
  output = omega arith;
  numbers = lit≤ tt;
  datagrams = lt_of_le_of_lt (sent_within GoBackN 2 0 _ _ _ (two_made GoBackN tt) go_back_n go_back_n_computed.fair) (lit< tt);
  calls = lit< tt;
}

pub selective_repeat_suffices : Suffices SelectiveRepeat 2 (start SelectiveRepeat 2 0) selective_repeat
unfolding flatten
selective_repeat_suffices = record {
  buffers = (a_chunk, (a_chunk, (an_ack, (an_ack, (an_ack, (again 1 (omega arith), (an_ack, (tt, (tt, tt)))))))));
  output = omega arith;
  numbers = lit≤ tt;
  datagrams = lt_of_le_of_lt (sent_within SelectiveRepeat 2 0 _ _ _ (two_made SelectiveRepeat tt) selective_repeat selective_repeat_computed.fair) (lit< tt);
  calls = lit< tt;
}

-- lists that don't depart from the book
abbrev like_book : {T : Type 0} → T → List (Call T)
like_book t = send (65 ∷ []) buffer ∷ timeout t buffer ∷ to_receiver (whole 0) buffer ∷ to_sender (whole 0) ∷ []

-- what a resending after a list asks for
abbrev pub CanBeResent : (p : ProtocolType) (w limit : ℕ) → List (Call (ends p).Timeout) → Type 0
CanBeResent p w limit cs =
    let v = start p w limit in
    RoomToResend p ((ends p).unwritten v.receiver) (run (ends p) v cs) (plain_after p w (ends p) v cs) (length cs) × RetryLeft p (run (ends p) v cs).sender

pub also_computed : (CallsLikeBook StopAndWait (start StopAndWait 1 3) (like_book one) × CallsLikeBook GoBackN (start GoBackN 1 0) (like_book all))
    × (CanBeResent StopAndWait 1 3 stop_and_wait × CanBeResent GoBackN 2 0 go_back_n × CanBeResent SelectiveRepeat 2 0 selective_repeat)
unfolding flatten words ones_add ones_sum checksum flip any_of order or_else numbered first_of verdict decide header_bytes datagram checksum_of matches read_checks header_of payload_part payload_of read_datagram slot_at slot_bytes put_slot slot.slot_payload any_below sender_slot_broken sender_slots_broken receiver_slot_broken receiver_slots_broken marked_run payloads_from window_broken store_short window.numbers_broken window.state_broken window.counts_broken fresh hold mark_retransmitted datagram_for empty_from release send_checks send_chunk datagrams_from mark_from resend ack_decision by_decision counts_broken ack_after room_missing applied receive acknowledge_one sr.state_broken sr.receiving_broken sr.data_decision sr.decision sr.delivered_bytes datagrams step run stopAndWaitReceiver.decision stopAndWaitReceiver.data_decision goBackNReceiver.decision goBackNReceiver.data_decision receiverState.state_broken fed_by fed_in plain_start plain_send plain_data plain_ack plain_call plain_step plain_run plain_outstanding event_by slots_read
also_computed = (
  ((tt, ((refl, refl), ((λ e. refl), ((λ a b. refl), tt)))), (tt, ((refl, refl), ((λ e. refl), (lit≤ tt, tt))))),
  ((record { output = lit≤ tt; numbers = lit≤ tt; datagrams_few = lit< tt; calls_few = lit< tt }, lit< tt), (record { output = lit≤ tt; numbers = lit≤ tt; datagrams_few = lit< tt; calls_few = lit< tt }, tt), (record { output = lit≤ tt; numbers = lit≤ tt; datagrams_few = lit< tt; calls_few = lit< tt }, tt)),
)
