-- Lists of calls with drains that compute, bytes and all, one for each protocol: drains with nothing there, of what has come, of what was held and
-- released; each lends another output, and copies come late and flipped between them.
use Prim.Native.Nat.{ℕ, ◌*◌, ◌<◌}
use mathlib.Core.Path.{◌≡◌, refl}
use mathlib.Core.List.{List, [], ◌∷◌}
use lib.ListN.{replicate}
use lib.Dec.{lit<}
use native.Mathlib.Omega.{arith}
use Rattle.octets.specs.Octets.{Octets}
use Rattle.octets.proofs.Laws.{below_nil, below_cons}
use Rattle.checksum.specs.Rfc1071.{words, ones_add, ones_sum, checksum}
use Rattle.octets.specs.Flip.{flip}
use Rattle.refusal.specs.Clauses.{any_of}
use Rattle.refusal.specs.Order.{order, or_else, numbered, first_of, verdict, decide}
use Rattle.packet.specs.Format.{header_bytes, datagram, checksum_of, matches}
use Rattle.packet.specs.Reading.{read_checks, header_of, payload_part, payload_of, read_datagram}
use Rattle.store.specs.Slot.{slot_at, slot_bytes, put_slot}
use Rattle.store.specs.Slot as slot
use Rattle.store.specs.Sound.{any_below, sender_slot_broken, sender_slots_broken, receiver_slot_broken, receiver_slots_broken}
use Rattle.store.specs.Numbers.{marked_run, payloads_from}
use Rattle.window.specs.State.{window_broken, store_short}
use Rattle.window.specs.State as window
use Rattle.window.specs.Slots.{fresh, hold, mark_retransmitted, datagram_for, empty_from, release}
use Rattle.window.specs.Sending.{send_checks, send_chunk}
use Rattle.window.specs.Resending.{datagrams_from, mark_from, resend}
use Rattle.window.specs.Acknowledgement.{ack_decision, by_decision}
use Rattle.receiver.specs.State as receiverState
use Rattle.receiver.specs.State.{counts_broken}
use Rattle.receiver.specs.Reply.{ack_after, room_missing, applied}
use Rattle.receiver.specs.Receive.{receive}
use Rattle.selective_repeat.specs.Sender.{acknowledge_one}
use Rattle.selective_repeat.specs.Receiver as sr
use Rattle.stop_and_wait.specs.Receiver as stopAndWaitReceiver
use Rattle.go_back_n.specs.Receiver as goBackNReceiver
use Rattle.protocol.specs.declared.ProtocolType.{ProtocolType}
use Rattle.protocol.specs.declared.ProtocolType.TheVariants.{StopAndWait, GoBackN, SelectiveRepeat}
use Rattle.delivery.specs.Calls.{whole, flipped, send, timeout, to_receiver, to_sender, World, datagrams, step, run}
use Rattle.delivery.specs.Ends.{SingleTimeout, one, GoBackNTimeout, ends}
use Rattle.host_drain.specs.Drain.{drain_receiver}
use Rattle.host_drain.specs.Calls.{drainable, DrainCall, call, drain, drain_step, drain_run, DrainAdmissible, DrainsDone, draining, drain_fresh}

abbrev start : (p : ProtocolType) → ℕ → World (drainable (ends p))
start p w = drain_fresh p w 3 (replicate (w * 1404) 7) (replicate (w * 1404) 7) (0 ∷ [])

abbrev buffer : List ℕ
buffer = replicate 20 9

byte : (n : ℕ) → n < 256 → Octets (n ∷ [])
byte n h = below_cons h (below_nil (lit< tt))

-- what is seen of a list cs from fresh ends: the bytes drained, those in the output lent last, and what is behind them there
pub record Computed (p : ProtocolType) (w : ℕ) (cs : List (DrainCall (ends p).Timeout)) (drained output behind : List ℕ) (receiver_at sender_at : ℕ) : Type 0 where
  pub fair : DrainAdmissible (ends p) (draining p) (start p w) cs
  pub drains_done : DrainsDone (ends p) (draining p) (start p w) cs
  pub drained_is : (drain_run (ends p) (draining p) (start p w) cs).receiver.drained ≡ drained
  pub output_is : (ends p).output (drain_run (ends p) (draining p) (start p w) cs).receiver.receiver ≡ output
  pub behind_is : (ends p).unwritten (drain_run (ends p) (draining p) (start p w) cs).receiver.receiver ≡ behind
  pub receiver_at_lem : (ends p).receiver_base (drain_run (ends p) (draining p) (start p w) cs).receiver.receiver ≡ receiver_at
  pub sender_at_lem : (ends p).sender_base (drain_run (ends p) (draining p) (start p w) cs).sender ≡ sender_at

-- Stop-and-Wait: A comes, is drained and comes again late; B comes flipped, and whole when sent again
abbrev pub stop_and_wait : List (DrainCall SingleTimeout)
stop_and_wait =
    call (send (65 ∷ []) buffer) ∷ call (to_receiver (whole 0) buffer) ∷ drain (8 ∷ 9 ∷ []) ∷ call (to_sender (whole 0)) ∷ call (to_receiver (whole 0) buffer)
    ∷ call (send (66 ∷ []) buffer) ∷ call (to_receiver (flipped 1 10 3) buffer) ∷ call (timeout one buffer) ∷ call (to_receiver (whole 2) buffer) ∷ []

-- Go-Back-N: nothing is drained, then A; B comes into the next output
abbrev pub go_back_n : List (DrainCall GoBackNTimeout)
go_back_n =
    call (send (65 ∷ []) buffer) ∷ call (send (66 ∷ []) buffer) ∷ call (to_receiver (whole 1) buffer) ∷ drain (7 ∷ []) ∷ call (to_receiver (whole 0) buffer)
    ∷ drain (8 ∷ 9 ∷ []) ∷ call (to_receiver (whole 1) buffer) ∷ []

-- Selective Repeat: B is held over a drain, and delivered behind A; both are drained at once
abbrev pub selective_repeat : List (DrainCall ℕ)
selective_repeat =
    call (send (65 ∷ []) buffer) ∷ call (send (66 ∷ []) buffer) ∷ call (to_receiver (whole 1) buffer) ∷ drain (7 ∷ 7 ∷ []) ∷ call (to_receiver (whole 0) buffer)
    ∷ drain (8 ∷ 9 ∷ []) ∷ call (to_receiver (whole 1) buffer) ∷ call (to_sender (whole 0)) ∷ call (to_sender (whole 1)) ∷ []

pub computed : Computed StopAndWait 1 stop_and_wait (65 ∷ []) (66 ∷ []) (9 ∷ []) 2 1
    × Computed GoBackN 2 go_back_n (65 ∷ []) (66 ∷ []) (9 ∷ []) 2 0
    × Computed SelectiveRepeat 2 selective_repeat (65 ∷ 66 ∷ []) [] (8 ∷ 9 ∷ []) 2 2
unfolding words ones_add ones_sum checksum flip any_of order or_else numbered first_of verdict decide header_bytes datagram checksum_of matches read_checks header_of payload_part payload_of read_datagram slot_at slot_bytes put_slot slot.slot_payload any_below sender_slot_broken sender_slots_broken receiver_slot_broken receiver_slots_broken marked_run payloads_from window_broken store_short window.numbers_broken window.state_broken window.counts_broken fresh hold mark_retransmitted datagram_for empty_from release send_checks send_chunk datagrams_from mark_from resend ack_decision by_decision counts_broken ack_after room_missing applied receive acknowledge_one sr.state_broken sr.receiving_broken sr.data_decision sr.decision sr.delivered_bytes datagrams step run stopAndWaitReceiver.decision stopAndWaitReceiver.data_decision goBackNReceiver.decision goBackNReceiver.data_decision receiverState.state_broken drain_receiver drain_step drain_run
computed = (
  record {
    fair = (byte 65 (lit< tt), (lit< tt, (tt, (lit< tt, (lit< tt, (byte 66 (lit< tt), ((lit< tt, lit< tt, lit< tt, (λ e. let z : ◌≡◌ {A = ℕ} 10 6 = e in omega arith), (λ e. let z : ◌≡◌ {A = ℕ} 10 7 = e in omega arith)), (tt, (lit< tt, tt)))))))));
    drains_done = (refl, tt);
    drained_is = refl;
    output_is = refl;
    behind_is = refl;
    receiver_at_lem = refl;
    sender_at_lem = refl;
  },
  record {
    fair = (byte 65 (lit< tt), (byte 66 (lit< tt), (lit< tt, (tt, (lit< tt, (tt, (lit< tt, tt)))))));
    drains_done = (refl, (refl, tt));
    drained_is = refl;
    output_is = refl;
    behind_is = refl;
    receiver_at_lem = refl;
    sender_at_lem = refl;
  },
  record {
    fair = (byte 65 (lit< tt), (byte 66 (lit< tt), (lit< tt, (tt, (lit< tt, (tt, (lit< tt, (lit< tt, (lit< tt, tt)))))))));
    drains_done = (refl, (refl, tt));
    drained_is = refl;
    output_is = refl;
    behind_is = refl;
    receiver_at_lem = refl;
    sender_at_lem = refl;
  },
)
