-- The definitions on short lists of calls, and on short histories of readings, the latest first.
use Rattle.std.specs.Prelude.{Err, Ok, Some, true}
use Prim.Native.Nat.{ℕ}
use mathlib.Core.Path.{◌≡◌, refl}
use mathlib.Core.List.{List, [], ◌∷◌}
use mathlib.Core.Bool.{false}
use lib.ListN.{replicate}
use lib.Dec.{lit<}
use Rattle.refusal.specs.Clauses.{any_of}
use Rattle.refusal.specs.Order.{order, or_else, numbered, first_of, verdict, decide}
use Rattle.refusal.specs.declared.Refusal.TheVariants.{Full}
use Rattle.packet.specs.Format.{header_bytes, datagram}
use Rattle.store.specs.Slot.{slot_at, slot_bytes, put_slot, slot_payload}
use Rattle.store.specs.Sound.{any_below, sender_slot_broken, sender_slots_broken}
use Rattle.window.specs.State.{window_broken, store_short, numbers_broken, state_broken, counts_broken}
use Rattle.window.specs.Slots.{fresh, hold, mark_retransmitted, datagram_for}
use Rattle.window.specs.Sending.{send_checks, send_chunk}
use Rattle.window.specs.Resending.{datagrams_from, mark_from, resend}
use Rattle.receiver.specs.State as receiver
use Rattle.receiver.specs.Receive.{receive_exit}
use Rattle.receiver.specs.declared.PacketReading.{PacketReading}
use Rattle.receiver.specs.declared.PacketReading.TheVariants.{Data, Fin, Corrupted}
use Rattle.stop_and_wait.specs.Receiver as stop_and_wait
use Rattle.go_back_n.specs.Receiver as go_back_n
use Rattle.delivery.specs.Calls.{Call, datagrams, run}
use Rattle.delivery.specs.Demand3.{plain_after, resend_start}
use Rattle.protocol.specs.PlainMachine.{WindowFits}
use Rattle.protocol.specs.declared.ProtocolType.{ProtocolType}
use Rattle.protocol.specs.declared.ProtocolType.TheVariants.{StopAndWait, GoBackN, SelectiveRepeat}
use Rattle.delivery.specs.Ends.{GoBackNTimeout, all, ends}
use Rattle.delivery.specs.Room.{NoneRefused}
use Rattle.delivery.proofs.Examples as delivery
use Rattle.delivery.specs.AnyBytes.{SenderCall, send, timeout}
use Rattle.tallies.specs.Readings.{count, expected, noted}
use Rattle.tallies.specs.Receivers as receivers
use Rattle.tallies.specs.Receivers.{readings_with, stop_and_wait_after, go_back_nAfter, selective_repeat_after}
use Rattle.tallies.specs.Senders as senders
use Rattle.tallies.specs.Senders.{Answered, sent, resent, acknowledged, sent_by, resent_by, total, retries_from, retries, go_back_nSender}
use Rattle.tallies.proofs.NoneRefused.{none_refused}
use Rattle.tallies.proofs.HandOvers.{Completed}
use Rattle.tallies.proofs.SomeResending.{some_resending}
use Rattle.tallies.proofs.Limits.{go_back_n_sender_no_8, go_back_n_receiver_no_8}

-- a chunk sent; two datagrams of ten bytes sent again; an ACK accepted, one that isn't; a send refused
abbrev chunk : Answered
chunk = sent (Ok (Some 10)) (replicate 10 0)

abbrev two_again : Answered
two_again = resent (Ok (Some 20)) (replicate 25 0)

abbrev accepted : Answered
accepted = acknowledged (Ok true)

abbrev not_accepted : Answered
not_accepted = acknowledged (Ok false)

abbrev refused_send : Answered
refused_send = sent (Err Full) (replicate 10 0)

abbrev answers_given : List Answered
answers_given = chunk ∷ two_again ∷ accepted ∷ two_again ∷ not_accepted ∷ refused_send ∷ []

pub sent_total : total sent_by answers_given ≡ 5
unfolding total datagrams
sent_total = refl

pub resent_total : total resent_by answers_given ≡ 4
unfolding total datagrams
resent_total = refl

pub since_the_ack : retries answers_given ≡ 2
unfolding retries_from datagrams
since_the_ack = refl

pub since_the_send : retries (two_again ∷ chunk ∷ two_again ∷ []) ≡ 2
unfolding retries_from datagrams
since_the_send = refl

-- a refused call leaves no reading
pub refused_none : (raw : List ℕ) (hs : List PacketReading) → readings_with (receive_exit (Err Full) stop_and_wait.new_receiver [] []) raw hs ≡ hs
refused_none raw hs = refl

-- Stop-and-Wait: 0 in order, 0 again, 5 too new, one corrupted, 1 in order, a Fin
pub stop_and_wait_readings : stop_and_wait_after (Fin 9 ∷ Data 1 ∷ Corrupted ∷ Data 5 ∷ Data 0 ∷ Data 0 ∷ []) 0 ≡ stop_and_wait.state 2 0 6 1 1
unfolding expected count
stop_and_wait_readings = refl

-- Go-Back-N: 1 before the first, 0 in order, 0 again, 7 too new
pub go_back_n_readings : go_back_nAfter (Data 7 ∷ Data 0 ∷ Data 0 ∷ Data 1 ∷ []) 0 ≡ go_back_n.state 1 0 4 3 2
unfolding expected count
go_back_n_readings = refl

-- Selective Repeat, window 2: 1 held, 1 again, 3 outside the window, 0 delivered with 1, 0 again; then 2 delivered, and 0 too old
pub selective_repeat_readings : selective_repeat_after 2 (Data 0 ∷ Data 2 ∷ Data 0 ∷ Data 0 ∷ Data 3 ∷ Data 1 ∷ Data 1 ∷ []) 0 ≡ record { window_size = 2; recv_base = 3; filled = 0; total_received = 7; buffered_out_of_order = 1; duplicates_count = 2 }
unfolding noted count
selective_repeat_readings = refl

-- ---- the laws on line 8, applied
abbrev store : List ℕ
store = replicate 1404 7

-- Go-Back-N: a chunk, and all outstanding sent again
abbrev sendings : List (SenderCall GoBackNTimeout)
sendings = send (65 ∷ []) (replicate 11 0) ∷ timeout all (replicate 11 0) ∷ []

two_written : total sent_by (senders.answers go_back_nSender (fresh 1 store) sendings) ≡ 2
unfolding total senders.answers senders.after_calls datagrams any_of order or_else numbered first_of verdict decide header_bytes datagram slot_at slot_bytes put_slot slot_payload any_below sender_slot_broken sender_slots_broken window_broken store_short numbers_broken state_broken counts_broken fresh hold mark_retransmitted datagram_for send_checks send_chunk datagrams_from mark_from resend
two_written = refl

pub sendings_no_8 : counts_broken (senders.after_calls go_back_nSender (fresh 1 store) sendings).window ≡ false
sendings_no_8 = go_back_n_sender_no_8 store 1 sendings (rw two_written (lit< tt))

-- a receiver handed any two datagrams
pub two_received_no_8 : (c d : receivers.Call) → let r = receivers.after_calls go_back_n.handle_packet go_back_n.new_receiver (c ∷ d ∷ []) in
    receiver.counts_broken r.total_received r.discarded_out_of_order r.duplicate_acks_sent ≡ false
two_received_no_8 c d = go_back_n_receiver_no_8 (c ∷ d ∷ []) (lit< tt)

-- ---- lists in which no call is refused
pub lists_not_refused : NoneRefused (ends StopAndWait) (delivery.start StopAndWait 1 3) delivery.stop_and_wait × NoneRefused (ends GoBackN) (delivery.start GoBackN 2 0) delivery.go_back_n
    × NoneRefused (ends SelectiveRepeat) (delivery.start SelectiveRepeat 2 0) delivery.selective_repeat
lists_not_refused = (
  none_refused StopAndWait 1 3 _ _ _ delivery.stop_and_wait_made delivery.stop_and_wait (delivery.stop_and_wait_computed).fair delivery.stop_and_wait_suffices,
  none_refused GoBackN 2 0 _ _ _ (delivery.two_made GoBackN tt) delivery.go_back_n (delivery.go_back_n_computed).fair delivery.go_back_n_suffices,
  none_refused SelectiveRepeat 2 0 _ _ _ (delivery.two_made SelectiveRepeat tt) delivery.selective_repeat (delivery.selective_repeat_computed).fair delivery.selective_repeat_suffices,
)

-- ---- lists after which a resending exists
abbrev CanResend : (p : ProtocolType) (w limit : ℕ) → WindowFits p w → List (Call (ends p).Timeout) → Type 0
CanResend p w limit o cs =
    let v = delivery.start p w limit in
    Completed p w o ((ends p).unwritten v.receiver) (resend_start (ends p) (run (ends p) v cs) (plain_after p w (ends p) v cs))

pub lists_resent : CanResend StopAndWait 1 3 (delivery.stop_and_wait_made).window delivery.stop_and_wait × CanResend GoBackN 2 0 tt delivery.go_back_n
    × CanResend SelectiveRepeat 2 0 tt delivery.selective_repeat
lists_resent = (
  some_resending StopAndWait 1 3 _ _ _ delivery.stop_and_wait_made delivery.stop_and_wait (delivery.stop_and_wait_computed).fair (delivery.also_computed).1.0.0 (delivery.also_computed).1.0.1,
  some_resending GoBackN 2 0 _ _ _ (delivery.two_made GoBackN tt) delivery.go_back_n (delivery.go_back_n_computed).fair (delivery.also_computed).1.1.0 (delivery.also_computed).1.1.1,
  some_resending SelectiveRepeat 2 0 _ _ _ (delivery.two_made SelectiveRepeat tt) delivery.selective_repeat (delivery.selective_repeat_computed).fair (delivery.also_computed).1.2.0 (delivery.also_computed).1.2.1,
)
