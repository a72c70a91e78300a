-- The values of what a receiver answers survive the packing: the number of an ACK, how many payloads are held, and the
-- values of a refusal.
use Rattle.std.specs.Prelude.{Err, None, Ok, Option, Result, Some}
use Prim.Native.Nat.{ℕ, ◌+◌, ◌-◌, ◌<◌}
use mathlib.Core.Path.{◌≡◌}
use mathlib.Core.Bool.{Bool, true, false, cond, ◌&&◌}
use mathlib.Core.List.{List, ◌++◌}
use native.Mathlib.Omega.{arith}
use borrow.Author.Tests.{ltb-false}
use lib.Dec.{ltb, leb, eqb}
use Rattle.bounds.specs.Bounds.{seq_num_limit}
use Rattle.octets.specs.Octets.{Octets}
use Rattle.refusal.specs.Order.{held_checks}
use Rattle.refusal.proofs.Laws.{NoneTrue, EachRefusal, none_of}
use Rattle.store.specs.Numbers.{marked_count}
use Rattle.store.proofs.Laws.{count_within}
use Rattle.packet.specs.Reading.{read_datagram, reading_checks}
use Rattle.packet.specs.declared.PacketType.{PacketType}
use Rattle.packet.specs.declared.PacketType.TheVariants as packetType
use Rattle.packet.specs.declared.DatagramReading.{DatagramReading}
use Rattle.packet.specs.declared.DatagramReading.TheVariants as reading
use Rattle.receiver.specs.State as receiverStates
use Rattle.receiver.specs.Reading as receiverReading
use Rattle.receiver.specs.Reading.{reading_of, read_packet}
use Rattle.receiver.specs.declared.PacketReading.{PacketReading}
use Rattle.receiver.specs.declared.PacketReading.TheVariants as packet_reading
use Rattle.receiver.specs.Receive as receiver
use Rattle.receiver.specs.Receive.{ReceiveExit, Reception, receive_checks, refused_exit, received_exit}
use Rattle.receiver.specs.Reply.{answer_of}
use Rattle.stop_and_wait.specs.Receiver as stopAndWaitReceiver
use Rattle.stop_and_wait.specs.declared.StopAndWaitReceiver.{StopAndWaitReceiver}
use Rattle.stop_and_wait.specs.declared.StopAndWaitDecision.{StopAndWaitDecision}
use Rattle.go_back_n.specs.Receiver as goBackNReceiver
use Rattle.go_back_n.specs.declared.GoBackNReceiver.{GoBackNReceiver}
use Rattle.go_back_n.specs.declared.GoBackNDecision.{GoBackNDecision}
use Rattle.selective_repeat.specs.Receiver as sr
use Rattle.selective_repeat.proofs.Laws.{ready}
use Rattle.selective_repeat.specs.declared.SelectiveRepeatDecision.{SelectiveRepeatDecision}
use Rattle.session.specs.declared.ReceiverState.{ReceiverState}
use Rattle.session.specs.declared.ReceiverState.TheVariants as receiverState
use Rattle.session.specs.Receiving.{ReceiverEnd, handle_packet_in, handle_packet}
use Rattle.host_answer.specs.Answer.{value_limit, ValuesFit}
use Rattle.host_answer.proofs.Laws.{of_answer, full_fits, numbers_fits, counts_fits, state_fits, CountFits}
use Rattle.host_ends.specs.Receiver.{none_held, buffered_count_in}
use Rattle.host_ends.proofs.Fits.{ReadingFits, reading_fits}
use Rattle.refusal.specs.declared.Refusal.{Refusal}

abbrev pub ReceiveFits : Result (Option ℕ) Refusal → Type 0
ReceiveFits (Ok (Some n)) = n < value_limit
ReceiveFits (Ok None) = Unit {0}
ReceiveFits (Err r) = ValuesFit r

abbrev ReplyFits : Option ℕ → Type 0
ReplyFits (Some n) = n < value_limit
ReplyFits None = Unit {0}

answer_fits : (y : Option ℕ) → ReplyFits y → ReceiveFits (answer_of y)
answer_fits (Some n) h = h
answer_fits None h = tt

given_fit : (x : Result DatagramReading Refusal) (a b : Bool) → ReadingFits x → EachRefusal (λ r. ReceiveFits (Err r)) (reading_checks x ++ held_checks a b)
given_fit (Ok (reading.Valid p)) a b h = (state_fits, (counts_fits, tt))
given_fit (Ok (reading.Corrupted p)) a b h = (state_fits, (counts_fits, tt))
given_fit (Err r) a b h = (h, (state_fits, (counts_fits, tt)))

not_broken : (x : Result DatagramReading Refusal) (a b : Bool) → NoneTrue (reading_checks x ++ held_checks a b) → a ≡ false
not_broken (Ok (reading.Valid p)) a b none = none.0
not_broken (Ok (reading.Corrupted p)) a b none = none.0
not_broken (Err r) a b none = none.1.0

-- where the reply of a state that isn't broken fits
receive_fits : {R : Type 0} (x : Reception R) (raw output ack : List ℕ) → Octets raw → (x.state_broken ≡ false → ReplyFits x.decision.reply) → ReceiveFits (receiver.receive x raw output ack).answer
unfolding receiver.receive
receive_fits {R} x raw output ack o low =
    of_answer (λ (y : ReceiveExit R). ReceiveFits y.answer) (receive_checks x raw output ack) (λ r. refused_exit x output ack (Err r)) (received_exit x output ack)
    (full_fits, (numbers_fits, given_fit (read_datagram raw) x.state_broken x.counts_broken (reading_fits raw o)))
    (λ none. answer_fits x.decision.reply (low (not_broken (read_datagram raw) x.state_broken x.counts_broken none.1.1)))

-- the number of Data or of a Fin
abbrev PacketFits : PacketReading → Type 0
PacketFits (packet_reading.Data n) = n < value_limit
PacketFits (packet_reading.Fin n) = n < value_limit
PacketFits packet_reading.Ack = Unit {0}
PacketFits packet_reading.Corrupted = Unit {0}

by_type_fits : (t : PacketType) (n : ℕ) → n < value_limit → PacketFits (receiverReading.by_type t n)
by_type_fits packetType.Data n h = h
by_type_fits packetType.Ack n h = tt
by_type_fits packetType.Fin n h = h

of_reading_fits : (x : Result DatagramReading Refusal) → ReadingFits x → PacketFits (reading_of x)
of_reading_fits (Ok (reading.Valid p)) h = by_type_fits p.pkt_type p.seq_num h
of_reading_fits (Ok (reading.Corrupted p)) h = tt
of_reading_fits (Err r) h = tt

-- a decision by tests, each of its replies fits
either_reply : {D : Type 0} (replyOf : D → Option ℕ) (b : Bool) (x y : D) → ReplyFits (replyOf x) → ReplyFits (replyOf y) → ReplyFits (replyOf (cond b x y))
either_reply replyOf true x y h k = h
either_reply replyOf false x y h k = k

base_low : (base filled : ℕ) (output : List ℕ) → receiverStates.state_broken base filled output ≡ false → base - 1 < value_limit
unfolding receiverStates.state_broken
base_low base filled output e = let low = ltb-false seq_num_limit base (none_of _ e).0 in omega (arith, low)

single_reply : (r : StopAndWaitReceiver) (h : PacketReading) → PacketFits h → r.expected_seq - 1 < value_limit → ReplyFits (stopAndWaitReceiver.decision r h).decision.reply
unfolding stopAndWaitReceiver.decision stopAndWaitReceiver.data_decision
single_reply r (packet_reading.Data n) h k =
    let reply_of : StopAndWaitDecision → Option ℕ = λ d. d.decision.reply in
    either_reply reply_of (eqb n r.expected_seq) _ _ h (either_reply reply_of (ltb n r.expected_seq) _ _ h k)
single_reply r (packet_reading.Fin n) h k = h
single_reply r packet_reading.Ack h k = tt
single_reply r packet_reading.Corrupted h k = tt

cumulative_reply : (r : GoBackNReceiver) (h : PacketReading) → PacketFits h → r.expected_seq - 1 < value_limit → ReplyFits (goBackNReceiver.decision r h).decision.reply
unfolding goBackNReceiver.decision goBackNReceiver.data_decision
cumulative_reply r (packet_reading.Data n) h k =
    let reply_of : GoBackNDecision → Option ℕ = λ d. d.decision.reply in
    either_reply reply_of (eqb n r.expected_seq) _ _ h (either_reply reply_of (eqb r.expected_seq 0) _ _ tt k)
cumulative_reply r (packet_reading.Fin n) h k = h
cumulative_reply r packet_reading.Ack h k = tt
cumulative_reply r packet_reading.Corrupted h k = tt

selective_data : (v : sr.Receiver) (n : ℕ) → n < value_limit → ReplyFits (sr.data_decision v n).decision.reply
unfolding sr.data_decision
selective_data v n h =
    let reply_of : SelectiveRepeatDecision → Option ℕ = λ d. d.decision.reply in
    let w = v.state.window_size in
    let b = v.state.recv_base in
    let above = cond (sr.held v n) (sr.duplicate v n) (sr.out_of_order v n) in
    let below = cond (leb (b - w) n && ltb n b) (sr.duplicate v n) (sr.unanswered v.state) in
    let above_fits = either_reply reply_of (sr.held v n) (sr.duplicate v n) (sr.out_of_order v n) h h in
    let below_fits = either_reply reply_of (leb (b - w) n && ltb n b) (sr.duplicate v n) (sr.unanswered v.state) h tt in
    either_reply reply_of (eqb n b) (sr.in_order v n) (cond (ltb b n && ltb n (b + w)) above below) h (either_reply reply_of (ltb b n && ltb n (b + w)) above below above_fits below_fits)

selective_reply : (v : sr.Receiver) (h : PacketReading) → PacketFits h → ReplyFits (sr.decision v h).decision.reply
unfolding sr.decision
selective_reply v (packet_reading.Data n) h = selective_data (sr.counted v) n h
selective_reply v (packet_reading.Fin n) h = h
selective_reply v packet_reading.Ack h = tt
selective_reply v packet_reading.Corrupted h = tt

module _ (store raw output ack : List ℕ) (o : Octets raw) where
  abbrev read : PacketFits (read_packet raw)
  read = of_reading_fits (read_datagram raw) (reading_fits raw o)

  packet_fits_in : (x : ReceiverState) → ReceiveFits (handle_packet_in x store raw output ack).answer
  packet_fits_in (receiverState.StopAndWait r) =
      receive_fits _ raw output ack o (λ e. single_reply r (read_packet raw) read (base_low r.expected_seq r.filled output e))
  packet_fits_in (receiverState.GoBackN r) =
      receive_fits _ raw output ack o (λ e. cumulative_reply r (read_packet raw) read (base_low r.expected_seq r.filled output e))
  packet_fits_in (receiverState.SelectiveRepeat r) = receive_fits _ raw output ack o (λ e. selective_reply (sr.receiver r store) (read_packet raw) read)

pub packet_fits : (v : ReceiverEnd) (raw output ack : List ℕ) → Octets raw → ReceiveFits (handle_packet v raw output ack).answer
unfolding handle_packet
packet_fits v raw output ack o = packet_fits_in v.store raw output ack o v.receiver.state

none_held_fits : (base : ℕ) (counts : Bool) → CountFits (none_held base counts)
unfolding none_held
none_held_fits base counts = of_answer CountFits (held_checks (ltb seq_num_limit base) counts) Err (Ok 0) (state_fits, (counts_fits, tt)) (λ none. omega arith)

pub buffered_count_fits : (x : ReceiverState) (store : List ℕ) → CountFits (buffered_count_in x store)
unfolding buffered_count_in sr.buffered_count
buffered_count_fits (receiverState.StopAndWait r) store = none_held_fits _ _
buffered_count_fits (receiverState.GoBackN r) store = none_held_fits _ _
buffered_count_fits (receiverState.SelectiveRepeat r) store =
    let w = r.window_size in
    of_answer CountFits (held_checks (sr.state_broken r store) (sr.counters_broken r)) Err (Ok (marked_count 1 store w r.recv_base w)) (state_fits, (counts_fits, tt))
    (λ none.
    let few = count_within 1 store w r.recv_base w in
    let small = (ready r store none.0).small in
    omega (arith, few, small))
