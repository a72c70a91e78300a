-- What a datagram leaves: a receiving side as good as before it, with each counter at most one higher.
use Rattle.std.specs.Prelude.{Err, None, Ok, Option, Result, Some}
use Prim.Native.Nat.{ℕ, ◌+◌, ◌≤◌}
use mathlib.Core.Path.{◌≡◌, refl, sym, ap, ◌∙◌, subst}
use mathlib.Core.Bool.{Bool, true, false, cond, false≢true}
use mathlib.Core.List.{List, [], append-nil}
use native.Mathlib.Omega.{arith}
use lib.ListN.{length}
use lib.Dec.{ltb}
use lib.Ieee.{Float}
use Rattle.bounds.specs.Bounds.{max_datagram, max_duration}
use Rattle.packet.specs.Format.{new_packet, made}
use Rattle.packet.specs.Reading.{read_datagram}
use Rattle.packet.specs.declared.PacketType.TheVariants as packetType
use Rattle.packet.proofs.Laws.{made_length}
use Rattle.refusal.specs.declared.Refusal.{Refusal}
use Rattle.schedule.specs.State.{copies}
use Rattle.notes.specs.Notes.{SegMetas, mark_ack_scheduled, ScheduledBelow}
use Rattle.notes.proofs.Laws.{mark_length, mark_count, scheduled_mark}
use Rattle.path.specs.Direction.{Direction, Good}
use Rattle.path.specs.Path.{left_by_carry, carry, stop_of, CanCarry}
use Rattle.path.specs.declared.Stop.TheVariants as stop
use Rattle.path.proofs.Laws.{granted, copy_bytes, carried_on, Fits, carries, stops, stop_same, Keeps, carry_good, carry_keeps, EachWaiting, carry_each}
use Rattle.session.specs.Receiving.{receiver_end, base, is_cumulative}
use Rattle.session.specs.GoodReceiver.{GoodReceiver}
use Rattle.session.specs.declared.Receiver.{Receiver}
use Rattle.session.proofs.Laws.{Rises, packet_rises, packet_lengths, packet_good, answered_buffer, answered_buffer_lem}
use Rattle.receiving.specs.Receiving.{Inbound, inbound, new_side, ForwardExit, forward_exit, ack_counted, any_copies, submit_ack, is_data, gbn_duplicate, delivered, ack_buffer, handled, received, on_forward}
use Rattle.receiving.specs.Good.{GoodInbound, CanOnForward}
use Rattle.receiving.specs.declared.ReceivingSide.{ReceivingSide}
use Rattle.receiving.proofs.Calls.{new_duplicates_lem, absorb_either}
use Rattle.schedule.specs.declared.Deliveries.{Deliveries}
use Rattle.path.specs.declared.Stop.{Stop}

-- ---- Data
abbrev pub RisesByOne : ℕ → ℕ → Type 0
RisesByOne n m = (n ≤ m) × (m ≤ n + 1)

-- counted, and not yet absorbed
abbrev pub counted : List ℕ → Inbound → ReceivingSide
counted raw b = delivered b.side (gbn_duplicate b.side.receiver (read_datagram raw)) (handled raw b).receiver.receiver

pub rises : (raw : List ℕ) (b : Inbound) → Rises b.side.receiver (handled raw b).receiver.receiver
rises raw b = packet_rises (receiver_end b.side.receiver b.store) raw b.output ack_buffer

-- the ACK that goes out: the datagram that the packet layer makes
pub reply_bytes : (raw : List ℕ) (b : Inbound) (n : ℕ) → (handled raw b).answer ≡ Ok (Some n) → (handled raw b).ack ≡ made (new_packet n packetType.Ack) []
reply_bytes raw b n e = answered_buffer_lem (receiver_end b.side.receiver b.store) raw b.output ack_buffer ∙ ap (λ (a : Result (Option ℕ) Refusal). answered_buffer a ack_buffer) e ∙ append-nil (made (new_packet n packetType.Ack) [])

module _ (total now : ℕ) (raw : List ℕ) (b : Inbound) where
  -- the receiver's part is what it made of the datagram; notes and line are untouched
  pub record Received : Type 0 where
    pub receiver : (received total now raw b).side.receiver ≡ (handled raw b).receiver.receiver
    pub store : (received total now raw b).store ≡ (handled raw b).receiver.store
    pub output : (received total now raw b).output ≡ (handled raw b).output
    pub metas : (received total now raw b).metas ≡ b.metas
    pub reverse : (received total now raw b).reverse ≡ b.reverse
    pub datas : (received total now raw b).side.data_received ≡ b.side.data_received + 1
    pub acks : (received total now raw b).side.ack_sent ≡ b.side.ack_sent
    pub duplicates : RisesByOne b.side.duplicate_data (received total now raw b).side.duplicate_data
    pub higher : base b.side.receiver ≤ base (received total now raw b).side.receiver

  pub data_received : Received
  unfolding received
  data_received =
      let more = new_duplicates_lem b.side.receiver (handled raw b).receiver.receiver (read_datagram raw) (rises raw b) in
      record {
        receiver = absorb_either total now (counted raw b) (λ x. x.receiver ≡ (handled raw b).receiver.receiver) refl refl;
        store = refl;
        output = refl;
        metas = refl;
        reverse = refl;
        datas = absorb_either total now (counted raw b) (λ x. x.data_received ≡ b.side.data_received + 1) refl refl;
        acks = absorb_either total now (counted raw b) (λ x. x.ack_sent ≡ b.side.ack_sent) refl refl;
        duplicates = absorb_either total now (counted raw b) (λ x. RisesByOne b.side.duplicate_data x.duplicate_data) (omega arith, omega (arith, more)) (omega arith, omega (arith, more));
        higher = absorb_either total now (counted raw b) (λ x. base b.side.receiver ≤ base x.receiver) (rises raw b).higher (rises raw b).higher;
      }

  pub received_good : (rolls : List Float) → GoodInbound b rolls → GoodInbound (received total now raw b) rolls
  unfolding received
  received_good rolls g =
      let after : ReceivingSide → Inbound = λ x. inbound x (handled raw b).receiver.store (handled raw b).output b.metas b.reverse in
      let more = new_duplicates_lem b.side.receiver (handled raw b).receiver.receiver (read_datagram raw) (rises raw b) in
      let good : GoodInbound (after (counted raw b)) rolls =
      record {
        receiver = packet_good (receiver_end b.side.receiver b.store) raw b.output ack_buffer b.side.data_received g.receiver;
        acks = omega (arith, g.acks);
        duplicates = omega (arith, g.duplicates, more);
        noted = g.noted;
        scheduled = g.scheduled;
        reverse = g.reverse;
      } in
      absorb_either total now (counted raw b) (λ x. GoodInbound (after x) rolls) good (record { receiver = good.receiver; acks = good.acks; duplicates = good.duplicates; noted = good.noted; scheduled = good.scheduled; reverse = good.reverse })

-- ---- an ACK
module _ (rolls : List Float) (now seq : ℕ) (wire : List ℕ) (b : Inbound) where
  abbrev pub marked_metas : SegMetas
  marked_metas = mark_ack_scheduled b.metas seq (is_cumulative b.side.receiver)

  -- the run ends at it: it is counted, and nothing else has changed
  pub submit_stops : (a : Result (Deliveries × ℕ) Stop) → stops a ≡ true → (carry b.reverse rolls true now wire).result.answer ≡ a → submit_ack rolls now seq wire b ≡ forward_exit (inbound (ack_counted b.side) b.store b.output b.metas b.reverse) (stop_of a)
  unfolding submit_ack
  submit_stops a s e = rw (stop_same b.reverse rolls true now wire a s e, none a s)
    where
      none : (a : Result (Deliveries × ℕ) Stop) → stops a ≡ true → any_copies a ≡ false
      none (Err why) s = refl
      none (Ok (ds, n)) s = absurd (false≢true s)

  -- it is carried; where the line drops it, nothing is marked
  pub submit_carries : Fits b.reverse rolls true now wire → submit_ack rolls now seq wire b ≡ forward_exit (inbound (ack_counted b.side) b.store b.output (cond (ltb 0 (copies (granted b.reverse rolls))) marked_metas b.metas) (carried_on b.reverse rolls now wire)) (None)
  unfolding submit_ack
  submit_carries f = rw (carries b.reverse rolls true now wire f)

  -- what it leaves beside the answer
  pub record Submitted : Type 0 where
    pub side : (submit_ack rolls now seq wire b).inbound.side ≡ ack_counted b.side
    pub store : (submit_ack rolls now seq wire b).inbound.store ≡ b.store
    pub output : (submit_ack rolls now seq wire b).inbound.output ≡ b.output
    pub reverse : (submit_ack rolls now seq wire b).inbound.reverse ≡ left_by_carry (carry b.reverse rolls true now wire)
    pub stop : (submit_ack rolls now seq wire b).stop ≡ stop_of (carry b.reverse rolls true now wire).result.answer
    pub count : (submit_ack rolls now seq wire b).inbound.metas.notes.count ≡ b.metas.notes.count
    pub rows : length (submit_ack rolls now seq wire b).inbound.metas.rows ≡ length b.metas.rows

  pub metas_either : (P : SegMetas → Type 0) → P marked_metas → P b.metas → P (submit_ack rolls now seq wire b).inbound.metas
  unfolding submit_ack
  metas_either P h k = either (any_copies (carry b.reverse rolls true now wire).result.answer)
    where
      either : (t : Bool) → P (cond t marked_metas b.metas)
      either true = h
      either false = k

  pub ack_submitted : Submitted
  unfolding submit_ack
  ack_submitted =
      record {
        side = refl;
        store = refl;
        output = refl;
        reverse = refl;
        stop = refl;
        count = metas_either (λ m. m.notes.count ≡ b.metas.notes.count) (mark_count b.metas seq (is_cumulative b.side.receiver)) refl;
        rows = metas_either (λ m. length m.rows ≡ length b.metas.rows) (mark_length b.metas seq (is_cumulative b.side.receiver)) refl;
      }

  pub submit_good : GoodInbound b rolls → b.side.ack_sent + 1 ≤ b.side.data_received → now ≤ max_duration → length wire ≤ max_datagram → GoodInbound (submit_ack rolls now seq wire b).inbound rolls
  unfolding submit_ack
  submit_good g room time short =
      record {
        receiver = g.receiver;
        acks = room;
        duplicates = g.duplicates;
        noted = rw (ack_submitted.count, ack_submitted.rows) g.noted;
        scheduled = metas_either ScheduledBelow (scheduled_mark b.metas seq (is_cumulative b.side.receiver) g.noted g.scheduled) g.scheduled;
        reverse = carry_good b.reverse rolls true now wire (record { good = g.reverse; in_time = time; short = short });
      }

-- ---- a datagram
-- no counter falls, and none rises by more than one
pub record CountsRise (x after : ReceivingSide) : Type 0 where
  pub datas : RisesByOne x.data_received after.data_received
  pub acks : RisesByOne x.ack_sent after.ack_sent
  pub duplicates : RisesByOne x.duplicate_data after.duplicate_data

pub record InboundKeeps (b after : Inbound) : Type 0 where
  pub store : length after.store ≡ length b.store
  pub output : length after.output ≡ length b.output
  pub count : after.metas.notes.count ≡ b.metas.notes.count
  pub rows : length after.metas.rows ≡ length b.metas.rows
  pub reverse : Keeps b.reverse after.reverse

module _ (rolls : List Float) (total now : ℕ) (raw : List ℕ) (b : Inbound) where
  pub forward_dropped : is_data (read_datagram raw) ≡ false → on_forward rolls total now raw b ≡ forward_exit b (None)
  unfolding on_forward
  forward_dropped h = rw h

  pub forward_silent : is_data (read_datagram raw) ≡ true → (handled raw b).answer ≡ Ok None → on_forward rolls total now raw b ≡ forward_exit (received total now raw b) (None)
  unfolding on_forward
  forward_silent h e = rw (h, e)

  pub forward_refused : (r : Refusal) → is_data (read_datagram raw) ≡ true → (handled raw b).answer ≡ Err r → on_forward rolls total now raw b ≡ forward_exit (received total now raw b) (None)
  unfolding on_forward
  forward_refused r h e = rw (h, e)

  pub forward_acknowledged : (n : ℕ) → is_data (read_datagram raw) ≡ true → (handled raw b).answer ≡ Ok (Some n) → on_forward rolls total now raw b ≡ submit_ack rolls now n (made (new_packet n packetType.Ack) []) (received total now raw b)
  unfolding on_forward
  forward_acknowledged n h e = rw (h, e, reply_bytes raw b n e)

  -- whatever holds of these exits holds of the call's
  pub forward_either : (P : ForwardExit → Type 0) → (is_data (read_datagram raw) ≡ false → P (forward_exit b (None))) → (is_data (read_datagram raw) ≡ true → P (forward_exit (received total now raw b) (None)))
      → (is_data (read_datagram raw) ≡ true → (n : ℕ) → (handled raw b).answer ≡ Ok (Some n) → P (submit_ack rolls now n (made (new_packet n packetType.Ack) []) (received total now raw b)))
      → P (on_forward rolls total now raw b)
  forward_either P dropped silent acked = by_reading_lem (is_data (read_datagram raw)) refl
    where
      by_answer : is_data (read_datagram raw) ≡ true → (a : Result (Option ℕ) Refusal) → (handled raw b).answer ≡ a → P (on_forward rolls total now raw b)
      by_answer h (Ok None) e = subst P (sym (forward_silent h e)) (silent h)
      by_answer h (Err r) e = subst P (sym (forward_refused r h e)) (silent h)
      by_answer h (Ok (Some n)) e = subst P (sym (forward_acknowledged n h e)) (acked h n e)

      by_reading_lem : (t : Bool) → is_data (read_datagram raw) ≡ t → P (on_forward rolls total now raw b)
      by_reading_lem true h = by_answer h (handled raw b).answer refl
      by_reading_lem false h = subst P (sym (forward_dropped h)) (dropped h)

  -- Data is counted and delivered, whatever becomes of its ACK
  pub record Delivers (x : Inbound) : Type 0 where
    pub receiver : receiver_end x.side.receiver x.store ≡ (handled raw b).receiver
    pub output : x.output ≡ (handled raw b).output
    pub datas : x.side.data_received ≡ b.side.data_received + 1

  pub forward_delivers : is_data (read_datagram raw) ≡ true → Delivers (on_forward rolls total now raw b).inbound
  unfolding submit_ack received
  forward_delivers t =
      let d = data_received total now raw b in
      forward_either (λ (x : ForwardExit). Delivers x.inbound) (λ h. absurd (false≢true (sym h ∙ t)))
      (λ h. record { receiver = ap (λ (r : Receiver). receiver_end r (handled raw b).receiver.store) d.receiver; output = refl; datas = d.datas })
      (λ h n e. record { receiver = ap (λ (r : Receiver). receiver_end r (handled raw b).receiver.store) d.receiver; output = refl; datas = d.datas })

  pub forward_counts : CountsRise b.side (on_forward rolls total now raw b).inbound.side
  unfolding submit_ack
  forward_counts =
      let d = data_received total now raw b in
      forward_either (λ (x : ForwardExit). CountsRise b.side x.inbound.side)
      (λ h. record { datas = (omega arith, omega arith); acks = (omega arith, omega arith); duplicates = (omega arith, omega arith) })
      (λ h. record { datas = (omega (arith, d.datas), omega (arith, d.datas)); acks = (omega (arith, d.acks), omega (arith, d.acks)); duplicates = d.duplicates })
      (λ h n e. record { datas = (omega (arith, d.datas), omega (arith, d.datas)); acks = (omega (arith, d.acks), omega (arith, d.acks)); duplicates = d.duplicates })

  module _ (can : CanOnForward b rolls now) where
    ack_short : (n : ℕ) → length (made (new_packet n packetType.Ack) []) ≤ max_datagram
    ack_short n = omega (arith, made_length (new_packet n packetType.Ack) [])

    can_carry : (n : ℕ) → CanCarry b.reverse rolls now (made (new_packet n packetType.Ack) [])
    can_carry n = record { good = can.good.reverse; in_time = can.in_time; short = ack_short n }

    pub forward_good : GoodInbound (on_forward rolls total now raw b).inbound rolls
    forward_good =
        forward_either (λ (x : ForwardExit). GoodInbound x.inbound rolls) (λ h. can.good) (λ h. received_good total now raw b rolls can.good)
        (λ h n e.
        let d = data_received total now raw b in
        submit_good rolls now n (made (new_packet n packetType.Ack) []) (received total now raw b) (received_good total now raw b rolls can.good) (omega (arith, d.acks, d.datas, can.good.acks)) can.in_time (ack_short n))

    -- each copy that waits on the reverse line has P, if the ACK that goes out has it after the line
    pub forward_each : {P : List ℕ → Type 0} → ((n : ℕ) → (handled raw b).answer ≡ Ok (Some n) → P (copy_bytes b.reverse rolls (made (new_packet n packetType.Ack) []))) → EachWaiting P b.reverse → EachWaiting P (on_forward rolls total now raw b).inbound.reverse
    unfolding submit_ack received
    forward_each {P} each a =
        forward_either (λ (x : ForwardExit). EachWaiting P x.inbound.reverse) (λ h. a) (λ h. a)
        (λ h n e. carry_each b.reverse rolls true now (made (new_packet n packetType.Ack) []) (can_carry n) (each n e) a)

    -- the lent slices keep their lengths, the notes their number, the reverse line its setup
    pub forward_keeps : InboundKeeps b (on_forward rolls total now raw b).inbound
    unfolding submit_ack received
    forward_keeps =
        let l = packet_lengths (receiver_end b.side.receiver b.store) raw b.output ack_buffer in
        forward_either (λ (x : ForwardExit). InboundKeeps b x.inbound)
        (λ h. record { store = refl; output = refl; count = refl; rows = refl; reverse = record { config = refl; records = refl; places = refl } })
        (λ h. record { store = l.0; output = l.1; count = refl; rows = refl; reverse = record { config = refl; records = refl; places = refl } })
        (λ h n e.
        let m = ack_submitted rolls now n (made (new_packet n packetType.Ack) []) (received total now raw b) in
        record { store = l.0; output = l.1; count = m.count; rows = m.rows; reverse = carry_keeps b.reverse rolls true now (made (new_packet n packetType.Ack) []) (can_carry n) })

  -- ---- what stands where the ACK ends the run: all of the Data, and the ACK counted; notes and line are as they were
  pub forward_stopped : (n : ℕ) (a : Result (Deliveries × ℕ) Stop) → is_data (read_datagram raw) ≡ true → (handled raw b).answer ≡ Ok (Some n) → stops a ≡ true → (carry b.reverse rolls true now (made (new_packet n packetType.Ack) [])).result.answer ≡ a
      → on_forward rolls total now raw b ≡ forward_exit (inbound (ack_counted (received total now raw b).side) (handled raw b).receiver.store (handled raw b).output b.metas b.reverse) (stop_of a)
  unfolding received
  forward_stopped n a h e s c = forward_acknowledged n h e ∙ submit_stops rolls now n (made (new_packet n packetType.Ack) []) (received total now raw b) a s c

  pub forward_carried : (n : ℕ) → is_data (read_datagram raw) ≡ true → (handled raw b).answer ≡ Ok (Some n) → Fits b.reverse rolls true now (made (new_packet n packetType.Ack) [])
      → on_forward rolls total now raw b ≡ forward_exit (inbound (ack_counted (received total now raw b).side) (handled raw b).receiver.store (handled raw b).output
      (cond (ltb 0 (copies (granted b.reverse rolls))) (mark_ack_scheduled b.metas n (is_cumulative (received total now raw b).side.receiver)) b.metas) (carried_on b.reverse rolls now (made (new_packet n packetType.Ack) []))) (None)
  unfolding received
  forward_carried n h e f = forward_acknowledged n h e ∙ submit_carries rolls now n (made (new_packet n packetType.Ack) []) (received total now raw b) f

-- ---- at the start
pub new_inbound_good : (r : Receiver) (store output : List ℕ) (metas : SegMetas) (reverse : Direction) (rolls : List Float) → GoodReceiver (receiver_end r store) output 0 → metas.notes.count ≤ length metas.rows → ScheduledBelow metas → Good reverse rolls
    → GoodInbound (inbound (new_side r) store output metas reverse) rolls
new_inbound_good r store output metas reverse rolls g noted scheduled good = record { receiver = g; acks = omega arith; duplicates = omega arith; noted = noted; scheduled = scheduled; reverse = good }
