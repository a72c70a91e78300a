-- What the calls of the receiving side ask and answer, over plain values: one law for each return.
use Rattle.std.specs.Prelude.{Err, None, Ok, Option, Result, Some}
use Prim.Native.Nat.{ℕ, ◌+◌, ◌^◌, ◌≤◌, ◌<◌}
use mathlib.Core.Path.{◌≡◌, refl, sym, ap, ◌∙◌}
use mathlib.Core.Bool.{Bool, true, false, cond, ◌&&◌, ◌||◌}
use mathlib.Core.List.{List}
use native.Mathlib.Omega.{arith}
use lib.ListN.{length}
use lib.Dec.{ltb}
use lib.Ieee.{Float}
use Rattle.bounds.specs.Bounds.{header_size}
use Rattle.packet.specs.Reading.{read_datagram, payload_of}
use Rattle.packet.specs.declared.Packet.{Packet}
use Rattle.packet.specs.declared.PacketType.{PacketType}
use Rattle.packet.specs.declared.PacketType.TheVariants as packetType
use Rattle.packet.specs.declared.DatagramReading.{DatagramReading}
use Rattle.packet.specs.declared.DatagramReading.TheVariants as reading
use Rattle.packet.proofs.Laws.{taken_short}
use Rattle.receiver.specs.Receive.{ReceiveExit, receive_exit}
use Rattle.refusal.specs.declared.Refusal.{Refusal}
use Rattle.notes.specs.Notes.{SegMetas, mark_ack_scheduled, ScheduledBelow}
use Rattle.path.specs.Direction.{Direction, direction}
use Rattle.path.specs.Path.{CarryExit, carry_exit, left_by_carry, carry, stop_of, CanCarry}
use Rattle.path.specs.declared.CarryResult.{CarryResult}
use Rattle.path.specs.declared.Stop.{Stop}
use Rattle.session.specs.Receiving.{ReceiverEnd, receiver_end, handle_packet_unchecked, base, is_cumulative, gbn_already_delivered}
use Rattle.session.specs.GoodReceiver.{ReceiverUnbroken, CanHandlePacket}
use Rattle.session.specs.declared.Receiver.{Receiver}
use Rattle.session.proofs.Laws.{read_as, taken_as, packet_read, receiver_unbroken, good_can_receive, Rises, packet_rises, cumulative_none}
use Rattle.receiving.specs.Receiving.{Inbound, inbound, ForwardExit, forward_exit, ack_counted, any_copies, submit_ack, is_data_type, is_data, gbn_duplicate, new_duplicates, delivered, completed_at, absorb, ack_buffer, handled, received, by_reply, on_forward}
use Rattle.receiving.specs.Good.{CanOnForward}
use Rattle.receiving.specs.Internal.{data_arrival, arrival_of}
use Rattle.receiving.specs.declared.ReceivingSide.{ReceivingSide}
use Rattle.std.proofs.lemmas.Option.{some_pair_parts}

-- ---- what a datagram is
pub arrives : (d : Result DatagramReading Refusal) (p : Packet) (valid : Bool) {x : Result DatagramReading Refusal} {a : Option (Packet × Bool)} → x ≡ d → x ≡ read_as p valid → a ≡ data_arrival p.pkt_type p valid → a ≡ arrival_of d
arrives d p valid e f g = g ∙ by_test_lem valid ∙ ap arrival_of (sym f ∙ e)
  where
    by_test_lem : (b : Bool) → data_arrival p.pkt_type p b ≡ arrival_of (read_as p b)
    by_test_lem true = refl
    by_test_lem false = refl

record DataOf (d : Result DatagramReading Refusal) (p : Packet) (valid : Bool) : Type 0 where
  pub read : d ≡ read_as p valid
  pub is : is_data d ≡ true

typed : (t : PacketType) (q p : Packet) (b valid : Bool) → Some (p, valid) ≡ data_arrival t q b → (q ≡ p) × (b ≡ valid) × (is_data_type t ≡ true)
typed packetType.Data q p b valid e = let h = some_pair_parts p q valid b e in (sym h.0, sym h.1, refl)
typed packetType.Ack q p b valid e = let z : ◌≡◌ {A = ℕ} 0 1 = cc in absurd (omega arith)
typed packetType.Fin q p b valid e = let z : ◌≡◌ {A = ℕ} 0 1 = cc in absurd (omega arith)

read_data : (d : Result DatagramReading Refusal) (p : Packet) (valid : Bool) → Some (p, valid) ≡ arrival_of d → DataOf d p valid
read_data (Ok (reading.Valid q)) p valid e = let m = typed q.pkt_type q p true valid e in record { read = ap (λ (x : Packet). read_as x true) m.0 ∙ ap (read_as p) m.1; is = m.2 }
read_data (Ok (reading.Corrupted q)) p valid e = let m = typed q.pkt_type q p false valid e in record { read = ap (λ (x : Packet). read_as x false) m.0 ∙ ap (read_as p) m.1; is = m.2 }
read_data (Err r) p valid e = let z : ◌≡◌ {A = ℕ} 0 1 = cc in absurd (omega arith)

untyped : (t : PacketType) (q : Packet) (b : Bool) → None ≡ data_arrival t q b → is_data_type t ≡ false
untyped packetType.Data q b e = let z : ◌≡◌ {A = ℕ} 0 1 = cc in absurd (omega arith)
untyped packetType.Ack q b e = refl
untyped packetType.Fin q b e = refl

read_dropped : (d : Result DatagramReading Refusal) → None ≡ arrival_of d → is_data d ≡ false
read_dropped (Ok (reading.Valid q)) e = untyped q.pkt_type q true e
read_dropped (Ok (reading.Corrupted q)) e = untyped q.pkt_type q false e
read_dropped (Err r) e = refl

-- ---- counting
late_as : (r : Receiver) (p : Packet) (valid : Bool) → (valid && gbn_already_delivered r p.seq_num) ≡ gbn_duplicate r (read_as p valid)
late_as r p true = refl
late_as r p false = refl

-- what comes late comes to a receiver whose ACKs are cumulative
late_cumulative : (r : Receiver) (d : Result DatagramReading Refusal) → gbn_duplicate r d ≡ true → is_cumulative r ≡ true
late_cumulative r (Ok (reading.Valid p)) e = left (is_cumulative r) _ e
  where
    left : (a b : Bool) → (a && b) ≡ true → a ≡ true
    left true b e = refl
    left false b e = e
late_cumulative r (Ok (reading.Corrupted p)) e = let z : ◌≡◌ {A = ℕ} 0 1 = cc in absurd (omega arith)
late_cumulative r (Err x) e = let z : ◌≡◌ {A = ℕ} 0 1 = cc in absurd (omega arith)

pub new_duplicates_lem : (r after : Receiver) (d : Result DatagramReading Refusal) → Rises r after → new_duplicates r (gbn_duplicate r d) after ≤ 1
new_duplicates_lem r after d m = by_late (gbn_duplicate r d) refl
  where
    by_late : (b : Bool) → gbn_duplicate r d ≡ b → new_duplicates r b after ≤ 1
    by_late true e = let h = cumulative_none after (m.cumulative ∙ late_cumulative r d e) in omega (arith, h)
    by_late false e = omega (arith, m.duplicates)

-- ---- `absorb`
module _ (total now : ℕ) (x : ReceivingSide) where
  pub absorb_before : x.completed ≡ true → x ≡ absorb total now x
  unfolding absorb
  absorb_before h = rw h

  pub absorb_below : {n : ℕ} → x.completed ≡ false → n ≡ base x.receiver → ltb n total ≡ true → x ≡ absorb total now x
  unfolding absorb
  absorb_below h e k = rw (h, ← e, k)

  pub absorb_all : {n : ℕ} → x.completed ≡ false → n ≡ base x.receiver → ltb n total ≡ false → completed_at x now ≡ absorb total now x
  unfolding absorb
  absorb_all h e k = rw (h, ← e, k)

  -- it leaves the side, or notes the completion
  pub absorb_either : (P : ReceivingSide → Type 0) → P x → P (completed_at x now) → P (absorb total now x)
  unfolding absorb
  absorb_either P a c = either (x.completed || ltb (base x.receiver) total)
    where
      either : (b : Bool) → P (cond b x (completed_at x now))
      either true = a
      either false = c

-- ---- `submit_ack`
module _ (rolls : List Float) (now seq : ℕ) (wire : List ℕ) (side : ReceivingSide) (metas : SegMetas) (reverse : Direction) where
  pub submits : {rs : List (List ℕ)} {ps : List ℕ} {c : CarryResult} {cumulative scheduled : Bool} {m : SegMetas} {s : Option Stop} → carry_exit rs ps c ≡ carry reverse rolls true now wire → cumulative ≡ is_cumulative side.receiver → scheduled ≡ any_copies c.answer → m ≡ cond scheduled (mark_ack_scheduled metas seq cumulative) metas → s ≡ stop_of c.answer
      → (store output : List ℕ) → forward_exit (inbound (ack_counted side) store output m (direction rs ps c.path)) s ≡ submit_ack rolls now seq wire (inbound side store output metas reverse)
  unfolding submit_ack
  submits {rs} {ps} {c} e f g h k store output =
      rw (h, k, g, f)
      (ap (λ (x : CarryExit). forward_exit (inbound (ack_counted side) store output (cond (any_copies x.result.answer) (mark_ack_scheduled metas seq (is_cumulative side.receiver)) metas) (left_by_carry x)) (stop_of x.result.answer)) e)

-- ---- `on_forward`
module _ (rolls : List Float) (total now : ℕ) (raw : List ℕ) (b : Inbound) where
  pub dropped_law : {a : Option (Packet × Bool)} → a ≡ arrival_of (read_datagram raw) → a ≡ None → forward_exit b (None) ≡ on_forward rolls total now raw b
  unfolding on_forward
  dropped_law e f = ap (λ (t : Bool). cond t (by_reply (handled raw b).answer rolls now (handled raw b).ack (received total now raw b)) (forward_exit b (None))) (sym (read_dropped (read_datagram raw) (sym f ∙ e)))

  module _ {a : Option (Packet × Bool)} {p : Packet} {valid : Bool} (can : CanOnForward b rolls now) (e : a ≡ arrival_of (read_datagram raw)) (f : a ≡ Some (p, valid)) where
    data_of : DataOf (read_datagram raw) p valid
    data_of = read_data (read_datagram raw) p valid (sym f ∙ e)

    unbroken : ReceiverUnbroken (receiver_end b.side.receiver b.store) b.output
    unbroken = receiver_unbroken can.good.receiver can.few

    pub can_handle : {payload : List ℕ} → payload ≡ payload_of raw → CanHandlePacket (receiver_end b.side.receiver b.store) payload b.output
    can_handle {payload} h = good_can_receive can.good.receiver payload can.few (rw h (taken_short raw (taken_as raw p valid data_of.read)))

    module _ {late : Bool} {payload : List ℕ} {answer : Result (Option ℕ) Refusal} {after : Receiver} {store output ack : List ℕ} (g : late ≡ (valid && gbn_already_delivered b.side.receiver p.seq_num)) (h : payload ≡ payload_of raw) (k : receive_exit answer (receiver_end after store) output ack ≡ handle_packet_unchecked (receiver_end b.side.receiver b.store) p valid payload b.output ack_buffer) where
      handled_is : receive_exit answer (receiver_end after store) output ack ≡ handled raw b
      handled_is = k ∙ ap (λ (l : List ℕ). handle_packet_unchecked (receiver_end b.side.receiver b.store) p valid l b.output ack_buffer) h ∙ packet_read raw b.output ack_buffer p valid data_of.read (receiver_end b.side.receiver b.store) unbroken

      late_is : late ≡ gbn_duplicate b.side.receiver (read_datagram raw)
      late_is = g ∙ late_as b.side.receiver p valid ∙ ap (gbn_duplicate b.side.receiver) (sym data_of.read)

      pub can_count : (b.side.data_received + 1 < 2 ^ 64) × (b.side.duplicate_data + new_duplicates b.side.receiver late after < 2 ^ 64)
      can_count =
          let m = rw (← handled_is) at (packet_rises (receiver_end b.side.receiver b.store) raw b.output ack_buffer) in
          let n = rw (← late_is) at (new_duplicates_lem b.side.receiver after (read_datagram raw) m) in
          (omega (arith, can.few), omega (arith, n, can.few, can.good.duplicates))

      module _ {counted absorbed : ReceivingSide} (l : counted ≡ delivered b.side late after) (m : absorbed ≡ absorb total now counted) where
        pub can_submit : length ack ≡ header_size → (absorbed.ack_sent + 1 < 2 ^ 64) × ((b.metas.notes.count ≤ length b.metas.rows) × ScheduledBelow b.metas) × CanCarry b.reverse rolls now ack
        can_submit size =
            let n : absorbed.ack_sent ≡ b.side.ack_sent = ap (λ (x : ReceivingSide). x.ack_sent) m ∙ absorb_either total now counted (λ (x : ReceivingSide). x.ack_sent ≡ counted.ack_sent) refl refl ∙ ap (λ (x : ReceivingSide). x.ack_sent) l in
            (omega (arith, n, can.few, can.good.acks), (can.good.noted, can.good.scheduled), record { good = can.good.reverse; in_time = can.in_time; short = omega (arith, size) })

        pub replied : {r : Result (Option ℕ) Refusal} → answer ≡ r → by_reply r rolls now ack (inbound absorbed store output b.metas b.reverse) ≡ on_forward rolls total now raw b
        unfolding on_forward received
        replied q =
            rw (← q, m, l, late_is, data_of.is)
            (ap (λ (y : ReceiveExit ReceiverEnd). by_reply y.answer rolls now y.ack (inbound (absorb total now (delivered b.side (gbn_duplicate b.side.receiver (read_datagram raw)) y.receiver.receiver)) y.receiver.store y.output b.metas b.reverse)) handled_is)

        pub silent_law : answer ≡ Ok None → forward_exit (inbound absorbed store output b.metas b.reverse) (None) ≡ on_forward rolls total now raw b
        silent_law q = replied q

        pub refused_law : {r : Refusal} → answer ≡ Err r → forward_exit (inbound absorbed store output b.metas b.reverse) (None) ≡ on_forward rolls total now raw b
        refused_law q = replied q

        pub ack_law : {n : ℕ} {x : ForwardExit} → answer ≡ Ok (Some n) → x ≡ submit_ack rolls now n ack (inbound absorbed store output b.metas b.reverse) → x ≡ on_forward rolls total now raw b
        ack_law q w = w ∙ replied q
