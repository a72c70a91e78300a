-- On any rolls no Data that a run hands over is refused: its number is a chunk's, and the output has room for what is delivered, which is no longer than the file.
use Rattle.std.specs.Prelude.{Err, None, Ok, Option, Result, Some}
use Prim.Native.Nat.{ℕ, ◌+◌, ◌-◌, ◌≤◌, ◌<◌}
use mathlib.Core.Path.{◌≡◌, refl, sym, ap, ◌∙◌}
use mathlib.Core.Bool.{Bool, true, false, cond, ◌&&◌}
use mathlib.Core.List.{List, [], ◌++◌, flatten}
use native.Mathlib.Omega.{arith}
use borrow.Author.Tests.{lt-leb, le-ltb}
use lib.Ieee.{Float}
use lib.Dec.{ltb, leb}
use lib.ListN.{length, get_or, take, length-append, length-drop}
use lib.Seq.{length-take-le}
use Rattle.bounds.specs.Bounds.{header_size, seq_num_limit, count_limit}
use Rattle.refusal.proofs.Laws.{any_of_none}
use Rattle.protocol.specs.declared.ProtocolType.{ProtocolType}
use Rattle.protocol.specs.declared.ProtocolType.TheVariants.{StopAndWait, GoBackN, SelectiveRepeat}
use Rattle.protocol.specs.Machine.{Chunk, Segment, ReceiverState}
use Rattle.protocol.specs.Machine
use Rattle.chunks.proofs.Laws.{chunks_joined}
use Rattle.packet.specs.Reading.{payload_of, read_datagram}
use Rattle.packet.specs.declared.PacketType.{PacketType}
use Rattle.packet.specs.declared.PacketType.TheVariants as packetType
use Rattle.packet.specs.declared.DatagramReading.{DatagramReading}
use Rattle.packet.specs.declared.DatagramReading.TheVariants as datagram
use Rattle.packet.proofs.Laws.{Taken, valid_taken, corrupted_taken}
use Rattle.receiver.specs.State as receiverState
use Rattle.receiver.specs.Reading as receiver
use Rattle.receiver.specs.Reading.{by_type, number_high, reading_of, read_packet}
use Rattle.receiver.specs.Reply.{answer_of, is_refused, ack_missing, room_missing, applied, ApplyExit}
use Rattle.receiver.specs.Receive.{ReceiveExit, Reception, received_exit, receive, receive_unchecked}
use Rattle.receiver.specs.declared.PacketReading.TheVariants as reading
use Rattle.receiver.specs.declared.Decision.{Decision}
use Rattle.receiver.proofs.Laws.{receive_unchecked_lem, state_low}
use Rattle.selective_repeat.specs.Receiver as selective_repeat
use Rattle.selective_repeat.specs.declared.SelectiveRepeatReceiver.{SelectiveRepeatReceiver}
use Rattle.selective_repeat.proofs.Laws.{receiving_sound}
use Rattle.refinement.proofs.Laws.{ReceiveOutcome, packet_refused, not_data, data_taken, flatten_append, state_good, stop_and_wait_view, go_back_nView, selective_view, stop_and_wait_receives, go_back_n_receives, selective_receives}
use Rattle.path.specs.Direction.{Direction}
use Rattle.path.specs.Path.{packet_buffer}
use Rattle.path.proofs.Laws.{take_front}
use Rattle.session.specs.declared.ReceiverState as session
use Rattle.session.specs.declared.ReceiverState.TheVariants as sessionState
use Rattle.session.specs.Sending.{SenderEnd}
use Rattle.session.specs.Receiving.{ReceiverEnd, receiver_in, handle_packet_in, handle_packet, filled}
use Rattle.session.specs.GoodReceiver.{ReceiverUnbroken}
use Rattle.session.proofs.Laws.{receiver_unbroken}
use Rattle.receiving.specs.Receiving.{Inbound, ack_buffer, is_data, handled}
use Rattle.receiving.specs.Good.{GoodInbound, CanServeForward}
use Rattle.receiving.proofs.Laws.{next_taken, can_hand_over}
use Rattle.completion.proofs.Laws.{Start, chunks_in, end_of}
use Rattle.prefixes.proofs.Joined.{joined_short}
use Rattle.prefixes.proofs.Parts.{honest}
use Rattle.prefixes.proofs.Receiver.{Honest, by_place, Written, WrittenIn, EndWritten, end_parts}
use Rattle.prefixes.proofs.Copies.{PrefixAt}
use Rattle.prefixes.proofs.Prefixed.{Prefixed, parts_known, prefixed_fill}
use Rattle.refusal.specs.declared.Refusal.{Refusal}

-- ---- room
room_fits : (d : Decision) (size filled : ℕ) (output ack : List ℕ) → cond d.deliver size 0 ≤ length output - filled → header_size ≤ length ack → room_missing d size filled output ack ≡ false
unfolding room_missing
room_fits d size filled output ack h l = rw (deliver d.deliver h, ack_fits d.reply) refl
  where
    deliver : (b : Bool) → cond b size 0 ≤ length output - filled → (b && ltb (length output - filled) size) ≡ false
    deliver true h = le-ltb _ _ h
    deliver false h = refl

    ack_fits : (r : Option ℕ) → ack_missing r ack ≡ false
    ack_fits (Some n) = le-ltb _ _ l
    ack_fits None = refl

applied_filled : (d : Decision) (bytes : List ℕ) (filled : ℕ) (output ack : List ℕ) → (applied d bytes filled output ack).filled ≡ filled + cond d.deliver (length bytes) 0
unfolding applied
applied_filled d bytes filled output ack = by_deliver d.deliver _ _ refl refl
  where
    by_deliver : (b : Bool) (x y : ApplyExit) → x.filled ≡ filled + length bytes → y.filled ≡ filled → (cond b x y).filled ≡ filled + cond b (length bytes) 0
    by_deliver true x y e f = e
    by_deliver false x y e f = omega arith

at_most : (b : Bool) (n : ℕ) → cond b n 0 ≤ n
at_most true n = omega arith
at_most false n = omega arith

answered : (r : Option ℕ) → is_refused (answer_of r) ≡ false
answered (Some n) = refl
answered None = refl

no_answer : {X : Type 0} (r : Option ℕ) {s : _} → answer_of r ≡ Err s → X
no_answer (Some n) e = let z : ◌≡◌ {A = ℕ} 0 1 = cc in absurd (omega arith)
no_answer None e = let z : ◌≡◌ {A = ℕ} 0 1 = cc in absurd (omega arith)

-- ---- a receiver's call by its checks, its decision and the bytes that it delivers
module _ {R : Type 0} (p : ProtocolType) (w : ℕ) (view : R → ReceiverState) (filledOf : R → ℕ) (r : R) (broken : List ℕ → Bool) (counts : Bool) (d : Decision) (bytes : List ℕ) (after : ℕ → R) (raw ack : List ℕ) where
  abbrev given : List ℕ → Reception R
  given output = record { state = r; state_broken = broken output; counts_broken = counts; filled = filledOf r; decision = d; delivered = bytes; after = after }

  record Call : Type 0 where
    marked : (n : ℕ) → filledOf (after n) ≡ n
    outcome : (output : List ℕ) → ReceiveOutcome p w view filledOf r raw output ack (receive (given output) raw output ack)
    longer : (output more : List ℕ) → broken output ≡ false → broken (output ++ more) ≡ false
    counts_low : counts ≡ false
    taken : Taken raw
    low : number_high (read_datagram raw) ≡ false
    room : header_size ≤ length ack

  module _ (c : Call) where
    received_is : (output : List ℕ) → broken output ≡ false → filledOf r + cond d.deliver (length bytes) 0 ≤ length output → receive (given output) raw output ack ≡ received_exit (given output) output ack
    unfolding receive_unchecked
    received_is output b h =
        sym (receive_unchecked_lem (given output) raw output ack b c.counts_low c.taken c.low)
        ∙ rw (room_fits d (length bytes) (filledOf r) output ack (omega (arith, h)) c.room) refl

    -- what it delivers is what the machine delivers: seen of an output that is long enough
    bytes_fit : (output : List ℕ) (limit : ℕ) → broken output ≡ false → filledOf r ≤ length output → filledOf r ≤ limit
        → ((n : ℕ) → read_packet raw ≡ reading.Data n → filledOf r + length (flatten (Machine.receive p w (view r) (record { number = n; payload = payload_of raw })).delivered) ≤ limit)
        → filledOf r + cond d.deliver (length bytes) 0 ≤ limit
    bytes_fit output limit b mark few fits =
        let long : List ℕ = output ++ bytes in
        let l : length long ≡ length output + length bytes = length-append output bytes in
        let m = at_most d.deliver (length bytes) in
        let is = received_is long (c.longer output bytes b) (omega (arith, l, m, mark)) in
        let size : filledOf (receive (given long) raw long ack).receiver ≡ filledOf r + cond d.deliver (length bytes) 0 =
        ap (λ (y : ReceiveExit R). filledOf y.receiver) is ∙ c.marked _ ∙ applied_filled d bytes (filledOf r) long ack in
        elim (c.outcome long) [
          | packet_refused s e ↦ no_answer d.reply (ap (λ (y : ReceiveExit R). y.answer) (sym is ∙ e))
          | not_data none i ↦ omega (arith, size, i.filled, few)
          | data_taken n e low t ↦ omega (arith, size, t.filled, fits n e)
        ]

    not_refused : (output : List ℕ) → broken output ≡ false → filledOf r ≤ length output
        → ((n : ℕ) → read_packet raw ≡ reading.Data n → filledOf r + length (flatten (Machine.receive p w (view r) (record { number = n; payload = payload_of raw })).delivered) ≤ length output)
        → is_refused (receive (given output) raw output ack).answer ≡ false
    not_refused output b mark fits =
        ap (λ (y : ReceiveExit R). is_refused y.answer) (received_is output b (bytes_fit output (length output) b mark mark fits)) ∙ answered d.reply

-- ---- what is delivered next still fits the chunks
module _ (chunks : List Chunk) where
  parts_fit : (parts : List Chunk) → ((i : ℕ) → i < length parts → PrefixAt chunks i (get_or parts i [])) → length (flatten parts) ≤ length (flatten chunks)
  parts_fit parts each = joined_short parts chunks (parts_known chunks parts each) (λ i l. (each i l).prefix)

  delivered_fits : (p : ProtocolType) {R : Type 0} (view : R → ReceiverState) (filledOf : R → ℕ) (before : List ℕ) (w : ℕ) (r : R) (raw output : List ℕ) → Honest (PrefixAt chunks) raw → Written (PrefixAt chunks) p view filledOf before r output
      → (n : ℕ) → read_packet raw ≡ reading.Data n → filledOf r + length (flatten (Machine.receive p w (view r) (record { number = n; payload = payload_of raw })).delivered) ≤ length (flatten chunks)
  delivered_fits p view filledOf before w r raw output h k n e =
      let q : Segment = record { number = n; payload = payload_of raw } in
      let s = honest (PrefixAt chunks) p w (view r) q k.holds (h.reads n e) in
      let old = k.parts in
      let new = (Machine.receive p w (view r) q).delivered in
      let all = parts_fit (old.parts ++ new) (λ i l. by_place (PrefixAt chunks) new old.parts (view r).base old.count old.each s.delivered i l) in
      let sum = ap length (flatten_append old.parts new) ∙ length-append (flatten old.parts) (flatten new) in
      let size = sym (ap length old.joined) ∙ length-take-le (filledOf r) output old.mark in
      omega (arith, all, sum, size)

  -- ---- Data that can be read, and whose number is a chunk's if it is valid
  data_taken_in : (raw : List ℕ) → is_data (read_datagram raw) ≡ true → Taken raw
  data_taken_in raw t = go (read_datagram raw) refl t
    where
      go : (x : Result DatagramReading Refusal) → read_datagram raw ≡ x → is_data x ≡ true → Taken raw
      go (Ok (datagram.Valid p)) e t = valid_taken raw e
      go (Ok (datagram.Corrupted p)) e t = corrupted_taken raw e
      go (Err s) e t = let z : ◌≡◌ {A = ℕ} 0 1 = cc in absurd (omega arith)

  number_low : (raw : List ℕ) → length chunks ≤ seq_num_limit → Honest (PrefixAt chunks) raw → number_high (read_datagram raw) ≡ false
  number_low raw few h = go (read_datagram raw) refl
    where
      by_type_lem : (t : PacketType) (n : ℕ) → (by_type t n ≡ reading.Data n → n < length chunks) → (receiver.is_data t && leb seq_num_limit n) ≡ false
      by_type_lem packetType.Data n k = let l = k refl in lt-leb seq_num_limit n (omega (arith, l, few))
      by_type_lem packetType.Ack n k = refl
      by_type_lem packetType.Fin n k = refl

      go : (x : Result DatagramReading Refusal) → read_datagram raw ≡ x → number_high x ≡ false
      go (Ok (datagram.Valid p)) e = by_type_lem p.pkt_type p.seq_num (λ f. (h.reads p.seq_num (ap reading_of e ∙ f)).known)
      go (Ok (datagram.Corrupted p)) e = refl
      go (Err s) e = refl

  -- ---- a session's receiver
  in_order_longer : (base filled : ℕ) (output more : List ℕ) → receiverState.state_broken base filled output ≡ false → receiverState.state_broken base filled (output ++ more) ≡ false
  in_order_longer base filled output more e = let low = state_low base filled output e in state_good base filled (output ++ more) low.0 (omega (arith, low.1, length-append output more))

  selective_longer : (r : SelectiveRepeatReceiver) (store output more : List ℕ) → selective_repeat.receiving_broken r store output ≡ false → selective_repeat.receiving_broken r store (output ++ more) ≡ false
  unfolding selective_repeat.receiving_broken
  selective_longer r store output more b =
      let e = receiving_sound r store output b in
      let room : r.filled ≤ length (output ++ more) = omega (arith, e.1, length-append output more) in
      any_of_none _ (e.0, (le-ltb _ _ room, tt))

  pub packet_not_refused : (before : List ℕ) (v : ReceiverEnd) (raw output ack : List ℕ) → ReceiverUnbroken v output → is_data (read_datagram raw) ≡ true → Honest (PrefixAt chunks) raw → EndWritten (PrefixAt chunks) before v output
      → length chunks ≤ seq_num_limit → length (flatten chunks) ≤ length output → header_size ≤ length ack → is_refused (handle_packet v raw output ack).answer ≡ false
  unfolding handle_packet
  packet_not_refused before v raw output ack unbroken t h k few room ample = by_state v.receiver.state v.store unbroken k
    where
      taken : Taken raw
      taken = data_taken_in raw t

      low : number_high (read_datagram raw) ≡ false
      low = number_low raw few h

      by_state : (s : session.ReceiverState) (store : List ℕ) → ReceiverUnbroken (receiver_in s store) output → WrittenIn (PrefixAt chunks) before s store output → is_refused (handle_packet_in s store raw output ack).answer ≡ false
      by_state (sessionState.StopAndWait r) store g k =
          not_refused StopAndWait 1 stop_and_wait_view (λ x. x.filled) r _ _ _ _ _ raw ack
          (record {
            marked = λ n. refl;
            outcome = λ out. stop_and_wait_receives 1 r raw out ack;
            longer = in_order_longer r.expected_seq r.filled;
            counts_low = g.counts;
            taken = taken;
            low = low;
            room = ample;
          })
          output g.state k.parts.mark (λ n e. let f = delivered_fits StopAndWait stop_and_wait_view (λ x. x.filled) before 1 r raw output h k n e in omega (arith, f, room))
      by_state (sessionState.GoBackN r) store g k =
          not_refused GoBackN 1 go_back_nView (λ x. x.filled) r _ _ _ _ _ raw ack
          (record {
            marked = λ n. refl;
            outcome = λ out. go_back_n_receives 1 r raw out ack;
            longer = in_order_longer r.expected_seq r.filled;
            counts_low = g.counts;
            taken = taken;
            low = low;
            room = ample;
          })
          output g.state k.parts.mark (λ n e. let f = delivered_fits GoBackN go_back_nView (λ x. x.filled) before 1 r raw output h k n e in omega (arith, f, room))
      by_state (sessionState.SelectiveRepeat r) store g k =
          let u = selective_repeat.receiver r store in
          not_refused SelectiveRepeat r.window_size selective_view (λ x. x.state.filled) u _ _ _ _ _ raw ack
          (record {
            marked = λ n. refl;
            outcome = λ out. selective_receives u raw out ack;
            longer = selective_longer r store;
            counts_low = g.counts;
            taken = taken;
            low = low;
            room = ample;
          })
          output g.state k.parts.mark (λ n e. let f = delivered_fits SelectiveRepeat selective_view (λ x. x.state.filled) before r.window_size u raw output h k n e in omega (arith, f, room))

-- ---- in a run whose output has room for the file
module _ {s : Start} {v : SenderEnd} {forward : Direction} where
  -- the output keeps its length
  pub prefixed_room : {r : ReceiverEnd} {output : List ℕ} → Prefixed s v r output forward → length s.file ≤ length s.output → length output ≡ length s.output
  prefixed_room {r} {output} q room =
      let p = end_parts (PrefixAt (chunks_in s)) s.output r output q.receives in
      let fill = prefixed_fill q in
      let a = length-drop (filled r.receiver) output in
      let b = ap length p.behind ∙ length-drop (filled r.receiver) s.output in
      omega (arith, a, b, fill, room, p.mark)

  pub prefixed_not_refused : {b : Inbound} {rolls : List Float} → Prefixed s v (end_of b) b.output forward → length s.file ≤ length s.output → length (chunks_in s) ≤ seq_num_limit → GoodInbound b rolls → b.side.data_received < count_limit
      → {raw : List ℕ} → Honest (PrefixAt (chunks_in s)) raw → is_data (read_datagram raw) ≡ true → is_refused (handled raw b).answer ≡ false
  prefixed_not_refused {b} q room few good low {raw} h t =
      let size = prefixed_room q room in
      let joined = ap length (chunks_joined s.size s.file q.begun.some) in
      packet_not_refused (chunks_in s) s.output (end_of b) raw b.output ack_buffer (receiver_unbroken good.receiver low) t h q.receives few (omega (arith, size, joined, room)) (omega arith)

  -- what is due on the forward line: in each turn of its loop
  pub turn_not_refused : (rolls : List Float) (total now : ℕ) {b : Inbound} → Prefixed s v (end_of b) b.output forward → length s.file ≤ length s.output → length (chunks_in s) ≤ seq_num_limit → CanServeForward forward b rolls now
      → (n : ℕ) → (next_taken now forward).result.answer ≡ Ok (Some n) → is_data (read_datagram (take n (next_taken now forward).out)) ≡ true → is_refused (handled (take n (next_taken now forward).out) b).answer ≡ false
  turn_not_refused rolls total now {b} q room few can n e t =
      let on = can_hand_over rolls total now forward b can n e in
      prefixed_not_refused q room few on.good on.few (take_front forward now packet_buffer can.sound q.sends.waiting n e) t
