-- What a datagram handed to a receiver does, by what is read in it: one law for the three protocols.
use Rattle.std.specs.Prelude.{Err, None, Ok, Option, Some}
use Prim.Native.Nat.{ℕ, ◌+◌, ◌-◌, ◌≤◌, ◌<◌}
use mathlib.Core.Path.{◌≡◌, refl, sym, ap, ◌∙◌}
use mathlib.Core.Bool.{Bool, true, false, cond}
use mathlib.Core.List.{List, [], ◌∷◌, ◌++◌, append_assoc, flatten}
use native.Mathlib.Omega.{arith}
use lib.ListN.{length, take, drop, length-append}
use lib.Seq.{take_at, drop_at, length-take-le}
use lib.Dec.{ltb, leb, eqb}
use Rattle.protocol.specs.Machine.{Chunk, Segment, ReceiverState, Received}
use Rattle.protocol.specs.Machine
use Rattle.protocol.specs.declared.ProtocolType.{ProtocolType}
use Rattle.protocol.specs.declared.ProtocolType.TheVariants.{StopAndWait, GoBackN, SelectiveRepeat}
use Rattle.refusal.specs.declared.Refusal.{Refusal}
use Rattle.packet.specs.Format.{new_packet, made}
use Rattle.packet.specs.Reading.{payload_of}
use Rattle.packet.specs.declared.PacketType.TheVariants.{Ack}
use Rattle.packet.proofs.Laws.{made_length}
use Rattle.store.specs.Numbers.{written_at}
use Rattle.store.proofs.Laws.{written_none, written_length}
use Rattle.receiver.specs.Reading.{read_packet}
use Rattle.receiver.specs.Reply.{answer_of, ack_after, room_missing, applied, apply_exit}
use Rattle.receiver.specs.Receive.{ReceiveExit, receive_exit, Reception, received_exit, receive}
use Rattle.receiver.specs.declared.PacketReading.{PacketReading}
use Rattle.receiver.specs.declared.PacketReading.TheVariants as reading
use Rattle.receiver.specs.declared.Decision.{Decision}
use Rattle.receiver.proofs.Laws.{ReceiveKnown, receive_either, read_low, not_valid_corrupted, room_output}
use Rattle.refinement.specs.Follows.{acks_of}
use Rattle.refinement.specs.Copies.{AckOf, NotValid}

-- bytes written behind the fill mark
module _ (output bytes : List ℕ) (filled : ℕ) (mark : filled ≤ length output) where
  front_length : length (take filled output ++ bytes) ≡ filled + length bytes
  front_length = length-append (take filled output) bytes ∙ ap (λ (n : ℕ). n + length bytes) (length-take-le filled output mark)

  pub written_front : take (filled + length bytes) (written_at output filled bytes) ≡ take filled output ++ bytes
  written_front = take_at (take filled output ++ bytes) (drop (filled + length bytes) output) (filled + length bytes) front_length

  pub written_behind : drop (filled + length bytes) (written_at output filled bytes) ≡ drop (filled + length bytes) output
  written_behind = drop_at (take filled output ++ bytes) (drop (filled + length bytes) output) (filled + length bytes) front_length

-- what a receiver that took Data has done: the machine's step, the bytes behind the fill mark, the ACK in its buffer
pub record Took {R : Type 0} (view : R → ReceiverState) (filledOf : R → ℕ) (r : R) (output ack : List ℕ) (m : Received) (result : ReceiveExit R) : Type 0 where
  pub follows : view result.receiver ≡ m.after
  pub filled : filledOf result.receiver ≡ filledOf r + length (flatten m.delivered)
  pub output_is : result.output ≡ written_at output (filledOf r) (flatten m.delivered)
  pub fits : filledOf r + length (flatten m.delivered) ≤ length output
  pub acks : acks_of result.answer ≡ m.acks
  pub ack_made : (n : ℕ) → result.answer ≡ Ok (Some n) → AckOf n (take 10 result.ack)

-- no Data: state, fill mark and output as they were; nothing is answered to what isn't valid
pub record Ignored {R : Type 0} (view : R → ReceiverState) (filledOf : R → ℕ) (r : R) (raw output ack : List ℕ) (result : ReceiveExit R) : Type 0 where
  pub follows : view result.receiver ≡ view r
  pub filled : filledOf result.receiver ≡ filledOf r
  pub output_is : result.output ≡ output
  pub silent : NotValid raw → (result.answer ≡ Ok None) × (result.ack ≡ ack)

pub data ReceiveOutcome {R : Type 0} (p : ProtocolType) (w : ℕ) (view : R → ReceiverState) (filledOf : R → ℕ) (r : R) (raw output ack : List ℕ) (result : ReceiveExit R) : Type 0 where
  packet_refused : (s : Refusal) → result ≡ receive_exit (Err s) r output ack → ReceiveOutcome p w view filledOf r raw output ack result
  not_data : ((n : ℕ) → read_packet raw ≡ reading.Data n → ⊥) → Ignored view filledOf r raw output ack result → ReceiveOutcome p w view filledOf r raw output ack result
  data_taken : (n : ℕ) → read_packet raw ≡ reading.Data n → n < 4294901760 → Took view filledOf r output ack (Machine.receive p w (view r) (record { number = n; payload = payload_of raw })) result
      → ReceiveOutcome p w view filledOf r raw output ack result

-- what is asked of a protocol, of a state that isn't broken: its decision on a packet is the machine's
pub record Follows {R : Type 0} (view : R → ReceiverState) (after : ℕ → R) (d : Decision) (bytes : List ℕ) (m : Received) : Type 0 where
  pub state : (filled : ℕ) → view (after filled) ≡ m.after
  pub delivered : cond d.deliver bytes [] ≡ flatten m.delivered
  pub acks : acks_of (answer_of d.reply) ≡ m.acks

pub record Leaves {R : Type 0} (view : R → ReceiverState) (after : ℕ → R) (r : R) (d : Decision) (h : PacketReading) : Type 0 where
  pub state : (filled : ℕ) → view (after filled) ≡ view r
  pub nothing : d.deliver ≡ false
  pub silent : h ≡ reading.Corrupted → d.reply ≡ None

-- packets that are no Data, kind by kind
pub other_kind : (P : PacketReading → Type 0) → ((n : ℕ) → P (reading.Fin n)) → P reading.Ack → P reading.Corrupted → (h : PacketReading) → ((n : ℕ) → h ≡ reading.Data n → ⊥) → P h
other_kind P fin ack corrupted (reading.Data n) no_number = absurd (no_number n refl)
other_kind P fin ack corrupted (reading.Fin n) no_number = fin n
other_kind P fin ack corrupted reading.Ack no_number = ack
other_kind P fin ack corrupted reading.Corrupted no_number = corrupted

pub left : {R : Type 0} {view : R → ReceiverState} {after : ℕ → R} {r : R} {d : Decision} {h : PacketReading} → ((filled : ℕ) → view (after filled) ≡ view r) → d.deliver ≡ false → (h ≡ reading.Corrupted → d.reply ≡ None)
    → Leaves view after r d h
left same nothing silent = record { state = same; nothing = nothing; silent = silent }

pub fin_valid : (n : ℕ) {a b : Option ℕ} → reading.Fin n ≡ reading.Corrupted → a ≡ b
fin_valid n e = let z : ◌≡◌ {A = ℕ} 0 1 = cc in absurd (omega arith)

pub record Decides {R : Type 0} (p : ProtocolType) (w : ℕ) (view : R → ReceiverState) (filledOf : R → ℕ) (r : R) (broken : Bool) (after : ℕ → R) (d : Decision) (bytes raw output : List ℕ) : Type 0 where
  pub mark : broken ≡ false → filledOf r ≤ length output
  pub base_low : broken ≡ false → (view r).base ≤ 4294901760
  pub with_mark : (filled : ℕ) → filledOf (after filled) ≡ filled
  pub on_data : broken ≡ false → (n : ℕ) → read_packet raw ≡ reading.Data n → length (payload_of raw) ≤ 1400 → Follows view after d bytes (Machine.receive p w (view r) (record { number = n; payload = payload_of raw }))
  pub on_other : ((n : ℕ) → read_packet raw ≡ reading.Data n → ⊥) → Leaves view after r d (read_packet raw)

-- the ACK in its buffer
ack_front : (r : Option ℕ) (n : ℕ) (ack : List ℕ) → answer_of r ≡ Ok (Some n) → take 10 (ack_after r ack) ≡ made (new_packet n Ack) []
unfolding ack_after
ack_front (Some m) n ack e = let f : m ≡ n = cc in rw f (take_at (made (new_packet n Ack) []) (drop 10 ack) 10 (made_length (new_packet n Ack) []))
ack_front None n ack e = let z : ◌≡◌ {A = ℕ} 0 1 = cc in absurd (omega arith)

-- a number that the machine acknowledges is the segment's, or below base
module _ (n : ℕ) (q : Segment) (limit : ℕ) (low : q.number < limit) where
  one_ack : (m : ℕ) → n ∷ [] ≡ m ∷ [] → m < limit → n < limit
  one_ack m e h = let f : n ≡ m = cc in omega arith

  no_ack : ◌≡◌ {A = List ℕ} (n ∷ []) [] → n < limit
  no_ack e = let z : ◌≡◌ {A = ℕ} 0 1 = cc in absurd (omega arith)

  by_late : (b : Bool) (e : ℕ) (l : List ℕ) → e ≤ limit → (n ∷ [] ≡ l → n < limit) → n ∷ [] ≡ cond b l ((e - 1) ∷ []) → n < limit
  by_late true e l h f g = f g
  by_late false e l h f g = one_ack (e - 1) g (omega arith)

  by_order : (b : Bool) (r s : ReceiverState) (late : List ℕ) → (n ∷ [] ≡ late → n < limit)
      → n ∷ [] ≡ (cond b (Machine.received s (q.payload ∷ []) (q.number ∷ [])) (Machine.received r [] late)).acks → n < limit
  by_order true r s late f g = one_ack q.number g low
  by_order false r s late f g = f g

  by_window : (a b c : Bool) (r s : ReceiverState) (delivered : List Chunk)
      → n ∷ [] ≡ (cond a (cond b (Machine.received s delivered (q.number ∷ [])) (Machine.received r [] [])) (cond c (Machine.received r [] (q.number ∷ [])) (Machine.received r [] []))).acks → n < limit
  by_window true true c r s delivered g = one_ack q.number g low
  by_window true false c r s delivered g = no_ack g
  by_window false b true r s delivered g = one_ack q.number g low
  by_window false b false r s delivered g = no_ack g

  pub acks_low : (p : ProtocolType) (w : ℕ) (r : ReceiverState) → r.base ≤ limit → n ∷ [] ≡ (Machine.receive p w r q).acks → n < limit
  unfolding Machine.receive
  acks_low StopAndWait w r h g = by_order (eqb q.number r.base) r _ _ (by_late (ltb q.number r.base) r.base (q.number ∷ []) h (λ f. one_ack q.number f low)) g
  acks_low GoBackN w r h g = by_order (eqb q.number r.base) r _ _ (by_late (eqb r.base 0) r.base [] h no_ack) g
  acks_low SelectiveRepeat w r h g = by_window (leb r.base q.number) (ltb q.number (r.base + w)) (leb r.base (q.number + w)) r _ _ g

-- the bytes that a decision appends
carried_filled : (d : Decision) (bytes l : List ℕ) (filled : ℕ) (output ack : List ℕ) → cond d.deliver bytes [] ≡ l → (applied d bytes filled output ack).filled ≡ filled + length l
unfolding applied
carried_filled d bytes l filled output ack e = by_deliver d.deliver e
  where
    by_deliver : (b : Bool) → cond b bytes [] ≡ l → (cond b (apply_exit (filled + length bytes) (written_at output filled bytes) (ack_after d.reply ack)) (apply_exit filled output (ack_after d.reply ack))).filled ≡ filled + length l
    by_deliver true f = rw f
    by_deliver false f = rw (← f) (omega arith)

carried_output : (d : Decision) (bytes l : List ℕ) (filled : ℕ) (output ack : List ℕ) → cond d.deliver bytes [] ≡ l → (applied d bytes filled output ack).output ≡ written_at output filled l
unfolding applied
carried_output d bytes l filled output ack e = by_deliver d.deliver e
  where
    by_deliver : (b : Bool) → cond b bytes [] ≡ l → (cond b (apply_exit (filled + length bytes) (written_at output filled bytes) (ack_after d.reply ack)) (apply_exit filled output (ack_after d.reply ack))).output ≡ written_at output filled l
    by_deliver true f = rw f
    by_deliver false f = rw (← f) (sym (written_none output filled [] refl))

carried_ack : (d : Decision) (bytes : List ℕ) (filled : ℕ) (output ack : List ℕ) → (applied d bytes filled output ack).ack ≡ ack_after d.reply ack
unfolding applied
carried_ack d bytes filled output ack = by_deliver d.deliver
  where
    by_deliver : (b : Bool) → (cond b (apply_exit (filled + length bytes) (written_at output filled bytes) (ack_after d.reply ack)) (apply_exit filled output (ack_after d.reply ack))).ack ≡ ack_after d.reply ack
    by_deliver true = refl
    by_deliver false = refl

carried_fits : (d : Decision) (bytes l : List ℕ) (filled : ℕ) (output ack : List ℕ) → filled ≤ length output → room_missing d (length bytes) filled output ack ≡ false
    → cond d.deliver bytes [] ≡ l → filled + length l ≤ length output
carried_fits d bytes l filled output ack mark room e = by_deliver d.deliver refl e
  where
    by_deliver : (b : Bool) → d.deliver ≡ b → cond b bytes [] ≡ l → filled + length l ≤ length output
    by_deliver true f g = rw g at (room_output d (length bytes) filled output ack (record { mark = mark; room = room }) f)
    by_deliver false f g = rw (← g) (omega arith)

module _ {R : Type 0} (p : ProtocolType) (w : ℕ) (view : R → ReceiverState) (filledOf : R → ℕ) (x : Reception R) (raw output ack : List ℕ) (marked : x.filled ≡ filledOf x.state)
    (decides : Decides p w view filledOf x.state x.state_broken x.after x.decision x.delivered raw output) where
  abbrev r : R
  r = x.state

  abbrev d : Decision
  d = x.decision

  abbrev bytes : List ℕ
  bytes = x.delivered

  took : ReceiveKnown x raw output ack → (q : Segment) → q.number < 4294901760 → Follows view x.after d bytes (Machine.receive p w (view r) q)
      → Took view filledOf r output ack (Machine.receive p w (view r) q) (received_exit x output ack)
  took k q low f =
      rw marked (record {
        follows = f.state _;
        filled = decides.with_mark _ ∙ carried_filled d bytes _ (filledOf r) output ack f.delivered;
        output_is = carried_output d bytes _ (filledOf r) output ack f.delivered;
        fits = carried_fits d bytes _ (filledOf r) output ack (decides.mark k.state_sound) (rw marked at k.room) f.delivered;
        acks = f.acks;
        ack_made = λ n e.
            let l = acks_low n q 4294901760 low p w (view r) (decides.base_low k.state_sound) (ap acks_of (sym e) ∙ f.acks) in
            record { is = ap (take 10) (carried_ack d bytes (filledOf r) output ack) ∙ ack_front d.reply n ack e; low = omega arith };
      })

  ignored : Leaves view x.after r d (read_packet raw) → Ignored view filledOf r raw output ack (received_exit x output ack)
  unfolding ack_after
  ignored l =
      let none : cond d.deliver bytes [] ≡ [] = rw l.nothing in
      rw marked (record {
        follows = l.state _;
        filled = decides.with_mark _ ∙ carried_filled d bytes [] (filledOf r) output ack none ∙ omega arith;
        output_is = carried_output d bytes [] (filledOf r) output ack none ∙ written_none output (filledOf r) [] refl;
        silent = λ invalid.
            let s = l.silent (not_valid_corrupted raw invalid) in (rw s, carried_ack d bytes (filledOf r) output ack ∙ rw s);
      })

  no_data : ((n : ℕ) → read_packet raw ≡ reading.Data n → ⊥) → ReceiveOutcome p w view filledOf r raw output ack (received_exit x output ack)
  no_data no_number = not_data no_number (ignored (decides.on_other no_number))

  by_kind : ReceiveKnown x raw output ack → (h : PacketReading) → read_packet raw ≡ h → ReceiveOutcome p w view filledOf r raw output ack (received_exit x output ack)
  by_kind k (reading.Data n) e =
      let low = read_low raw n k.taken k.not_high e in
      data_taken n e low (took k (record { number = n; payload = payload_of raw }) low (decides.on_data k.state_sound n e k.short))
  by_kind k (reading.Fin m) e = no_data (λ n f. let g = sym e ∙ f in let z : ◌≡◌ {A = ℕ} 0 1 = cc in omega arith)
  by_kind k reading.Ack e = no_data (λ n f. let g = sym e ∙ f in let z : ◌≡◌ {A = ℕ} 0 1 = cc in omega arith)
  by_kind k reading.Corrupted e = no_data (λ n f. let g = sym e ∙ f in let z : ◌≡◌ {A = ℕ} 0 1 = cc in omega arith)

  pub receive_outcome : ReceiveOutcome p w view filledOf r raw output ack (receive x raw output ack)
  receive_outcome =
      receive_either x raw output ack (λ (y : ReceiveExit R). ReceiveOutcome p w view filledOf r raw output ack y) (λ s. packet_refused s refl)
      (λ k. by_kind k (read_packet raw) refl)

-- what holds of the state, and of whatever a packet that isn't refused makes of it, holds after the call
pub after_packet_lem : {R : Type 0} (P : R → Type 0) (x : Reception R) (raw output ack : List ℕ) → P x.state → (ReceiveKnown x raw output ack → (n : ℕ) → P (x.after n))
    → P (receive x raw output ack).receiver
after_packet_lem {R} P x raw output ack before step = receive_either x raw output ack (λ (y : ReceiveExit R). P y.receiver) (λ s. before) (λ k. step k _)

-- the output keeps its length, and the fill mark stays within it
module _ {R : Type 0} (p : ProtocolType) (w : ℕ) (view : R → ReceiverState) (filledOf : R → ℕ) (r : R) (raw output ack : List ℕ) (result : ReceiveExit R)
    (outcome : ReceiveOutcome p w view filledOf r raw output ack result) (mark : filledOf r ≤ length output) where
  pub outcome_length : length result.output ≡ length output
  outcome_length = elim outcome [
    | packet_refused s e ↦ rw e
    | not_data n i ↦ rw i.output_is
    | data_taken n e l t ↦ ap length t.output_is ∙ written_length output _ (filledOf r) t.fits
  ]

  pub outcome_mark : filledOf result.receiver ≤ length result.output
  outcome_mark = elim outcome [
    | packet_refused s e ↦ rw e mark
    | not_data n i ↦ rw (i.filled, i.output_is) mark
    | data_taken n e l t ↦ rw (t.filled, outcome_length) t.fits
  ]

-- the output up to the fill mark: what it was, then what is delivered
pub took_output : {R : Type 0} {view : R → ReceiverState} {filledOf : R → ℕ} {r : R} {output ack : List ℕ} {m : Received} {result : ReceiveExit R}
    → Took view filledOf r output ack m result → filledOf r ≤ length output → take (filledOf result.receiver) result.output ≡ take (filledOf r) output ++ flatten m.delivered
took_output {filledOf = filledOf} {r = r} {output = output} {m = m} t mark = rw (t.filled, t.output_is) (written_front output (flatten m.delivered) (filledOf r) mark)

pub flatten_append : (a b : List Chunk) → flatten (a ++ b) ≡ flatten a ++ flatten b
unfolding flatten
flatten_append [] b = refl
flatten_append (c ∷ a) b = ap (λ (l : List ℕ). c ++ l) (flatten_append a b) ∙ sym (append_assoc c (flatten a) (flatten b))
