-- What a datagram handed to a sender as an ACK does, by what is read in it.
use Rattle.std.specs.Prelude.{Err, Ok, Result}
use Prim.Native.Nat.{ℕ, suc, ◌+◌, ◌-◌}
use mathlib.Core.Path.{◌≡◌, refl, sym, ap, ◌∙◌}
use mathlib.Core.Bool.{Bool, true, false, cond, ◌&&◌}
use mathlib.Core.List.{List}
use native.Mathlib.Omega.{arith}
use lib.Dec.{ltb, leb}
use Rattle.protocol.specs.Machine.{move_base, acknowledge}
use Rattle.protocol.specs.Machine
use Rattle.protocol.specs.declared.ProtocolType.{ProtocolType}
use Rattle.protocol.specs.declared.ProtocolType.TheVariants.{GoBackN}
use Rattle.refusal.specs.declared.Refusal.{Refusal}
use Rattle.packet.specs.Reading.{read_datagram}
use Rattle.packet.specs.declared.Packet.{Packet}
use Rattle.packet.specs.declared.PacketType.{PacketType}
use Rattle.packet.specs.declared.PacketType.TheVariants as packetType
use Rattle.packet.specs.declared.DatagramReading.{DatagramReading}
use Rattle.packet.specs.declared.DatagramReading.TheVariants as reading
use Rattle.window.specs.Slots.{Sender, release}
use Rattle.window.specs.Acknowledgement.{is_in_window, by_type, by_reading, ack_decision, AckExit, ack_exit, by_decision}
use Rattle.window.specs.declared.AckDecision.{AckDecision}
use Rattle.window.specs.declared.AckDecision.TheVariants as decision
use Rattle.window.proofs.Laws.{not_broken, Accepted, ack_accepted, ack_either, on_accept, on_not_accepted, on_ack_refused}
use Rattle.go_back_n.specs.Sender.{handle_ack}
use Rattle.refinement.specs.Follows.{sender_of}
use Rattle.refinement.specs.Good.{Good}
use Rattle.refinement.specs.Copies.{IsAck}
use Rattle.refinement.proofs.Good.{good_sound, base_too, none_acknowledged, release_good}
use Rattle.refinement.proofs.Senders.{release_follows}
use Rattle.refinement.proofs.Sending.{next_number_lem}

-- a valid ACK of number n
pub record Acknowledged {S : Type 0} (p : ProtocolType) (selective : Bool) (view : S → Sender) (v : S) (n : ℕ) (after : S) : Type 0 where
  pub follows : sender_of (view after) ≡ acknowledge p (sender_of (view v)) n
  pub good : Good selective (view after)

pub data AckOutcome {S : Type 0} (p : ProtocolType) (selective : Bool) (view : S → Sender) (v : S) (raw : List ℕ) (r : AckExit S) : Type 0 where
  ack_refused : (s : Refusal) → r ≡ ack_exit (Err s) v → AckOutcome p selective view v raw r
  ack_ignored : ((n : ℕ) → IsAck raw n → ⊥) → r ≡ ack_exit (Ok false) v → AckOutcome p selective view v raw r
  ack_taken : (n : ℕ) → IsAck raw n → Acknowledged p selective view v n r.after → AckOutcome p selective view v raw r

-- what is asked of a protocol: an accepted number makes of its state what it makes of the machine's
pub record Accepts {S : Type 0} (p : ProtocolType) (selective : Bool) (view : S → Sender) (v : S) (accept : ℕ → S) : Type 0 where
  pub follows : (n : ℕ) → Accepted selective (view v).window (view v).store n (n + 1) → sender_of (view (accept n)) ≡ Machine.accept p (sender_of (view v)) n
  pub good : (n : ℕ) → Accepted selective (view v).window (view v).store n (n + 1) → Good selective (view (accept n))

module _ {S : Type 0} (p : ProtocolType) (selective : Bool) (view : S → Sender) (v : S) (accept : ℕ → S) (accepts : Accepts p selective view v accept) (raw : List ℕ) where
  abbrev result : AckExit S
  result = by_decision (ack_decision selective (view v).window (view v).store raw) v accept

  same_test : Good selective (view v) → (n : ℕ) → Machine.is_in_window (sender_of (view v)) n ≡ is_in_window (view v).window n
  same_test g n = ap (λ (m : ℕ). leb (view v).window.send_base n && ltb n m) (next_number_lem selective (view v) g)

  of_number : Good selective (view v) → (n : ℕ) → IsAck raw n → (b : Bool) → is_in_window (view v).window n ≡ b
      → ack_decision selective (view v).window (view v).store raw ≡ cond b (Ok (decision.Accept n (n + 1))) (Ok decision.NotAccepted) → AckOutcome p selective view v raw result
  unfolding acknowledge
  of_number g n f true t d =
      let a = ack_accepted selective (view v).window (view v).store raw n (n + 1) d in
      let is : ack_exit (Ok true) (accept n) ≡ result = on_accept v accept n (n + 1) d refl in
      ack_taken n f (rw (← is) (record { follows = rw (same_test g n ∙ t) (accepts.follows n a); good = accepts.good n a }))
  of_number g n f false t d =
      let is : ack_exit (Ok false) v ≡ result = on_not_accepted v accept d in
      ack_taken n f (rw (← is) (record { follows = rw (same_test g n ∙ t); good = g }))

  not_ack : (q : Packet) → read_datagram raw ≡ Ok (reading.Valid q) → (q.pkt_type ≡ packetType.Ack → ⊥) → (n : ℕ) → IsAck raw n → ⊥
  not_ack q f other n a = let same : Ok (reading.Valid a.packet) ≡ Ok (reading.Valid q) = sym a.read ∙ f in let is : a.packet ≡ q = cc in other (rw (← is) a.kind)

  by_type_lem : Good selective (view v) → (q : Packet) → read_datagram raw ≡ Ok (reading.Valid q) → (t : PacketType) → q.pkt_type ≡ t
      → ack_decision selective (view v).window (view v).store raw ≡ by_type (view v).window t q.seq_num → AckOutcome p selective view v raw result
  by_type_lem g q f packetType.Ack k d =
      of_number g q.seq_num (record { packet = q; read = f; kind = k; number = refl }) (is_in_window (view v).window q.seq_num) refl d
  by_type_lem g q f packetType.Data k d =
      ack_ignored (not_ack q f (λ e. let no = sym k ∙ e in let z : ◌≡◌ {A = ℕ} 0 1 = cc in omega arith)) (sym (on_not_accepted v accept d))
  by_type_lem g q f packetType.Fin k d =
      ack_ignored (not_ack q f (λ e. let no = sym k ∙ e in let z : ◌≡◌ {A = ℕ} 0 1 = cc in omega arith)) (sym (on_not_accepted v accept d))

  by_reading_lem : Good selective (view v) → (x : Result DatagramReading Refusal) → read_datagram raw ≡ x
      → ack_decision selective (view v).window (view v).store raw ≡ by_reading (view v).window x → AckOutcome p selective view v raw result
  by_reading_lem g (Ok (reading.Valid q)) f d = by_type_lem g q f q.pkt_type refl d
  by_reading_lem g (Ok (reading.Corrupted q)) f d =
      ack_ignored (λ n a. let no = sym a.read ∙ f in let z : ◌≡◌ {A = ℕ} 0 1 = cc in omega arith) (sym (on_not_accepted v accept d))
  by_reading_lem g (Err s) f d = ack_refused s (sym (on_ack_refused v accept s d))

  pub ack_outcome : AckOutcome p selective view v raw result
  ack_outcome =
      ack_either selective (view v).window (view v).store raw
      (λ (d : Result AckDecision Refusal). ack_decision selective (view v).window (view v).store raw ≡ d → AckOutcome p selective view v raw result)
      (λ s e. ack_refused s (sym (on_ack_refused v accept s e))) (λ sound counts e. by_reading_lem sound (read_datagram raw) refl e) refl

  pub ack_good : Good selective (view v) → Good selective (view result.after)
  ack_good g = elim ack_outcome [
    | ack_refused s e ↦ rw e g
    | ack_ignored n e ↦ rw e g
    | ack_taken n f a ↦ a.good
  ]

-- Stop-and-Wait and Go-Back-N: a number and all before it
module _ (v : Sender) (n : ℕ) (a : Accepted false v.window v.store n (n + 1)) where
  good_before : Good false v
  good_before = not_broken false v.window v.store a.state

  pub cumulative_follows : sender_of (release v (n + 1)) ≡ move_base (sender_of v) (suc n - v.window.send_base)
  cumulative_follows =
      let b = a.below in
      let f = a.from in
      let e : n + 1 ≡ suc n = omega arith in
      release_follows _ v (n + 1) (good_sound false v good_before) (omega arith) (omega arith) ∙ rw e

  pub cumulative_good : Good false (release v (n + 1))
  cumulative_good =
      let b = a.below in
      let f = a.from in
      let s = good_sound false v good_before in
      release_good false v (n + 1) (base_too false v s) (omega arith) (omega arith) (λ h. none_acknowledged v good_before (n + 1) (omega arith) h)

pub go_back_n_accepts : (v : Sender) → Accepts GoBackN false (λ u. u) v (λ n. release v (n + 1))
go_back_n_accepts v = record { follows = cumulative_follows v; good = cumulative_good v }

pub go_back_n_ack : (v : Sender) (raw : List ℕ) → AckOutcome GoBackN false (λ u. u) v raw (handle_ack v raw)
go_back_n_ack v raw = ack_outcome GoBackN false (λ u. u) v (λ n. release v (n + 1)) (go_back_n_accepts v) raw
