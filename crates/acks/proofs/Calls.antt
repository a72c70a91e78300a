-- What the calls of an ACK ask, and one law a return.
use Rattle.std.specs.Prelude.{Err, None, Ok, Option, Result, Some}
use Prim.Native.Nat.{ℕ, ◌-◌, ◌≤◌, ◌<◌}
use native.Mathlib.Omega.{arith}
use mathlib.Core.Path.{◌≡◌, refl, sym, ap, ◌∙◌}
use mathlib.Core.Bool.{Bool, true, false, cond}
use mathlib.Core.List.{List}
use lib.Dec.{lit<}
use Rattle.bounds.specs.Bounds.{count_limit}
use Rattle.packet.specs.Reading.{read_datagram}
use Rattle.packet.specs.declared.Packet.{Packet}
use Rattle.packet.specs.declared.PacketType.{PacketType}
use Rattle.packet.specs.declared.PacketType.TheVariants as packetType
use Rattle.packet.specs.declared.DatagramReading.{DatagramReading}
use Rattle.packet.specs.declared.DatagramReading.TheVariants as reading
use Rattle.window.specs.Acknowledgement.{AckExit, ack_exit}
use Rattle.window.proofs.Laws.{counts_low}
use Rattle.rto.specs.declared.RtoEstimator.{RtoEstimator}
use Rattle.notes.specs.Notes.{SegMetas}
use Rattle.clock.specs.Clock.{ClockState, rearm_after_ack, SampleRttExit, sample_rtt_exit, sample_rtt, CanRearm}
use Rattle.clock.specs.declared.Timing.{Timing}
use Rattle.session.specs.Sending.{SenderEnd, window_of, oldest_outstanding, handle_ack, ack_answer_of, handle_ack_unchecked}
use Rattle.session.specs.GoodSender.{SenderUnbroken}
use Rattle.session.proofs.Laws.{unbroken_numbers, good_unbroken, ack_of_number, ack_good}
use Rattle.acks.specs.Acks.{AckState, ack_state, of_type, ack_number, sample_seq, on_accepted, counted, duplicate, is_accepted, by_number, on_ack}
use Rattle.acks.specs.Good.{CanOnAck}
use Rattle.acks.specs.Internal.{CanAccept}
use Rattle.clock.proofs.Laws.{can_sample, rto_within, sampled_timely}
use Rattle.refusal.specs.declared.Refusal.{Refusal}

-- ---- the number of a valid ACK
typed : (t : PacketType) (m n : ℕ) → of_type t m ≡ Some n → (t ≡ packetType.Ack) × (m ≡ n)
typed packetType.Data m n e = let z : ◌≡◌ {A = ℕ} 0 1 = cc in absurd (omega arith)
typed packetType.Ack m n e = (refl, cc)
typed packetType.Fin m n e = let z : ◌≡◌ {A = ℕ} 0 1 = cc in absurd (omega arith)

record NumberOf (d : Result DatagramReading Refusal) (n : ℕ) : Type 0 where
  packet : Packet
  read : d ≡ Ok (reading.Valid packet)
  kind : packet.pkt_type ≡ packetType.Ack
  number : packet.seq_num ≡ n

number_of : (d : Result DatagramReading Refusal) (n : ℕ) → ack_number d ≡ Some n → NumberOf d n
number_of (Ok (reading.Valid p)) n e = let m = typed p.pkt_type p.seq_num n e in record { packet = p; read = refl; kind = m.0; number = m.1 }
number_of (Ok (reading.Corrupted p)) n e = let z : ◌≡◌ {A = ℕ} 0 1 = cc in absurd (omega arith)
number_of (Err r) n e = let z : ◌≡◌ {A = ℕ} 0 1 = cc in absurd (omega arith)

-- ---- the sender
module _ (v : SenderEnd) (raw : List ℕ) (h : SenderUnbroken v) where
  pub acked : (n : ℕ) → ack_number (read_datagram raw) ≡ Some n → handle_ack v raw ≡ handle_ack_unchecked v n
  acked n e = let m = number_of (read_datagram raw) n e in ack_of_number v raw h m.packet m.read m.kind ∙ ap (handle_ack_unchecked v) m.number

  pub acked_unbroken : SenderUnbroken (handle_ack v raw).after
  acked_unbroken =
      let low = counts_low (window_of v.sender) h.counts in
      good_unbroken (ack_good v raw (count_limit - 1) (record { state = record { state = h.state; clean = h.clean }; sent = most _ count_limit low.0; again = most _ count_limit low.1 })) (last count_limit (lit< tt))
    where
      most : (a l : ℕ) → a < l → a ≤ l - 1
      most a l h = omega arith

      last : (l : ℕ) → 0 < l → l - 1 < l
      last l h = omega arith

-- ---- an accepted ACK
module _ (timing : Timing) (now n seq : ℕ) (s : AckState) {m : SegMetas} {e : RtoEstimator} (p : sample_rtt_exit m e ≡ sample_rtt s.estimator s.metas seq now) where
  pub can_rearm : CanAccept s.sender.sender s.estimator s.clock s.metas seq now → CanRearm s.clock m now e.current_rto
  can_rearm can = record { held = can.clock; notes = rw (← p) at (sampled_timely s.estimator s.metas seq now can.notes); short = rw (← p) at can.rto }

  pub accepted_is : {o : Option ℕ} {c : ClockState} → o ≡ oldest_outstanding s.sender.sender → c ≡ rearm_after_ack timing s.clock m (record { time = now; seq = n; rto = e.current_rto; oldest = o })
      → ack_state s.sender e c m s.received s.duplicates ≡ on_accepted timing now n seq s
  unfolding on_accepted
  accepted_is q r =
      rw (r, q)
      (ap (λ (x : SampleRttExit). ack_state s.sender x.estimator (rearm_after_ack timing s.clock x.metas (record { time = now; seq = n; rto = x.estimator.current_rto; oldest = oldest_outstanding s.sender.sender })) x.metas s.received s.duplicates) p)

-- ---- any datagram
module _ (timing : Timing) (now : ℕ) (raw : List ℕ) (s : AckState) where
  abbrev pub answered : ℕ → AckExit SenderEnd → AckState
  answered n x = cond (is_accepted x.answer) (on_accepted timing now n (sample_seq s.sender.sender.state n) (counted s x.after)) (duplicate (counted s x.after))

  pub dropped_law : {a : Option ℕ} → a ≡ ack_number (read_datagram raw) → a ≡ None → s ≡ on_ack timing now raw s
  unfolding on_ack
  dropped_law e f = ap (λ (y : Option ℕ). by_number y timing now raw s) (sym f ∙ e)

  pub answered_is : (n : ℕ) → ack_number (read_datagram raw) ≡ Some n → answered n (handle_ack s.sender raw) ≡ on_ack timing now raw s
  unfolding on_ack
  answered_is n e = ap (λ (y : Option ℕ). by_number y timing now raw s) (sym e)

  module _ {a : Option ℕ} {n : ℕ} {v : SenderEnd} (b : Bool) (can : CanOnAck s now) (e : a ≡ ack_number (read_datagram raw)) (f : a ≡ Some n) (g : ack_exit (ack_answer_of b) v ≡ handle_ack_unchecked s.sender n) where
    same : ack_exit (ack_answer_of b) v ≡ handle_ack s.sender raw
    same = g ∙ sym (acked s.sender raw can.good.sender n (sym e ∙ f))

    by_answer : {d : Bool} → b ≡ d → answered n (ack_exit (ack_answer_of d) v) ≡ on_ack timing now raw s
    by_answer q = ap (λ (y : Bool). answered n (ack_exit (ack_answer_of y) v)) (sym q) ∙ ap (answered n) same ∙ answered_is n (sym e ∙ f)

    pub can_accept : (seq : ℕ) → CanAccept v.sender s.estimator s.clock s.metas seq now
    can_accept seq =
        let u = rw (← same) at (acked_unbroken s.sender raw can.good.sender) in
        record {
          numbers = unbroken_numbers v u.state;
          sample = can_sample s.estimator s.received can.good.estimator s.metas now can.good.notes can.few;
          clock = can.good.clock;
          notes = can.good.notes;
          rto = rto_within s.estimator s.received can.good.estimator s.metas now can.good.notes seq;
        }

    pub accepted_law : {seq : ℕ} {x : AckState} → seq ≡ sample_seq s.sender.sender.state n → b ≡ true → x ≡ on_accepted timing now n seq (counted s v) → x ≡ on_ack timing now raw s
    accepted_law p q r = r ∙ ap (λ (k : ℕ). on_accepted timing now n k (counted s v)) p ∙ by_answer q

    pub duplicate_law : b ≡ false → duplicate (counted s v) ≡ on_ack timing now raw s
    duplicate_law q = by_answer q
