-- The answers of `ack_decision`, one law for each, and what an accepted ACK says of the state.
use Rattle.std.specs.Prelude.{Err, Ok, Result}
use Prim.Native.Nat.{ℕ, ◌+◌, ◌≤◌, ◌<◌}
use mathlib.Core.Path.{◌≡◌, refl, sym, ap, ◌∙◌}
use mathlib.Core.Bool.{Bool, true, false, cond, and-eq-true_iff}
use mathlib.Core.List.{List, ◌++◌}
use native.Mathlib.Omega.{arith}
use borrow.Author.Tests.{ltb-true, leb-true}
use Rattle.bounds.specs.Bounds.{count_limit}
use Rattle.refusal.specs.declared.Refusal.{Refusal}
use Rattle.refusal.specs.declared.Refusal.TheVariants.{State, Counts}
use Rattle.refusal.specs.Order.{verdict, order, decide, held_checks}
use Rattle.refusal.proofs.Laws.{true_check, held_state, held_counts, held_none, on_accepted, on_refused}
use Rattle.packet.specs.Reading.{read_datagram, reading_checks}
use Rattle.packet.specs.declared.PacketType.{PacketType}
use Rattle.packet.specs.declared.PacketType.TheVariants as packetType
use Rattle.packet.specs.declared.DatagramReading.{DatagramReading}
use Rattle.packet.specs.declared.DatagramReading.TheVariants as reading
use Rattle.packet.proofs.Laws.{reading_after}
use Rattle.window.specs.State.{state_broken, counts_broken}
use Rattle.window.specs.Acknowledgement.{is_in_window, by_type, by_reading, ack_decision, ack_exit, by_decision}
use Rattle.window.specs.declared.SendWindow.{SendWindow}
use Rattle.window.specs.declared.AckDecision.{AckDecision}
use Rattle.window.specs.declared.AckDecision.TheVariants as decision
use Rattle.window.proofs.Sound.{Sound, sound, counts_low}

-- what is known where an ACK of number n is accepted
pub record Accepted (selective : Bool) (s : SendWindow) (store : List ℕ) (n base : ℕ) : Type 0 where
  pub state : Sound selective s store
  pub counts : (s.total_sent < count_limit) × (s.retransmissions < count_limit)
  pub from : s.send_base ≤ n
  pub below : n < s.next_seq_num
  pub moved : base ≡ n + 1

module _ (selective : Bool) (s : SendWindow) (store raw : List ℕ) where
  pub ack_state : state_broken selective s store ≡ true → ack_decision selective s store raw ≡ Err State
  unfolding ack_decision order
  ack_state e =
      on_refused Err _ (rw e (reading_after raw State (held_checks true (counts_broken s)) refl (held_state (counts_broken s))))

  pub ack_counts : state_broken selective s store ≡ false → counts_broken s ≡ true → ack_decision selective s store raw ≡ Err Counts
  unfolding ack_decision order
  ack_counts e f = on_refused Err _ (rw (e, f) (reading_after raw Counts (held_checks false true) refl held_counts))

  -- on a state that isn't refused the reading decides
  pub ack_read : state_broken selective s store ≡ false → counts_broken s ≡ false → ack_decision selective s store raw ≡ by_reading s (read_datagram raw)
  unfolding ack_decision
  ack_read e f = rw (e, f) (by_reading_lem (read_datagram raw)) where
    by_reading_lem : (x : Result DatagramReading Refusal) → decide (verdict (reading_checks x ++ held_checks false false)) Err (by_reading s x) ≡ by_reading s x
    by_reading_lem (Ok (reading.Valid p)) = on_accepted Err _ held_none
    by_reading_lem (Ok (reading.Corrupted p)) = on_accepted Err _ held_none
    by_reading_lem (Err r) = on_refused Err _ (true_check r (held_checks false false) (refl, (refl, tt)))

  -- a refusal, or what the reading says on a state that isn't refused
  pub ack_either : (P : Result AckDecision Refusal → Type 0) → ((r : Refusal) → P (Err r))
      → (state_broken selective s store ≡ false → counts_broken s ≡ false → P (by_reading s (read_datagram raw))) → P (ack_decision selective s store raw)
  ack_either P refused read = by_state (state_broken selective s store) (counts_broken s) refl refl where
    by_state : (b c : Bool) → state_broken selective s store ≡ b → counts_broken s ≡ c → P (ack_decision selective s store raw)
    by_state true c f g = rw (ack_state f) (refused State)
    by_state false true f g = rw (ack_counts f g) (refused Counts)
    by_state false false f g = rw (ack_read f g) (read f g)

  by_type_lem : (n base m : ℕ) (t : PacketType) → by_type s t m ≡ Ok (decision.Accept n base) → (is_in_window s n ≡ true) × (base ≡ n + 1)
  by_type_lem n base m packetType.Data e = let z : ◌≡◌ {A = ℕ} 0 1 = cc in absurd (omega arith)
  by_type_lem n base m packetType.Fin e = let z : ◌≡◌ {A = ℕ} 0 1 = cc in absurd (omega arith)
  by_type_lem n base m packetType.Ack e = by_test_lem (is_in_window s m) refl e where
    by_test_lem : (b : Bool) → is_in_window s m ≡ b → cond {A = Result AckDecision Refusal} b (Ok (decision.Accept m (m + 1))) (Ok decision.NotAccepted) ≡ Ok (decision.Accept n base) → (is_in_window s n ≡ true) × (base ≡ n + 1)
    by_test_lem true f g = let h : m ≡ n = cc in let k : m + 1 ≡ base = cc in (ap (is_in_window s) (sym h) ∙ f, sym k ∙ ap (λ (i : ℕ). i + 1) h)
    by_test_lem false f g = let z : ◌≡◌ {A = ℕ} 0 1 = cc in absurd (omega arith)

  by_read : (n base : ℕ) (x : Result DatagramReading Refusal) → by_reading s x ≡ Ok (decision.Accept n base) → (is_in_window s n ≡ true) × (base ≡ n + 1)
  by_read n base (Ok (reading.Valid p)) e = by_type_lem n base p.seq_num p.pkt_type e
  by_read n base (Ok (reading.Corrupted p)) e = let z : ◌≡◌ {A = ℕ} 0 1 = cc in absurd (omega arith)
  by_read n base (Err r) e = let z : ◌≡◌ {A = ℕ} 0 1 = cc in absurd (omega arith)

  pub ack_accepted : (n base : ℕ) → ack_decision selective s store raw ≡ Ok (decision.Accept n base) → Accepted selective s store n base
  ack_accepted n base e = by_state (state_broken selective s store) (counts_broken s) refl refl where
    by_state : (b c : Bool) → state_broken selective s store ≡ b → counts_broken s ≡ c → Accepted selective s store n base
    by_state true c f g = let d = sym e ∙ ack_state f in let z : ◌≡◌ {A = ℕ} 0 1 = cc in absurd (omega arith)
    by_state false true f g = let d = sym e ∙ ack_counts f g in let z : ◌≡◌ {A = ℕ} 0 1 = cc in absurd (omega arith)
    by_state false false f g =
        let x = by_read n base (read_datagram raw) (sym (ack_read f g) ∙ e) in
        let within = (and-eq-true_iff _ _).0 x.0 in
        record {
          state = sound selective s store f;
          counts = counts_low s g;
          from = leb-true s.send_base n within.0;
          below = ltb-true n s.next_seq_num within.1;
          moved = x.1;
        }

-- the answers of `by_decision`
module _ {S : Type 0} {d : Result AckDecision Refusal} (v : S) (accept : ℕ → S) where
  pub on_accept : (n base : ℕ) {after : S} → d ≡ Ok (decision.Accept n base) → after ≡ accept n → ack_exit (Ok true) after ≡ by_decision d v accept
  unfolding by_decision
  on_accept n base e f = rw (e, f)

  pub on_not_accepted : d ≡ Ok decision.NotAccepted → ack_exit (Ok false) v ≡ by_decision d v accept
  unfolding by_decision
  on_not_accepted e = rw e

  pub on_ack_refused : (r : Refusal) → d ≡ Err r → ack_exit (Err r) v ≡ by_decision d v accept
  unfolding by_decision
  on_ack_refused r e = rw e
