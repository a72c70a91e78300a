-- An ACK, decided before anything is written, and carried out.
use Rattle.std.specs.Prelude.{Err, Ok, Result}
use Prim.Native.Nat.{ℕ}
use mathlib.Core.Path.{◌≡◌, refl, sym, ap, ◌∙◌}
use mathlib.Core.Bool.{true, false}
use mathlib.Core.List.{List}
use native.Mathlib.Omega.{arith}
use borrow.Author.Tests.{le-leb, lt-ltb}
use Rattle.refusal.specs.declared.Refusal.{Refusal}
use Rattle.packet.specs.Reading.{read_datagram}
use Rattle.window.specs.State.{state_broken, counts_broken}
use Rattle.window.specs.Slots.{Sender}
use Rattle.window.specs.Acknowledgement.{is_in_window, by_reading, ack_decision, ack_exit, by_decision}
use Rattle.window.specs.declared.AckDecision.{AckDecision}
use Rattle.window.specs.declared.AckDecision.TheVariants as decision
use Rattle.window.proofs.Laws.{sound, not_broken, ack_accepted, ack_read, on_accept, on_not_accepted, on_ack_refused}
use Rattle.selective_repeat.specs.Sender.{acknowledge_one, base_after, with_base_after, decide_ack, handle_ack}
use Rattle.selective_repeat.proofs.Due.{in_window}
use Rattle.selective_repeat.proofs.Advance.{acknowledge_base}

-- what is known where the ACK of number n is accepted
pub record Acknowledgeable (v : Sender) (n : ℕ) : Type 0 where
  pub state_sound : state_broken true v.window v.store ≡ false
  pub within : is_in_window v.window n ≡ true

module _ (v : Sender) (raw : List ℕ) where
  pub accepted_within : (n base : ℕ) → ack_decision true v.window v.store raw ≡ Ok (decision.Accept n base) → Acknowledgeable v n
  accepted_within n base e =
      let a = ack_accepted true v.window v.store raw n base e in
      record { state_sound = not_broken true v.window v.store a.state; within = rw (le-leb _ _ a.from, lt-ltb _ _ a.below) }

  -- on a state that isn't refused the reading decides
  pub decide_ack_read : state_broken true v.window v.store ≡ false → counts_broken v.window ≡ false
      → decide_ack v raw ≡ with_base_after v (by_reading v.window (read_datagram raw))
  unfolding decide_ack
  decide_ack_read e f = ap (with_base_after v) (ack_read true v.window v.store raw e f)

  pub decide_ack_within : (n base : ℕ) → decide_ack v raw ≡ Ok (decision.Accept n base) → Acknowledgeable v n × (base ≡ base_after v n)
  unfolding decide_ack
  decide_ack_within n base e = by_decision_lem (ack_decision true v.window v.store raw) refl e where
    by_decision_lem : (d : Result AckDecision Refusal) → ack_decision true v.window v.store raw ≡ d → with_base_after v d ≡ Ok (decision.Accept n base)
        → Acknowledgeable v n × (base ≡ base_after v n)
    by_decision_lem (Ok (decision.Accept m b)) f g =
        let same : m ≡ n = cc in
        let moved : base_after v m ≡ base = cc in
        (rw (← same) (accepted_within m b f), sym moved ∙ ap (base_after v) same)
    by_decision_lem (Ok decision.NotAccepted) f g = let z : ◌≡◌ {A = ℕ} 0 1 = cc in absurd (omega arith)
    by_decision_lem (Err r) f g = let z : ◌≡◌ {A = ℕ} 0 1 = cc in absurd (omega arith)

  -- the decision carried out
  pub handle_ack_decided : by_decision (decide_ack v raw) v (acknowledge_one v) ≡ handle_ack v raw
  unfolding decide_ack by_decision
  handle_ack_decided = by_decision_lem (ack_decision true v.window v.store raw) where
    by_decision_lem : (d : Result AckDecision Refusal) → by_decision (with_base_after v d) v (acknowledge_one v) ≡ by_decision d v (acknowledge_one v)
    by_decision_lem (Ok (decision.Accept n base)) = refl
    by_decision_lem (Ok decision.NotAccepted) = refl
    by_decision_lem (Err r) = refl

  -- what `handle_ack` answers and leaves, by what `decide_ack` says
  pub decide_ack_accept : (n base : ℕ) → decide_ack v raw ≡ Ok (decision.Accept n base)
      → (handle_ack v raw ≡ ack_exit (Ok true) (acknowledge_one v n)) × ((acknowledge_one v n).window.send_base ≡ base)
  decide_ack_accept n base e =
      let k = decide_ack_within n base e in
      let within = in_window v.window n k.0.within in (
        sym (on_accept v (acknowledge_one v) n base e refl ∙ handle_ack_decided),
        acknowledge_base v n (sound true v.window v.store k.0.state_sound) within.0 within.1 ∙ sym k.1,
      )

  pub decide_ack_not_accepted : decide_ack v raw ≡ Ok decision.NotAccepted → handle_ack v raw ≡ ack_exit (Ok false) v
  decide_ack_not_accepted e = sym (on_not_accepted v (acknowledge_one v) e ∙ handle_ack_decided)

  pub decide_ack_refused : (r : Refusal) → decide_ack v raw ≡ Err r → handle_ack v raw ≡ ack_exit (Err r) v
  decide_ack_refused r e = sym (on_ack_refused v (acknowledge_one v) r e ∙ handle_ack_decided)
