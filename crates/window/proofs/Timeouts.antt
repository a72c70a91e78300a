-- Laws of what a timeout decides.
use Rattle.std.specs.Prelude.{Err, Ok, Result}
use Prim.Native.Nat.{ℕ, ◌<◌}
use mathlib.Core.Path.{◌≡◌, refl, sym, ap, ◌∙◌}
use mathlib.Core.Bool.{Bool, true, false}
use mathlib.Core.List.{List}
use native.Mathlib.Omega.{arith}
use borrow.Author.Tests.{eq-eqb, ne_eqb, eqb-true, eqb-false}
use lib.Dec.{eqb}
use Rattle.refusal.specs.declared.Refusal.TheVariants.{State, Counts}
use Rattle.refusal.specs.Order.{order, or_else, numbered, first_of, verdict, decide}
use Rattle.window.specs.Slots.{Sender}
use Rattle.window.specs.Resending.{TimeoutExit, resend, timeout_decision, by_timeout_decision}
use Rattle.window.specs.declared.TimeoutDecision.{TimeoutDecision}
use Rattle.window.specs.declared.TimeoutDecision.TheVariants as decision
use Rattle.window.proofs.Resending.{resend_state, resend_counts, resend_nothing}
use Rattle.refusal.specs.declared.Refusal.{Refusal}

module _ (broken counts : Bool) (n k : ℕ) where
  pub decision_state : broken ≡ true → timeout_decision broken counts n k ≡ Err State
  unfolding timeout_decision verdict first_of numbered or_else order decide
  decision_state e = rw e

  pub decision_counts : broken ≡ false → counts ≡ true → timeout_decision broken counts n k ≡ Err Counts
  unfolding timeout_decision verdict first_of numbered or_else order decide
  decision_counts e f = rw (e, f)

  pub decision_nothing : broken ≡ false → counts ≡ false → k ≡ 0 → timeout_decision broken counts n k ≡ Ok decision.Nothing
  unfolding timeout_decision verdict first_of numbered or_else order decide
  decision_nothing e f z = rw (e, f, eq-eqb k 0 z)

  pub decision_resend : broken ≡ false → counts ≡ false → (k ≡ 0 → ⊥) → timeout_decision broken counts n k ≡ Ok (decision.Resend n k)
  unfolding timeout_decision verdict first_of numbered or_else order decide
  decision_resend e f z = rw (e, f, ne_eqb k 0 z)

-- the call is the decision carried out
pub resend_decided : (broken counts : Bool) (v : Sender) (n k : ℕ) (out : List ℕ) → by_timeout_decision (timeout_decision broken counts n k) v out ≡ resend broken counts v n k out
unfolding by_timeout_decision
resend_decided true counts v n k out = ap (λ (d : Result TimeoutDecision Refusal). by_timeout_decision d v out) (decision_state true counts n k refl) ∙ resend_state true counts v n k out refl
resend_decided false true v n k out = ap (λ (d : Result TimeoutDecision Refusal). by_timeout_decision d v out) (decision_counts false true n k refl refl) ∙ resend_counts false true v n k out refl refl
resend_decided false false v n k out = by_count (eqb k 0) refl where
  by_count : (b : Bool) → eqb k 0 ≡ b → by_timeout_decision (timeout_decision false false n k) v out ≡ resend false false v n k out
  by_count true e =
      ap (λ (d : Result TimeoutDecision Refusal). by_timeout_decision d v out) (decision_nothing false false n k refl refl (eqb-true k 0 e)) ∙ resend_nothing false false v n k out refl refl (eqb-true k 0 e)
  by_count false e = ap (λ (d : Result TimeoutDecision Refusal). by_timeout_decision d v out) (decision_resend false false n k refl refl (eqb-false k 0 e))

pub by_decision_lem : (broken counts : Bool) (v : Sender) (n k : ℕ) (out : List ℕ) (d : Result TimeoutDecision Refusal) {r : TimeoutExit Sender} → timeout_decision broken counts n k ≡ d → r ≡ by_timeout_decision d v out
    → r ≡ resend broken counts v n k out
by_decision_lem broken counts v n k out d e q = q ∙ ap (λ (f : Result TimeoutDecision Refusal). by_timeout_decision f v out) (sym e) ∙ resend_decided broken counts v n k out

-- what is known where numbers are sent again
pub record Decided (broken counts : Bool) (n k m j : ℕ) : Type 0 where
  pub state_sound : broken ≡ false
  pub counts_low : counts ≡ false
  pub first : m ≡ n
  pub count : j ≡ k
  pub some : 0 < k

pub decided : (broken counts : Bool) (n k m j : ℕ) → timeout_decision broken counts n k ≡ Ok (decision.Resend m j) → Decided broken counts n k m j
decided true counts n k m j e = let d = sym e ∙ decision_state true counts n k refl in let z : ◌≡◌ {A = ℕ} 0 1 = cc in absurd (omega arith)
decided false true n k m j e = let d = sym e ∙ decision_counts false true n k refl refl in let z : ◌≡◌ {A = ℕ} 0 1 = cc in absurd (omega arith)
decided false false n k m j e = by_count (eqb k 0) refl where
  by_count : (b : Bool) → eqb k 0 ≡ b → Decided false false n k m j
  by_count true f = let d = sym e ∙ decision_nothing false false n k refl refl (eqb-true k 0 f) in let z : ◌≡◌ {A = ℕ} 0 1 = cc in absurd (omega arith)
  by_count false f =
      let d = sym e ∙ decision_resend false false n k refl refl (eqb-false k 0 f) in
      let ne = eqb-false k 0 f in
      record { state_sound = refl; counts_low = refl; first = cc; count = cc; some = omega arith }
