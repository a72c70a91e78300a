-- What holds at the end of a run holds of the answer of `run_transfer`.
use Rattle.std.specs.Prelude.{Err, Ok, Result}
use Prim.Native.Nat.{ℕ}
use native.Mathlib.Omega.{arith}
use mathlib.Core.Path.{◌≡◌, refl, sym, ap, ◌∙◌, subst}
use Rattle.refusal.specs.Order.{verdict}
use Rattle.refusal.specs.declared.Refusal.{Refusal}
use Rattle.refusal.proofs.Laws.{on_accepted, on_refused}
use Rattle.setup.specs.Setup.{CanStart, start_checks}
use Rattle.setup.proofs.Laws.{start_accepted, start_accepts}
use Rattle.setup.specs.declared.TransferConfig.{TransferConfig}
use Rattle.step.specs.State.{Given, Lent}
use Rattle.step.specs.Settle.{StepExit}
use Rattle.transfer.specs.Start.{plan_for, new_run, start_of}
use Rattle.transfer.specs.Run.{run}
use Rattle.transfer.specs.Transfer.{outcome_of, lent_of, RunExit, run_exit, ended, run_transfer}
use Rattle.transfer.specs.declared.Ceilings.{Ceilings}
use Rattle.transfer.specs.declared.Outcome.{Outcome}

not_outcome : {r : Refusal} {o : Outcome} → Err r ≡ Ok o → ⊥
not_outcome e = let z : ◌≡◌ {A = ℕ} 0 1 = cc in omega arith

module _ (k : Ceilings) (c : TransferConfig) (g : Given) (l : Lent) where
  abbrev last : StepExit
  last = run (plan_for k c g) g (new_run k c l)

  pub accepted_is : CanStart (start_of c g l) → run_transfer k c g l ≡ ended last
  unfolding run_transfer
  accepted_is h = on_accepted (λ (r : Refusal). run_exit (Err r) l) (ended last) (start_accepts (start_of c g l) h)

  refused_is : {r : Refusal} → verdict (start_checks (start_of c g l)) ≡ Err r → run_transfer k c g l ≡ run_exit (Err r) l
  unfolding run_transfer
  refused_is a = on_refused (λ (r : Refusal). run_exit (Err r) l) (ended last) a

  -- an outcome is only of a run that could start
  pub outcome_starts : {o : Outcome} → (run_transfer k c g l).answer ≡ Ok o → CanStart (start_of c g l)
  outcome_starts {o} = by_verdict (verdict (start_checks (start_of c g l))) refl
    where
      by_verdict : (v : Result Unit Refusal) → verdict (start_checks (start_of c g l)) ≡ v → (run_transfer k c g l).answer ≡ Ok o → CanStart (start_of c g l)
      by_verdict (Ok tt) a e = start_accepted (start_of c g l) a
      by_verdict (Err r) a e = absurd (not_outcome (sym (ap (λ (x : RunExit). x.answer) (refused_is a)) ∙ e))

  -- what holds of a run's end holds of the outcome
  pub by_outcome : (P : Outcome → Lent → Type 0) → (CanStart (start_of c g l) → P (outcome_of last) (lent_of last.state)) → (o : Outcome) → (run_transfer k c g l).answer ≡ Ok o → P o (run_transfer k c g l).lent
  by_outcome P h o e =
      let s = outcome_starts e in
      let i = accepted_is s in
      let same : ◌≡◌ {A = Result Outcome Refusal} (Ok (outcome_of last)) (Ok o) = sym (ap (λ (x : RunExit). x.answer) i) ∙ e in
      let is : outcome_of last ≡ o = cc in
      subst (λ (x : RunExit). P o x.lent) (sym i) (subst (λ (y : Outcome). P y (lent_of last.state)) is (h s))
