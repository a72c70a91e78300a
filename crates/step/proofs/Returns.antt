-- A step over what its calls leave.
use Rattle.std.specs.Prelude.{Option}
use Prim.Native.Nat.{ℕ, ◌<◌}
use native.Mathlib.Omega.{arith}
use mathlib.Core.Path.{◌≡◌, ap, ◌∙◌}
use mathlib.Core.List.{List}
use mathlib.Core.Bool.{false}
use borrow.Author.Tests.{eq-eqb}
use Rattle.path.specs.Path.{is_going}
use Rattle.path.specs.declared.Stop.{Stop}
use Rattle.step.specs.State.{Given, RunState, Lent, lent, run_of, exhausted}
use Rattle.step.specs.Settle.{StepExit, over, unless_stopped}
use Rattle.step.specs.Step.{step}
use Rattle.step.specs.declared.Plan.{Plan}
use Rattle.step.specs.declared.State.{State}
use Rattle.step.specs.declared.End.TheVariants as end
use Rattle.step.proofs.Rounds.{no_round}

pub some_round : (n : ℕ) → (n ≡ 0 → ⊥) → 0 < n
some_round n h = by_zero n h
  where
    by_zero : (n : ℕ) → (n ≡ 0 → ⊥) → 0 < n
    by_zero n h = omega arith

module _ (p : Plan) (g : Given) (s : State) (l : Lent) where
  pub no_round_is : s.rounds ≡ 0 → {S : State} → ((m : Lent) → run_of S m ≡ exhausted (run_of s m)) → {y : StepExit} → y ≡ over (run_of S l) end.Ended s.now → y ≡ step p g (run_of s l)
  no_round_is z f e = no_round p g (run_of s l) (eq-eqb _ _ z) (e ∙ ap (λ (X : RunState). over X end.Ended s.now) (f l))

pub stops_at : {S T : State} → S ≡ T → (l : Lent) (st : Option Stop) {y : StepExit} → ((rest : StepExit) → is_going st ≡ false → y ≡ unless_stopped st (run_of S l) rest) → (rest : StepExit) → is_going st ≡ false → y ≡ unless_stopped st (run_of T l) rest
stops_at e l st h rest k = h rest k ∙ ap (λ (Z : State). unless_stopped st (run_of Z l) rest) e

-- equal states with equal slices
pub same_run : {S T : State} {a a' b b' c c' : List ℕ} {d d' e e' f f' : List (List ℕ)} {h h' : List ℕ} {i i' : List (List ℕ)} {j j' k k' m m' : List ℕ} → S ≡ T → a ≡ a' → b ≡ b' → c ≡ c' → d ≡ d' → e ≡ e' → f ≡ f' → h ≡ h' → i ≡ i' → j ≡ j'
    → k ≡ k' → m ≡ m' → run_of S (lent a b c d e f h i j k m) ≡ run_of T (lent a' b' c' d' e' f' h' i' j' k' m')
same_run {S} {T} {a} {a'} {b} {b'} {c} {c'} {d} {d'} {e} {e'} {f} {f'} {h} {h'} {i} {i'} {j} {j'} {k} {k'} {m} {m'} z p q r s t u v w x y n =
    ap (λ (Z : State). run_of Z (lent a b c d e f h i j k m)) z ∙ ap (λ (l : Lent). run_of T l)
    (ap (λ (o : List ℕ). lent o b c d e f h i j k m) p ∙ ap (λ (o : List ℕ). lent a' o c d e f h i j k m) q ∙ ap (λ (o : List ℕ). lent a' b' o d e f h i j k m) r
    ∙ ap (λ (o : List (List ℕ)). lent a' b' c' o e f h i j k m) s ∙ ap (λ (o : List (List ℕ)). lent a' b' c' d' o f h i j k m) t ∙ ap (λ (o : List (List ℕ)). lent a' b' c' d' e' o h i j k m) u
    ∙ ap (λ (o : List ℕ). lent a' b' c' d' e' f' o i j k m) v ∙ ap (λ (o : List (List ℕ)). lent a' b' c' d' e' f' h' o j k m) w ∙ ap (λ (o : List ℕ). lent a' b' c' d' e' f' h' i' o k m) x
    ∙ ap (λ (o : List ℕ). lent a' b' c' d' e' f' h' i' j' o m) y ∙ ap (λ (o : List ℕ). lent a' b' c' d' e' f' h' i' j' k' o) n)
