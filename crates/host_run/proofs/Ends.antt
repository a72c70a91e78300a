-- What a run over words answers, from the equation of `run_transfer`; the stores of an outcome.
use Rattle.std.specs.Prelude.{Err, Ok, Result}
use Prim.Native.Nat.{ℕ, ◌≤◌}
use mathlib.Core.Path.{◌≡◌, refl, ap, ◌∙◌}
use mathlib.Core.Bool.{Bool, true, false, cond}
use mathlib.Core.List.{List}
use borrow.Author.Tests.{ltb-false}
use lib.ListN.{length}
use lib.Ieee.{Float}
use lib.Seq.{sets, sets-eq}
use Rattle.std.specs.Int.{from_bool}
use Rattle.refusal.proofs.Laws.{none_of}
use Rattle.refusal.specs.declared.Refusal.{Refusal}
use Rattle.refusal.specs.declared.Refusal.TheVariants.{Full}
use Rattle.refusal.specs.Order.{verdict, decide}
use Rattle.setup.specs.Setup.{start_checks}
use Rattle.setup.specs.declared.TransferConfig.{TransferConfig}
use Rattle.session.specs.Sending.{window_in}
use Rattle.host_words.specs.Words.{receiver_fields}
use Rattle.step.specs.State.{Given, Lent}
use Rattle.transfer.specs.Start.{start_of}
use Rattle.transfer.specs.Transfer.{default_ceilings, RunExit, run_exit, run_transfer}
use Rattle.transfer.specs.declared.Outcome.{Outcome}
use Rattle.host_answer.specs.Answer.{packed, refusal_answer}
use Rattle.host_estimator.specs.Words.{estimator_words, estimator_doubles, with_words, with_doubles, Room}
use Rattle.host_run.specs.Setup.{setup_numbers, setup_doubles, setup_short, read_setup, Long}
use Rattle.host_run.specs.Outcome.{outcome_words, course_words, driver_words, sender_words, receiver_words, channel_words, words_of, with_outcome}
use Rattle.host_run.specs.Run.{Results, results, results_short, host_run_exit, ended, ended_as, short_answer, run_with, run_read, run}

pub long : (s : List ℕ) (d : List Float) → setup_short s d ≡ false → Long s d
unfolding setup_short
long s d e =
    let none = none_of _ e in
    record { numbers = ltb-false (length s) setup_numbers none.0; doubles = ltb-false (length d) setup_doubles none.1.0 }

-- a bool's number
pub from_is : (b : Bool) {n : ℕ} → n ≡ from_bool b → n ≡ cond b 1 0
from_is true e = e
from_is false e = e

-- words enough for the outcome and the estimator
pub record Enough (x : Results) : Type 0 where
  pub outcome : outcome_words ≤ length x.words
  pub room : Room x.estimator x.doubles

pub enough : (x : Results) → results_short x ≡ false → Enough x
unfolding results_short
enough x e =
    let none = none_of _ e in
    record {
      outcome = ltb-false (length x.words) outcome_words none.0;
      room = record { words = ltb-false (length x.estimator) estimator_words none.1.0; doubles = ltb-false (length x.doubles) estimator_doubles none.1.1.0 };
    }

pub outcome_put : (s : List ℕ) (o : Outcome) → outcome_words ≤ length s
    → sets (sets (sets (sets (sets (sets s 0 (course_words o.completed o.finished_at o.end)) 3 (driver_words o.driver)) 11 (sender_words (window_in o.sender.state)))
    14 (receiver_words (receiver_fields o.receiver.state))) 19 (channel_words o.forward)) 25 (channel_words o.reverse) ≡ with_outcome s o
unfolding with_outcome
outcome_put s o h = sets-eq (words_of o) s 0 h

module _ (x : Results) where
  pub on_outcome : {a : Result Outcome Refusal} {o : Outcome} {n : ℕ} {words estimator : List ℕ} {doubles : List Float} → a ≡ Ok o → words ≡ with_outcome x.words o
      → estimator ≡ with_words x.estimator o.estimator → doubles ≡ with_doubles x.doubles o.estimator → n ≡ packed 0 (cond o.completed 1 0)
      → (l : Lent) → host_run_exit n l (results words estimator doubles) ≡ ended a l x
  unfolding ended
  on_outcome h p q r s l = rw (h, p, q, r, s) refl

  pub on_run_refused : {a : Result Outcome Refusal} {r : Refusal} {n : ℕ} → a ≡ Err r → n ≡ refusal_answer r → (l : Lent) → host_run_exit n l x ≡ ended a l x
  unfolding ended
  on_run_refused h p l = rw (h, p) refl

module _ (c : TransferConfig) (g : Given) (l : Lent) (x : Results) where
  pub on_short : {v : Result Unit Refusal} {n : ℕ} → results_short x ≡ true → v ≡ verdict (start_checks (start_of c g l)) → n ≡ decide v refusal_answer (refusal_answer Full)
      → host_run_exit n l x ≡ run_with c g l x
  unfolding run_with short_answer
  on_short h e p = rw (h, p, e) refl

  pub on_run : {a : Result Outcome Refusal} {n : ℕ} {l' : Lent} {x' : Results} → results_short x ≡ false → run_exit a l' ≡ run_transfer default_ceilings c g l
      → ((k : Lent) → host_run_exit n k x' ≡ ended a k x) → host_run_exit n l' x' ≡ run_with c g l x
  unfolding run_with
  on_run {a} {n} {l'} h e p = rw h (p l' ∙ ap (λ (y : RunExit). ended_as x y) e)

module _ (s : List ℕ) (d : List Float) (g : Given) (l : Lent) (x : Results) where
  pub on_config : {c : TransferConfig} {n : ℕ} {l' : Lent} {x' : Results} → read_setup s d ≡ Ok c → host_run_exit n l' x' ≡ run_with c g l x
      → host_run_exit n l' x' ≡ run s d g l x
  unfolding run_read
  on_config h e = rw h e

  pub on_setup_refused : {r : Refusal} {n : ℕ} → read_setup s d ≡ Err r → n ≡ refusal_answer r → host_run_exit n l x ≡ run s d g l x
  unfolding run_read
  on_setup_refused h p = rw (h, p) refl
