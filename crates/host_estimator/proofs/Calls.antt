-- What the calls over words and doubles answer, from the equations of the estimator's.
use Rattle.std.specs.Prelude.{Err, Ok, Result, Some}
use Prim.Native.Nat.{ℕ}
use mathlib.Core.Path.{◌≡◌, refl, sym, ap}
use mathlib.Core.Bool.{Bool}
use mathlib.Core.List.{List}
use native.Mathlib.Omega.{arith}
use lib.Dec.{leb}
use lib.Ieee.{Float}
use Rattle.refusal.specs.declared.Refusal.{Refusal}
use Rattle.refusal.specs.Order.{decide}
use Rattle.rto.specs.Rto.{call_verdict, held_too_long, has_exceeded_retry_limit}
use Rattle.rto.specs.declared.RtoEstimator.{RtoEstimator}
use Rattle.host_estimator.specs.Words.{held_estimator, with_words, with_doubles}
use Rattle.host_estimator.specs.Estimator.{estimator_exit, left, on_held, changing}

module _ (s : List ℕ) (d : List Float) where
  -- R: what the estimator's call gives; answer and estimator are read from it
  pub on_changed : {R : Type 0} (call : RtoEstimator → R) (code : R → ℕ) (estimator : R → RtoEstimator) {e : RtoEstimator} {r : R} {a : ℕ} {s' : List ℕ} {d' : List Float}
      → held_estimator s d ≡ Some e → r ≡ call e → s' ≡ with_words s (estimator r) → d' ≡ with_doubles d (estimator r) → a ≡ code r
      → estimator_exit a s' d' ≡ changing s d (λ x. left (code (call x)) s d (estimator (call x)))
  unfolding on_held
  on_changed {R} call code estimator h k p q o = rw (h, p, q, o) (ap (λ (y : R). left (code y) s d (estimator y)) k)

-- the verdict is that of any limit
accepted_is : (v : Result Unit Refusal) (a b c : Bool) → decide v Err (Ok a) ≡ Ok b → Ok c ≡ decide v Err (Ok c)
unfolding decide
accepted_is (Ok tt) a b c e = refl
accepted_is (Err r) a b c e = let z : ◌≡◌ {A = ℕ} 0 1 = cc in absurd (omega arith)

refused_is : (v : Result Unit Refusal) (a c : Bool) (r : Refusal) → decide v Err (Ok a) ≡ Err r → Err r ≡ decide v Err (Ok c)
unfolding decide
refused_is (Ok tt) a c r e = let z : ◌≡◌ {A = ℕ} 0 1 = cc in absurd (omega arith)
refused_is (Err s) a c r e = sym e

module _ (e : RtoEstimator) (n : ℕ) where
  pub exceeded_is : {b : Bool} → has_exceeded_retry_limit e 0 ≡ Ok b → Ok (leb n e.consecutive_timeouts) ≡ has_exceeded_retry_limit e n
  unfolding has_exceeded_retry_limit
  exceeded_is {b} h = accepted_is (call_verdict e (held_too_long e)) (leb 0 e.consecutive_timeouts) b (leb n e.consecutive_timeouts) h

  pub exceeded_refused : {r : Refusal} → has_exceeded_retry_limit e 0 ≡ Err r → Err r ≡ has_exceeded_retry_limit e n
  unfolding has_exceeded_retry_limit
  exceeded_refused {r} h = refused_is (call_verdict e (held_too_long e)) (leb 0 e.consecutive_timeouts) (leb n e.consecutive_timeouts) r h
