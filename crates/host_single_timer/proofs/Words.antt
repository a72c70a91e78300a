-- What is known of words that hold a timer; what the calls over them answer, from the equations of the timer's.
use Rattle.std.specs.Prelude.{None, Option, Some}
use Prim.Native.Nat.{ℕ, ◌≤◌}
use mathlib.Core.Path.{◌≡◌, refl, ap}
use mathlib.Core.Bool.{Bool, true, false, cond}
use mathlib.Core.List.{List, [], ◌∷◌}
use native.Mathlib.Omega.{arith}
use borrow.Author.Tests.{ltb-false, eqb-true, not-false, le-ltb}
use lib.ListN.{length, get_or}
use lib.Dec.{eqb}
use lib.Seq.{set-get_or}
use Rattle.refusal.specs.Clauses.{any_of}
use Rattle.refusal.proofs.Laws.{none_of}
use Rattle.timer.specs.Timer.{timer}
use Rattle.timer.specs.declared.RetransmissionTimer.{RetransmissionTimer}
use Rattle.timer.specs.declared.TimerResult.{TimerResult}
use Rattle.host_answer.specs.Exit.{words_exit, broken_words}
use Rattle.host_single_timer.specs.SingleTimer.{timer_words, timer_word, unreadable, not_unset, held_timer, is_set, time_of, with_timer, on_held, timer_code, changed}

-- words that hold the timer x
pub record Holds (s : List ℕ) (x : RetransmissionTimer) : Type 0 where
  pub long : timer_words ≤ length s
  pub word : get_or s 0 0 ≡ timer_word
  pub set_is : get_or s 1 0 ≡ is_set x.deadline
  pub time_is : get_or s 2 0 ≡ time_of x.deadline
  pub generation_is : get_or s 3 0 ≡ x.generation

no_variant : {X : Type 0} → ◌≡◌ {A = ℕ} 0 1 → X
no_variant z = absurd (omega arith)

module _ (s : List ℕ) (long : timer_words ≤ length s) (word : get_or s 0 0 ≡ timer_word) where
  unset_cases : (b : Bool) (x : RetransmissionTimer) → not_unset s ≡ b → cond b None (Some (timer None (get_or s 3 0))) ≡ Some x → Holds s x
  unfolding not_unset
  unset_cases true x e p = no_variant (let z : ◌≡◌ {A = ℕ} 0 1 = cc in z)
  unset_cases false x e p =
      let same : timer None (get_or s 3 0) ≡ x = cc in
      let none = none_of _ e in
      rw (← same)
      record { long = long; word = word; set_is = eqb-true (get_or s 1 0) 0 (not-false _ none.0); time_is = eqb-true (get_or s 2 0) 0 (not-false _ none.1.0); generation_is = refl }

  set_cases : (b : Bool) (x : RetransmissionTimer) → eqb (get_or s 1 0) 1 ≡ b
      → cond b (Some (timer (Some (get_or s 2 0)) (get_or s 3 0))) (cond (not_unset s) None (Some (timer None (get_or s 3 0)))) ≡ Some x → Holds s x
  set_cases true x e p =
      let same : timer (Some (get_or s 2 0)) (get_or s 3 0) ≡ x = cc in
      rw (← same)
      record { long = long; word = word; set_is = eqb-true (get_or s 1 0) 1 e; time_is = refl; generation_is = refl }
  set_cases false x e p = unset_cases (not_unset s) x refl p

held_cases : (s : List ℕ) (b : Bool) (x : RetransmissionTimer) → unreadable s ≡ b
    → cond b None (cond (eqb (get_or s 1 0) 1) (Some (timer (Some (get_or s 2 0)) (get_or s 3 0))) (cond (not_unset s) None (Some (timer None (get_or s 3 0))))) ≡ Some x → Holds s x
unfolding unreadable
held_cases s true x e p = no_variant (let z : ◌≡◌ {A = ℕ} 0 1 = cc in z)
held_cases s false x e p =
    let none = none_of _ e in
    set_cases s (ltb-false (length s) timer_words none.0) (eqb-true (get_or s 0 0) timer_word (not-false _ none.1.0)) (eqb (get_or s 1 0) 1) x refl p

pub holds : (s : List ℕ) {x : RetransmissionTimer} → held_timer s ≡ Some x → Holds s x
unfolding held_timer
holds s {x} e = held_cases s (unreadable s) x refl e

pub timer_long : (s : List ℕ) {x : RetransmissionTimer} → held_timer s ≡ Some x → timer_words ≤ length s
timer_long s e = (holds s e).long

-- to put back the timer that words hold changes no word
pub timer_back : (s : List ℕ) {x : RetransmissionTimer} → held_timer s ≡ Some x → with_timer s x ≡ s
unfolding with_timer
timer_back s {x} e =
    let h = holds s e in
    rw (← h.word, ← h.set_is, ← h.time_is, ← h.generation_is, set-get_or s 0 0, set-get_or s 1 0, set-get_or s 2 0, set-get_or s 3 0)

-- the timer that is put into words is what they hold
timer_held_in : (d : Option ℕ) (g : ℕ) (rest : List ℕ) → held_timer (timer_word ∷ is_set d ∷ time_of d ∷ g ∷ rest) ≡ Some (timer d g)
unfolding held_timer unreadable not_unset any_of
timer_held_in None g rest = rw (le-ltb (length (timer_word ∷ 0 ∷ 0 ∷ g ∷ rest)) timer_words (omega arith))
timer_held_in (Some d) g rest = rw (le-ltb (length (timer_word ∷ 1 ∷ d ∷ g ∷ rest)) timer_words (omega arith))

pub timer_held : (s : List ℕ) (x : RetransmissionTimer) → timer_words ≤ length s → held_timer (with_timer s x) ≡ Some x
unfolding with_timer
timer_held (a ∷ b ∷ c ∷ d ∷ rest) x l = timer_held_in x.deadline x.generation rest
timer_held [] x l = absurd (omega arith)
timer_held (a ∷ []) x l = absurd (omega arith)
timer_held (a ∷ b ∷ []) x l = absurd (omega arith)
timer_held (a ∷ b ∷ c ∷ []) x l = absurd (omega arith)

-- a call that changes the timer
pub on_changed : (state : List ℕ) (call : RetransmissionTimer → TimerResult) {t : RetransmissionTimer} {r : TimerResult} {a : ℕ} {state' : List ℕ} → held_timer state ≡ Some t
    → r ≡ call t → state' ≡ with_timer state r.timer → a ≡ timer_code r.answer
    → words_exit a state' ≡ on_held (held_timer state) (λ x. changed state (call x)) (broken_words state)
unfolding on_held
on_changed state call h e p q = rw (h, p, q) (ap (changed state) e)
