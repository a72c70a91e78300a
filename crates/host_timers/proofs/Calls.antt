-- What the calls over words answer, from the equations of the timer set's; and what is known of words that hold one.
use Rattle.std.specs.Prelude.{Err, None, Ok, Result, Some, Option}
use Prim.Native.Nat.{ℕ, ◌+◌, ◌≤◌}
use mathlib.Core.Path.{◌≡◌, refl, ap}
use mathlib.Core.Bool.{Bool, true, false, cond, ◌||◌}
use mathlib.Core.List.{List, [], ◌∷◌}
use native.Mathlib.Omega.{arith}
use borrow.Author.Tests.{ltb-false, eqb-true, not-false, le-ltb}
use lib.ListN.{length, get_or}
use lib.Dec.{ltb}
use lib.Seq.{set-get_or}
use Rattle.refusal.proofs.Laws.{none_of}
use Rattle.refusal.specs.Clauses.{any_of}
use Rattle.refusal.specs.declared.Refusal.{Refusal}
use Rattle.refusal.specs.declared.Refusal.TheVariants.{State, Time, Full}
use Rattle.refusal.specs.Order.{check, order, or_else, numbered, first_of, verdict, decide}
use Rattle.bounds.specs.Bounds.{max_time, max_duration}
use Rattle.duration.specs.Bounds.{start_late}
use Rattle.multi_timer.specs.MultiTimer as multi
use Rattle.multi_timer.specs.MultiTimer.{timers_exit, answering, start_timer_at, held_too_late, held_checks, cancel_timer, is_expired_at, pop_exit, pop_expired_at, earliest_answer, earliest_deadline, clear_timers}
use Rattle.multi_timer.specs.Map.{deadlines_of, earliest}
use Rattle.multi_timer.specs.declared.MultiTimer.{MultiTimer}
use Rattle.multi_timer.specs.declared.StartResult.{StartResult}
use Rattle.multi_timer.specs.declared.CancelResult.{CancelResult}
use Rattle.multi_timer.specs.declared.PopResult.{PopResult}
use Rattle.multi_timer.specs.declared.ClearResult.{ClearResult}
use Rattle.host_answer.specs.Answer.{packed, refusal_answer, done_answer}
use Rattle.host_answer.specs.Exit.{words_exit}
use Rattle.host_timers.specs.Internal.{none_ran}
use Rattle.host_timers.specs.Timers.{timers_words, timers_word, timers_in, unreadable, held_timers, with_timers, start_code, started, start_held, start_key, start_wide, cancel_code, cancelled, cancel_held, cancel_key, cancel_wide, pop_code, popped_exit, pop_held, pop, cleared, clear_held, clear}

-- words that hold a set
pub record Readable (s : List ℕ) : Type 0 where
  pub long : timers_words ≤ length s
  pub word : get_or s 0 0 ≡ timers_word

readable : (s : List ℕ) → unreadable s ≡ false → Readable s
unfolding unreadable
readable s e =
    let none = none_of _ e in record { long = ltb-false (length s) timers_words none.0; word = eqb-true (get_or s 0 0) timers_word (not-false _ none.1.0) }

held_cases : (s : List ℕ) (t : Bool) (x : MultiTimer) → unreadable s ≡ t → cond t None (Some (timers_in s)) ≡ Some x → Readable s × (timers_in s ≡ x)
held_cases s true x e p = let z : ◌≡◌ {A = ℕ} 0 1 = cc in absurd (omega arith)
held_cases s false x e p = let same : timers_in s ≡ x = cc in (readable s e, same)

held_known : (s : List ℕ) {x : MultiTimer} → held_timers s ≡ Some x → Readable s × (timers_in s ≡ x)
unfolding held_timers
held_known s {x} e = held_cases s (unreadable s) x refl e

pub timers_long : (s : List ℕ) {x : MultiTimer} → held_timers s ≡ Some x → timers_words ≤ length s
timers_long s e = (held_known s e).0.long

-- to put back the set that words hold changes no word
pub timers_back : (s : List ℕ) {x : MultiTimer} → held_timers s ≡ Some x → with_timers s x ≡ s
unfolding with_timers
timers_back s {x} e =
    let known = held_known s e in
    rw (← known.1, ← known.0.word, set-get_or s 0 0, set-get_or s 1 0, set-get_or s 2 0)

module _ (state ks ds : List ℕ) where
  pub on_started : (key now duration : ℕ) {t : MultiTimer} {r : StartResult} {x : ℕ} {state' ks' ds' : List ℕ} → held_timers state ≡ Some t
      → timers_exit r ks' ds' ≡ start_timer_at t ks ds key now duration → state' ≡ with_timers state r.timers → x ≡ start_code r.answer
      → timers_exit (words_exit x state') ks' ds' ≡ start_key state ks ds key now duration
  unfolding start_held
  on_started key now duration h e p q = rw (h, p, q) (ap (answering (started state)) e)

  pub on_cancelled : (key : ℕ) {t : MultiTimer} {r : CancelResult} {x : ℕ} {state' ks' ds' : List ℕ} → held_timers state ≡ Some t
      → timers_exit r ks' ds' ≡ cancel_timer t ks ds key → state' ≡ with_timers state r.timers → x ≡ cancel_code r.answer
      → timers_exit (words_exit x state') ks' ds' ≡ cancel_key state ks ds key
  unfolding cancel_held
  on_cancelled key h e p q = rw (h, p, q) (ap (answering (cancelled state)) e)

  pub on_popped : (now : ℕ) (out : List ℕ) {t : MultiTimer} {r : PopResult} {x : ℕ} {state' ks' ds' out' : List ℕ} → held_timers state ≡ Some t
      → pop_exit (timers_exit r ks' ds') out' ≡ pop_expired_at t ks ds now out → state' ≡ with_timers state r.timers → x ≡ pop_code r.answer
      → pop_exit (timers_exit (words_exit x state') ks' ds') out' ≡ pop state ks ds now out
  unfolding pop_held
  on_popped now out h e p q = rw (h, p, q) (ap (popped_exit state) e)

  pub on_cleared : {t : MultiTimer} {r : ClearResult} {x : ℕ} {state' ks' ds' : List ℕ} → held_timers state ≡ Some t
      → timers_exit r ks' ds' ≡ clear_timers t ks ds → state' ≡ with_timers state r.timers → x ≡ done_answer r.answer
      → timers_exit (words_exit x state') ks' ds' ≡ clear state ks ds
  unfolding clear_held
  on_cleared h e p q = rw (h, p, q) (ap (answering (cleared state)) e)

-- ---- wide keys
-- what a start is refused for, from the answer of a call that only reads: b a broken set, h a late deadline, n a late
-- time, m a late duration or sum
late_or_full : (b h n m x y : Bool) (full : ℕ) → decide (verdict (check b State ∷ check (h || n) Time ∷ [])) Err (Ok x) ≡ Ok y
    → decide (verdict (check b State ∷ check (h || (n || m)) Time ∷ [])) refusal_answer full ≡ cond (n || m) (refusal_answer Time) full
unfolding verdict first_of numbered or_else order decide
late_or_full true h n m x y full e = let z : ◌≡◌ {A = ℕ} 0 1 = cc in absurd (omega arith)
late_or_full false true n m x y full e = let z : ◌≡◌ {A = ℕ} 0 1 = cc in absurd (omega arith)
late_or_full false false true m x y full e = let z : ◌≡◌ {A = ℕ} 0 1 = cc in absurd (omega arith)
late_or_full false false false true x y full e = refl
late_or_full false false false false x y full e = refl

refused_as_read : (b h n m x : Bool) (r : Refusal) (full : ℕ) → decide (verdict (check b State ∷ check (h || n) Time ∷ [])) Err (Ok x) ≡ Err r
    → decide (verdict (check b State ∷ check (h || (n || m)) Time ∷ [])) refusal_answer full ≡ refusal_answer r
unfolding verdict first_of numbered or_else order decide
refused_as_read true h n m x r full e = let same : State ≡ r = cc in ap refusal_answer same
refused_as_read false true n m x r full e = let same : Time ≡ r = cc in ap refusal_answer same
refused_as_read false false true m x r full e = let same : Time ≡ r = cc in ap refusal_answer same
refused_as_read false false false m x r full e = let z : ◌≡◌ {A = ℕ} 0 1 = cc in absurd (omega arith)

module _ (t : MultiTimer) (ks ds : List ℕ) (now duration : ℕ) where
  pub start_wide_read : {y : Bool} → is_expired_at t ks ds 0 now ≡ Ok y → start_wide (Some t) ks ds now duration ≡ cond (start_late now duration) (refusal_answer Time) (refusal_answer Full)
  unfolding start_wide is_expired_at
  start_wide_read {y} e =
      late_or_full (multi.broken t.count ks ds) (held_too_late t.count ds) (ltb max_time now) (ltb max_duration duration || ltb max_time (now + duration)) _ y (refusal_answer Full) e

  pub start_wide_refused : {r : Refusal} → is_expired_at t ks ds 0 now ≡ Err r → start_wide (Some t) ks ds now duration ≡ refusal_answer r
  unfolding start_wide is_expired_at
  start_wide_refused {r} e =
      refused_as_read (multi.broken t.count ks ds) (held_too_late t.count ds) (ltb max_time now) (ltb max_duration duration || ltb max_time (now + duration)) _ r (refusal_answer Full) e

none_ran_of : (v : Result Unit Refusal) (o : Option ℕ) → none_ran (decide v Err (earliest_answer o)) ≡ decide v refusal_answer (packed 0 0)
unfolding done_answer decide
none_ran_of (Ok tt) o = refl
none_ran_of (Err r) o = refl

pub none_ran_lem : (t : MultiTimer) (ks ds : List ℕ) → none_ran (earliest_deadline t ks ds) ≡ cancel_wide (Some t) ks ds
unfolding earliest_deadline cancel_wide
none_ran_lem t ks ds = none_ran_of (verdict (held_checks t ks ds)) (earliest (deadlines_of (multi.used t ks ds)))

-- the set that is put into words is what they hold
timers_held_in : (x : MultiTimer) (rest : List ℕ) → held_timers (timers_word ∷ x.count ∷ x.global_generation ∷ rest) ≡ Some x
unfolding held_timers unreadable any_of
timers_held_in x rest = rw (le-ltb (length (timers_word ∷ x.count ∷ x.global_generation ∷ rest)) timers_words (omega arith))

pub timers_held : (s : List ℕ) (x : MultiTimer) → timers_words ≤ length s → held_timers (with_timers s x) ≡ Some x
unfolding with_timers
timers_held (a ∷ b ∷ c ∷ rest) x l = timers_held_in x rest
timers_held [] x l = absurd (omega arith)
timers_held (a ∷ []) x l = absurd (omega arith)
timers_held (a ∷ b ∷ []) x l = absurd (omega arith)
