-- After any list of calls from a fresh set, the set is the map that the accepted calls say, and the next call meets no 9 and no deadline above its bound.
use Rattle.std.specs.Prelude.{Ok, Option, None, Some}
use Rattle.std.proofs.Common.{◌≡◌, ℕ, suc, ◌+◌, ◌%◌, ◌^◌, Bool, true, false, cond, not, ◌&&◌, ◌||◌, eqb, ltb, leb, List, [], ◌∷◌, ◌++◌, length, drop, replicate, sym, refl, ap, ◌∙◌, subst, true≢false, zero-le, arith, le-ltb, eq-eqb}
use lib.ListN.{length-replicate}
use Rattle.bounds.specs.Bounds.{max_time}
use Rattle.duration.specs.Bounds.{start_late}
use Rattle.duration.proofs.Laws.{start_in_time}
use Rattle.refusal.specs.Order.{check, verdict, decide, first_of, numbered, or_else, order}
use Rattle.refusal.specs.declared.Refusal.{Refusal}
use Rattle.refusal.specs.declared.Refusal.TheVariants.{State, Time, Full}
use Rattle.refusal.proofs.Laws.{none_true_accepted, on_accepted}
use Rattle.multi_timer.specs.Map.{Entry, entries_of, keys_of, deadlines_of, ascending, ascending_from, lookup, is_some, keep, put, other, remove, due, due_keys, pending, due_at, still_set, earliest, contains, IsMin}
use Rattle.multi_timer.specs.MultiTimer.{used, replaced, TimersExit, timers_exit, timers, next_generation, broken, any_late, held_too_late, held_checks, start_full, start_timer_at_unchecked, cancel_timer_unchecked, pop_expired_at_unchecked, clear_unchecked, new_unchecked, new_timers, start_timer_at, cancel_timer, is_expired_at, PopExit, pop_expired_at, earliest_answer, earliest_deadline, clear_timers, answering}
use Rattle.multi_timer.specs.History.{Call, start, cancel, pop, clear, fresh, step, after_calls, start_refused, cancel_refused, pop_refused, clear_refused, is_refused, entries_after, deadline_of, earliest_of, due_keys_of, starts, turned_away, accepted}
use Rattle.multi_timer.specs.declared.MultiTimer.{MultiTimer}
use Rattle.multi_timer.specs.declared.StartResult.{StartResult}
use Rattle.multi_timer.specs.declared.CancelResult.{CancelResult}
use Rattle.multi_timer.specs.declared.PopResult.{PopResult}
use Rattle.multi_timer.specs.declared.ClearResult.{ClearResult}
use Rattle.multi_timer.proofs.Changes.{front, used_length}
use Rattle.multi_timer.proofs.Calls.{new_accepted, expired_accepted, earliest_accepted}
use Rattle.multi_timer.proofs.Held.{Holds, used_times, start_holds, cancel_holds, pop_holds, clear_holds}
use Rattle.multi_timer.proofs.Map.{lookup_put, lookup_remove, lookup_pop, keep_ascending, put_ascending, due_taken, earliest_min, keep_in_time, put_in_time}

-- ---- the map that a list says
pub entries_ascending : (xs : List Call) → ascending (keys_of (entries_after xs)) ≡ true
unfolding entries_after keys_of ascending_from
entries_ascending [] = refl
entries_ascending (start key now duration ∷ xs) = put_ascending key (now + duration) 0 (entries_after xs) zero-le (entries_ascending xs)
entries_ascending (cancel key ∷ xs) = keep_ascending (other key) 0 (entries_after xs) (entries_ascending xs)
entries_ascending (pop now out ∷ xs) = keep_ascending (pending now) 0 (entries_after xs) (entries_ascending xs)
entries_ascending (clear ∷ xs) = refl

pub lookup_entries : (key : ℕ) (xs : List Call) → lookup key (entries_after xs) ≡ deadline_of key xs
unfolding entries_after deadline_of lookup
lookup_entries key [] = refl
lookup_entries key (start k now duration ∷ xs) = lookup_put k (now + duration) key (entries_after xs) ∙ ap (λ (o : Option ℕ). cond (eqb k key) (Some (now + duration)) o) (lookup_entries key xs)
lookup_entries key (cancel k ∷ xs) = lookup_remove k key (entries_after xs) ∙ ap (λ (o : Option ℕ). cond (eqb k key) None o) (lookup_entries key xs)
lookup_entries key (pop now out ∷ xs) = lookup_pop now key 0 (entries_after xs) (entries_ascending xs) ∙ ap (still_set now) (lookup_entries key xs)
lookup_entries key (clear ∷ xs) = refl

-- the earliest is the min of the deadlines , and none exactly when no key has one
pub earliest_of_lem : (xs : List Call) → IsMin (λ (key : ℕ). deadline_of key xs) (earliest_of xs)
earliest_of_lem xs = as_said (earliest_of xs) (earliest_min 0 (entries_after xs) (entries_ascending xs))
  where
    as_said : (o : Option ℕ) → IsMin (λ (key : ℕ). lookup key (entries_after xs)) o → IsMin (λ (key : ℕ). deadline_of key xs) o
    as_said None h = λ key. sym (lookup_entries key xs) ∙ h key
    as_said (Some d) h = ((h.0.0, sym (lookup_entries h.0.0 xs) ∙ h.0.1), λ key x p. h.1 key x (lookup_entries key xs ∙ p))

-- a pop takes exactly the keys with a deadline at or before now, in ascending order
pub due_keys_lem : (now key : ℕ) (xs : List Call) → contains key (due_keys_of now xs) ≡ due_at now (deadline_of key xs)
due_keys_lem now key xs = due_taken now key 0 (entries_after xs) (entries_ascending xs) ∙ ap (due_at now) (lookup_entries key xs)

pub due_ascending : (now : ℕ) (xs : List Call) → ascending (due_keys_of now xs) ≡ true
due_ascending now xs = keep_ascending (due now) 0 (entries_after xs) (entries_ascending xs)

-- ---- what holds of the set after any list of calls
pub record Kept (n : ℕ) (xs : List Call) (s : TimersExit MultiTimer) : Type 0 where
  pub keys_length : length s.keys ≡ n
  -- check 9 of the next call: slices of one length, the count within it, the used keys strictly ascending
  pub state : broken s.answer.count s.keys s.deadlines ≡ false
  -- check 10
  pub times : held_too_late s.answer.count s.deadlines ≡ false
  pub entries_are : used s.answer s.keys s.deadlines ≡ entries_after xs
  pub generation_is : s.answer.global_generation ≡ starts xs % 2 ^ 64

-- a pop answers how many keys it takes; they go to the front of the lent slice, and the rest of it stays
pub record Popped (keys out : List ℕ) (z : PopExit PopResult) : Type 0 where
  pub answered : z.rest.answer.answer ≡ Ok (length keys)
  pub written : z.out ≡ keys ++ drop (length keys) out

-- the tests of a call on a set that check 9 lets pass and that holds no late deadline: refused, or the other answer
by_tests : {A : Type 0} (P : A → Bool → Type 0) (s h t u : Bool) (f : Refusal → A) (a : A) → s ≡ false → h ≡ false → ((r : Refusal) → P (f r) true) → (t ≡ false → u ≡ false → P a false)
    → P (decide (verdict (check s State ∷ check (h || t) Time ∷ check u Full ∷ [])) f a) (t || u)
unfolding decide verdict first_of numbered or_else order
by_tests P true h t u f a p q k l = absurd (true≢false p)
by_tests P false true t u f a p q k l = absurd (true≢false q)
by_tests P false false true u f a p q k l = k Time
by_tests P false false false true f a p q k l = k Full
by_tests P false false false false f a p q k l = l refl refl

module _ (n : ℕ) (xs : List Call) (s : TimersExit MultiTimer) (k : Kept n xs s) where
  abbrev es : List Entry
  es = used s.answer s.keys s.deadlines

  pub deadlines_are : (key : ℕ) → lookup key es ≡ deadline_of key xs
  deadlines_are key = ap (lookup key) k.entries_are ∙ lookup_entries key xs

  -- ---- what the calls that only read answer, and what a pop writes
  pub expired_is : (key now : ℕ) → ltb max_time now ≡ false → is_expired_at s.answer s.keys s.deadlines key now ≡ Ok (due_at now (deadline_of key xs))
  expired_is key now h = expired_accepted s.answer s.keys s.deadlines key now (none_true_accepted _ (k.state, (simp (k.times, h), tt))) ∙ ap (λ (o : Option ℕ). Ok (due_at now o)) (deadlines_are key)

  pub earliest_is : earliest_deadline s.answer s.keys s.deadlines ≡ earliest_answer (earliest_of xs)
  earliest_is = earliest_accepted s.answer s.keys s.deadlines (none_true_accepted _ (k.state, (k.times, tt))) ∙ ap (λ (z : List Entry). earliest_answer (earliest (deadlines_of z))) k.entries_are

  -- an accepted pop
  pub pop_is : (now : ℕ) (out : List ℕ) → turned_away n xs (pop now out) ≡ false → Popped (due_keys_of now xs) out (pop_expired_at s.answer s.keys s.deadlines now out)
  unfolding turned_away pop_expired_at pop_expired_at_unchecked
  pop_is now out =
      subst (λ (z : List Entry). (ltb max_time now || ltb (length out) (length (due_keys now z))) ≡ false → Popped (due_keys_of now xs) out (pop_expired_at s.answer s.keys s.deadlines now out)) k.entries_are
      (by_tests (λ (z : PopExit PopResult) (b : Bool). b ≡ false → Popped (due_keys_of now xs) out z) _ _ _ _ _ _ k.state k.times (λ r e. absurd (true≢false e))
      (λ t f e.
      record {
        answered = ap (λ (z : List Entry). Ok (length (due_keys now z))) k.entries_are;
        written = ap (λ (z : List Entry). replaced (due_keys now z) 0 out) k.entries_are ∙ front (due_keys_of now xs) out;
      }))

  -- what a call below the entry points leaves
  held : (ys : List Call) (new : List Entry) (u : TimersExit MultiTimer) → Holds (length s.keys) new u → any_late (deadlines_of new) ≡ false → new ≡ entries_after ys → u.answer.global_generation ≡ starts ys % 2 ^ 64 → Kept n ys u
  held ys new u h t d e = record { keys_length = h.keys_length ∙ k.keys_length; state = h.state; times = h.times ∙ t; entries_are = h.entries ∙ d; generation_is = e }

  in_time : any_late (deadlines_of es) ≡ false
  in_time = used_times s.answer s.keys s.deadlines k.state ∙ k.times

  -- check 5 of a start
  full_is : (key : ℕ) → start_full s.answer s.keys s.deadlines key ≡ (leb n (length (entries_after xs)) && not (is_some (deadline_of key xs)))
  full_is key = same k.keys_length (sym (used_length s.answer s.keys s.deadlines k.state) ∙ ap length k.entries_are) (deadlines_are key)
    where
      same : {l m c e : ℕ} {o q : Option ℕ} → l ≡ m → c ≡ e → o ≡ q → (leb l c && not (is_some o)) ≡ (leb m e && not (is_some q))
      same p q r = rw (p, q, r)

  -- one more call: a refused one leaves the set and the accepted calls as they were
  abbrev Stepped : Call → Bool → Type 0
  Stepped x b = Kept n (cond b xs (x ∷ xs)) (step s x) × (is_refused s x ≡ b)

  -- the tests of a call that is given no time and writes no lent buffer
  no_check : {A : Type 0} (P : A → Type 0) (f : Refusal → A) (a : A) → P a → P (decide (verdict (held_checks s.answer s.keys s.deadlines)) f a)
  no_check P f a h = subst P (sym (on_accepted f a (none_true_accepted _ (k.state, (k.times, tt))))) h

  step_is : (x : Call) → Stepped x (turned_away n xs x)
  unfolding step is_refused turned_away start_timer_at start_timer_at_unchecked cancel_timer cancel_timer_unchecked pop_expired_at pop_expired_at_unchecked clear_timers clear_unchecked entries_after starts deadlines_of any_late
  step_is (start key now duration) =
      subst (λ (b : Bool). Stepped (start key now duration) (start_late now duration || b)) (full_is key)
      (by_tests (λ (z : TimersExit StartResult) (b : Bool). Kept n (cond b xs (start key now duration ∷ xs)) (answering (λ r. r.timers) z) × (start_refused z.answer.answer ≡ b)) _ _ _ _ _ _ k.state k.times (λ r. (k, refl))
      (λ t f. (
        held (start key now duration ∷ xs) (put key (now + duration) es) _ (start_holds s.answer s.keys s.deadlines k.state key (now + duration) f)
            (put_in_time key (now + duration) es (start_in_time false now duration t) in_time) (ap (put key (now + duration)) k.entries_are) (next_start s.answer.global_generation (starts xs) k.generation_is),
        refl,
      )))
    where
      next_start : (a m : ℕ) → a ≡ m % 2 ^ 64 → next_generation a ≡ suc m % 2 ^ 64
      next_start a m e = omega arith
  step_is (cancel key) =
      no_check (λ (z : TimersExit CancelResult). Kept n (cancel key ∷ xs) (answering (λ r. r.timers) z) × (cancel_refused z.answer.answer ≡ false)) _ _ (
        held (cancel key ∷ xs) (remove key es) _ (cancel_holds s.answer s.keys s.deadlines k.state key) (keep_in_time (other key) es in_time) (ap (remove key) k.entries_are) k.generation_is,
        refl,
      )
  step_is (pop now out) =
      subst (λ (es : List Entry). Stepped (pop now out) (ltb max_time now || ltb (length out) (length (due_keys now es)))) k.entries_are
      (by_tests (λ (z : PopExit PopResult) (b : Bool). Kept n (cond b xs (pop now out ∷ xs)) (answering (λ r. r.timers) z.rest) × (pop_refused z.rest.answer.answer ≡ b)) _ _ _ _ _ _ k.state k.times (λ r. (k, refl))
      (λ t f. (
        held (pop now out ∷ xs) (keep (pending now) es) _ (pop_holds s.answer s.keys s.deadlines k.state now out) (keep_in_time (pending now) es in_time) (ap (keep (pending now)) k.entries_are) k.generation_is,
        refl,
      )))
  step_is clear =
      no_check (λ (z : TimersExit ClearResult). Kept n (clear ∷ xs) (answering (λ r. r.timers) z) × (clear_refused z.answer.answer ≡ false)) _ _ (held (clear ∷ xs) [] _ (clear_holds s.answer s.keys s.deadlines k.state) refl refl k.generation_is, refl)

-- a set is made so
pub new_fresh : (ks ds : List ℕ) → length ks ≡ length ds → new_timers ks ds ≡ answering Ok (fresh (length ks))
unfolding new_unchecked fresh
new_fresh ks ds e = new_accepted ks ds (none_true_accepted _ (simp (eq-eqb (length ks) (length ds) e), tt)) ∙ ap (λ (m : ℕ). timers_exit (Ok (timers 0 0)) (replicate (length ks) 0) (replicate m 0)) (sym e)

fresh_kept : (n : ℕ) → Kept n [] (fresh n)
unfolding fresh entries_after starts entries_of ascending_from any_late
fresh_kept n = record { keys_length = length-replicate n 0; state = empty (replicate n 0); times = refl; entries_are = refl; generation_is = refl }
  where
    empty : (ks : List ℕ) → broken 0 ks ks ≡ false
    empty ks = simp (eq-eqb (length ks) (length ks) refl, le-ltb (length ks) 0 zero-le)

pub history : (n : ℕ) (xs : List Call) → Kept n (accepted n xs) (after_calls n xs)
unfolding after_calls accepted
history n [] = fresh_kept n
history n (x ∷ xs) = (step_is n (accepted n xs) (after_calls n xs) (history n xs) x).0

-- the calls that are refused are those that the list says
pub refused_are : (n : ℕ) (xs : List Call) (x : Call) → is_refused (after_calls n xs) x ≡ turned_away n (accepted n xs) x
refused_are n xs x = (step_is n (accepted n xs) (after_calls n xs) (history n xs) x).1
