-- The entry points by their verdict: an accepted call is the call below its checks, with the answer of the entry point.
use Rattle.std.specs.Prelude.{Err, Ok, Result}
use Rattle.std.proofs.Common.{◌≡◌, ℕ, ◌+◌, ◌-◌, ◌<◌, Bool, false, not, eqb, ltb, List, [], ◌∷◌, length, take, sym, refl, ap, ◌∙◌, le_of_eq, arith, le-ltb, lt-ltb}
use Rattle.refusal.specs.Order.{check, verdict}
use Rattle.refusal.specs.declared.Refusal.{Refusal}
use Rattle.refusal.specs.declared.Refusal.TheVariants.{State}
use Rattle.refusal.proofs.Laws.{accepted_none_true, on_accepted, on_refused}
use Rattle.multi_timer.specs.Map.{lookup, is_some, keep, remove, due, due_keys, pending}
use Rattle.multi_timer.specs.Internal.{search_in}
use Rattle.multi_timer.specs.MultiTimer.{used, TimersExit, PopExit, timers_exit, pop_exit, answering, held_checks, read_checks, start_checks, pop_checks, broken, new_unchecked, new_timers, start_result, started, start_timer_at_unchecked, start_timer_at, cancel_result, cancelled, cancel_timer_unchecked, cancel_timer, is_expired_at_unchecked, is_expired_at, pop_result, popped, pop_expired_at_unchecked, pop_expired_at, earliest_deadline_unchecked, earliest_deadline, clear_result, cleared, clear_unchecked, clear_timers}
use Rattle.multi_timer.specs.declared.MultiTimer.{MultiTimer}
use Rattle.multi_timer.proofs.Verdicts.{Good, good_of}
use Rattle.multi_timer.proofs.Sorted.{length_keys}
use Rattle.multi_timer.proofs.Places.{at_bound, at_lookup, absent_lookup, removed_count, same_count}
use Rattle.multi_timer.proofs.Parting.{both}
use Rattle.multi_timer.proofs.Changes.{used_length}
use Rattle.refusal.specs.Order.{passed}

module _ (t : MultiTimer) (ks ds : List ℕ) where
  module _ (key now duration : ℕ) where
    pub start_accepted : verdict (start_checks t ks ds key now duration) ≡ passed → start_timer_at t ks ds key now duration ≡ answering started (start_timer_at_unchecked t ks ds key (now + duration))
    unfolding start_timer_at
    start_accepted e = on_accepted _ _ e

    pub start_refused : {r : Refusal} → verdict (start_checks t ks ds key now duration) ≡ Err r → start_timer_at t ks ds key now duration ≡ timers_exit (start_result t (Err r)) ks ds
    unfolding start_timer_at
    start_refused e = on_refused _ _ e

  module _ (key : ℕ) where
    pub cancel_accepted : verdict (held_checks t ks ds) ≡ passed → cancel_timer t ks ds key ≡ answering (cancelled (is_some (lookup key (used t ks ds)))) (cancel_timer_unchecked t ks ds key)
    unfolding cancel_timer
    cancel_accepted e = on_accepted _ _ e

    pub cancel_refused : {r : Refusal} → verdict (held_checks t ks ds) ≡ Err r → cancel_timer t ks ds key ≡ timers_exit (cancel_result t (Err r)) ks ds
    unfolding cancel_timer
    cancel_refused e = on_refused _ _ e

    -- one entry fewer is left where the key had a timer
    existed : (u : MultiTimer) (ks' ds' : List ℕ) → broken t.count ks ds ≡ false → timers_exit u ks' ds' ≡ cancel_timer_unchecked t ks ds key → ltb u.count t.count ≡ is_some (lookup key (used t ks ds))
    unfolding cancel_timer_unchecked
    existed u ks' ds' b e = ap (λ (a : TimersExit MultiTimer). ltb a.answer.count t.count) e ∙ go (search_in key (take t.count ks)) refl
      where
        g : Good t.count ks ds
        g = good_of t.count ks ds b

        fewer : (m n p : ℕ) → m ≡ n - 1 → p < n → m < n
        fewer m n p e h = omega arith

        go : (p : Result ℕ ℕ) → p ≡ search_in key (take t.count ks) → ltb (length (remove key (used t ks ds))) t.count ≡ is_some (lookup key (used t ks ds))
        go (Ok p) e = lt-ltb _ _ (fewer (length (remove key (used t ks ds))) t.count p (removed_count t.count ks ds g key p e) (at_bound t.count ks ds g key p e)) ∙ sym (ap is_some (at_lookup t.count ks ds g key p e))
        go (Err p) e = le-ltb _ _ (le_of_eq (sym (same_count t.count ks ds g key p e))) ∙ sym (ap is_some (absent_lookup t.count ks ds g key p e))

    pub cancel_done : (u : MultiTimer) (ks' ds' : List ℕ) → verdict (held_checks t ks ds) ≡ passed → timers_exit u ks' ds' ≡ cancel_timer_unchecked t ks ds key → timers_exit (cancelled (ltb u.count t.count) u) ks' ds' ≡ cancel_timer t ks ds key
    cancel_done u ks' ds' e q =
        ap (λ (b : Bool). timers_exit (cancelled b u) ks' ds') (existed u ks' ds' (accepted_none_true (held_checks t ks ds) e).0 q)
        ∙ ap (λ (a : TimersExit MultiTimer). answering (cancelled (is_some (lookup key (used t ks ds)))) a) q ∙ sym (cancel_accepted e)

    module _ (now : ℕ) where
      pub expired_accepted : verdict (read_checks t ks ds now) ≡ passed → is_expired_at t ks ds key now ≡ Ok (is_expired_at_unchecked t ks ds key now)
      unfolding is_expired_at
      expired_accepted e = on_accepted _ _ e

      pub expired_refused : {r : Refusal} → verdict (read_checks t ks ds now) ≡ Err r → is_expired_at t ks ds key now ≡ Err r
      unfolding is_expired_at
      expired_refused e = on_refused _ _ e

  module _ (now : ℕ) (out : List ℕ) where
    pub pop_accepted : verdict (pop_checks t ks ds now (length out)) ≡ passed → pop_expired_at t ks ds now out ≡ popped (length (due_keys now (used t ks ds))) (pop_expired_at_unchecked t ks ds now out)
    unfolding pop_expired_at
    pop_accepted e = on_accepted _ _ e

    pub pop_refused : {r : Refusal} → verdict (pop_checks t ks ds now (length out)) ≡ Err r → pop_expired_at t ks ds now out ≡ pop_exit (timers_exit (pop_result t (Err r)) ks ds) out
    unfolding pop_expired_at
    pop_refused e = on_refused _ _ e

    -- what is left and what is due are all that was held
    pub popped_count : (u : MultiTimer) (ks' ds' out' : List ℕ) → broken t.count ks ds ≡ false → pop_exit (timers_exit u ks' ds') out' ≡ pop_expired_at_unchecked t ks ds now out → u.count + length (due_keys now (used t ks ds)) ≡ t.count
    unfolding pop_expired_at_unchecked
    popped_count u ks' ds' out' b q =
        let e : u.count ≡ length (keep (pending now) (used t ks ds)) = ap (λ (a : PopExit MultiTimer). a.rest.answer.count) q in
        let d = length_keys (keep (due now) (used t ks ds)) in
        let s = both now (used t ks ds) in
        let l = used_length t ks ds b in
        omega arith

    pub pop_done : (u : MultiTimer) (ks' ds' out' : List ℕ) → verdict (pop_checks t ks ds now (length out)) ≡ passed → pop_exit (timers_exit u ks' ds') out' ≡ pop_expired_at_unchecked t ks ds now out
        → pop_exit (timers_exit (pop_result u (Ok (t.count - u.count))) ks' ds') out' ≡ pop_expired_at t ks ds now out
    pop_done u ks' ds' out' e q =
        let c = popped_count u ks' ds' out' (accepted_none_true (pop_checks t ks ds now (length out)) e).0 q in
        let n : t.count - u.count ≡ length (due_keys now (used t ks ds)) = omega arith in
        ap (λ (k : ℕ). popped k (pop_exit (timers_exit u ks' ds') out')) n ∙ ap (λ (a : PopExit MultiTimer). popped (length (due_keys now (used t ks ds))) a) q ∙ sym (pop_accepted e)

  pub earliest_accepted : verdict (held_checks t ks ds) ≡ passed → earliest_deadline t ks ds ≡ earliest_deadline_unchecked t ks ds
  unfolding earliest_deadline
  earliest_accepted e = on_accepted _ _ e

  pub earliest_refused : {r : Refusal} → verdict (held_checks t ks ds) ≡ Err r → earliest_deadline t ks ds ≡ Err r
  unfolding earliest_deadline
  earliest_refused e = on_refused _ _ e

  pub clear_accepted : verdict (held_checks t ks ds) ≡ passed → clear_timers t ks ds ≡ answering cleared (clear_unchecked t ks ds)
  unfolding clear_timers
  clear_accepted e = on_accepted _ _ e

  pub clear_refused : {r : Refusal} → verdict (held_checks t ks ds) ≡ Err r → clear_timers t ks ds ≡ timers_exit (clear_result t (Err r)) ks ds
  unfolding clear_timers
  clear_refused e = on_refused _ _ e

module _ (ks ds : List ℕ) where
  pub new_accepted : verdict (check (not (eqb (length ks) (length ds))) State ∷ []) ≡ passed → new_timers ks ds ≡ answering Ok (new_unchecked ks ds)
  unfolding new_timers
  new_accepted e = on_accepted _ _ e

  pub new_refused : {r : Refusal} → verdict (check (not (eqb (length ks) (length ds))) State ∷ []) ≡ Err r → new_timers ks ds ≡ timers_exit (Err r) ks ds
  unfolding new_timers
  new_refused e = on_refused _ _ e
