-- What the calls below the entry points leave: checks 9 and 10 of the next call are false of it, so that calls can follow one another.
use Rattle.std.specs.Prelude.{Err, Ok, Result}
use Rattle.std.proofs.Common.{◌≡◌, ℕ, suc, ◌+◌, ◌≤◌, Bool, true, false, cond, List, [], ◌∷◌, length, take, replicate, sym, refl, ap, ◌∙◌, subst, zero-le, le_trans, le_of_eq, arith, le-ltb, eq-eqb}
use lib.ListN.{length-replicate}
use Rattle.bounds.specs.Bounds.{max_duration, max_time}
use Rattle.duration.proofs.Laws.{start_late_within}
use Rattle.multi_timer.specs.Map.{Entry, entries_of, keys_of, deadlines_of, ascending, ascending_from, keep, put, other, remove, pending}
use Rattle.multi_timer.specs.Internal.{search_in}
use Rattle.multi_timer.specs.MultiTimer.{used, TimersExit, next_generation, holding, broken, any_late, held_too_late, read_too_late, start_too_late, start_full, new_unchecked, start_timer_at_unchecked, cancel_timer_unchecked, pop_expired_at_unchecked, clear_unchecked}
use Rattle.multi_timer.specs.declared.MultiTimer.{MultiTimer}
use Rattle.multi_timer.proofs.Verdicts.{Good, good_of}
use Rattle.multi_timer.proofs.Sorted.{length_keys, length_deadlines}
use Rattle.multi_timer.proofs.Places.{kept_count, inserted_count}
use Rattle.multi_timer.proofs.Changes.{unused, used_length, used_ascending, used_deadlines}
use Rattle.multi_timer.proofs.Map.{keep_ascending, put_ascending, keep_in_time, put_in_time, replaced_used, replaced_front, replaced_length, holding_accepted}

-- a set holds the entries es in slices of n
pub record Holds (n : ℕ) (es : List Entry) (s : TimersExit MultiTimer) : Type 0 where
  pub keys_length : length s.keys ≡ n
  -- check 9 of the next call
  pub state : broken s.answer.count s.keys s.deadlines ≡ false
  -- check 10
  pub times : held_too_late s.answer.count s.deadlines ≡ any_late (deadlines_of es)
  pub entries : used s.answer s.keys s.deadlines ≡ es

-- check 10 of what is held is false
abbrev pub InTime : TimersExit MultiTimer → Type 0
InTime s = held_too_late s.answer.count s.deadlines ≡ false

keep_most : (p : Entry → Bool) (es : List Entry) → length (keep p es) ≤ length es
unfolding keep
keep_most p [] = zero-le
keep_most p (e ∷ es) = go (p e) (keep_most p es)
  where
    go : (b : Bool) → length (keep p es) ≤ length es → length (cond b (e ∷ keep p es) (keep p es)) ≤ suc (length es)
    go true h = omega arith
    go false h = omega arith

-- check 10: a time and a duration within 86,400 s are never late, nor is a time within 172,800 s
pub start_too_late_within : (n : ℕ) (ds : List ℕ) (now duration : ℕ) → held_too_late n ds ≡ false → now ≤ max_duration → duration ≤ max_duration → start_too_late n ds now duration ≡ false
start_too_late_within n ds now duration h p q = rw h (start_late_within now duration p q)

pub read_too_late_within : (n : ℕ) (ds : List ℕ) (now : ℕ) → held_too_late n ds ≡ false → now ≤ max_time → read_too_late n ds now ≡ false
read_too_late_within n ds now h p = rw h (le-ltb _ _ p)

module _ (t : MultiTimer) (ks ds : List ℕ) (b : broken t.count ks ds ≡ false) where
  g : Good t.count ks ds
  g = good_of t.count ks ds b

  -- an accepted start never holds more than the slices do
  pub start_fits : (key d : ℕ) → start_full t ks ds key ≡ false → length (put key d (used t ks ds)) ≤ length ks
  start_fits key d f = go (search_in key (take t.count ks)) refl
    where
      next : {a m n : ℕ} → a ≡ m + 1 → suc m ≤ n → a ≤ n
      next e h = omega arith

      go : (p : Result ℕ ℕ) → p ≡ search_in key (take t.count ks) → length (put key d (used t ks ds)) ≤ length ks
      go (Ok p) e = le_trans (le_of_eq (kept_count t.count ks ds g key p d e)) g.within
      go (Err p) e = next (inserted_count t.count ks ds g key p d e) (unused t ks ds b key p e f)

  pub used_times : any_late (deadlines_of (used t ks ds)) ≡ held_too_late t.count ds
  used_times = ap any_late (used_deadlines t ks ds b)

  -- other entries in the place of those held
  holding_holds : (generation : ℕ) (es : List Entry) → length es ≤ length ks → ascending (keys_of es) ≡ true → Holds (length ks) es (holding generation t es ks ds)
  holding_holds generation es l a =
      record {
        keys_length = replaced_length (keys_of es) t.count ks g.within (subst (λ (m : ℕ). m ≤ length ks) (sym (length_keys es)) l);
        state = holding_accepted es t.count ks ds g.same g.within l a;
        times = ap any_late (replaced_front (deadlines_of es) (length es) t.count ds (length_deadlines es));
        entries = replaced_used es t.count ks ds;
      }

  keep_holds : (generation : ℕ) (p : Entry → Bool) → Holds (length ks) (keep p (used t ks ds)) (holding generation t (keep p (used t ks ds)) ks ds)
  keep_holds generation p =
      holding_holds generation (keep p (used t ks ds)) (le_trans (keep_most p (used t ks ds)) (le_trans (le_of_eq (used_length t ks ds b)) g.within)) (keep_ascending p 0 (used t ks ds) (used_ascending t ks ds b))

  pub start_holds : (key d : ℕ) → start_full t ks ds key ≡ false → Holds (length ks) (put key d (used t ks ds)) (start_timer_at_unchecked t ks ds key d)
  unfolding start_timer_at_unchecked
  start_holds key d f = holding_holds (next_generation t.global_generation) (put key d (used t ks ds)) (start_fits key d f) (put_ascending key d 0 (used t ks ds) zero-le (used_ascending t ks ds b))

  pub cancel_holds : (key : ℕ) → Holds (length ks) (remove key (used t ks ds)) (cancel_timer_unchecked t ks ds key)
  unfolding cancel_timer_unchecked
  cancel_holds key = keep_holds t.global_generation (other key)

  pub pop_holds : (now : ℕ) (out : List ℕ) → Holds (length ks) (keep (pending now) (used t ks ds)) (pop_expired_at_unchecked t ks ds now out).rest
  unfolding pop_expired_at_unchecked
  pop_holds now out = keep_holds t.global_generation (pending now)

  pub clear_holds : Holds (length ks) [] (clear_unchecked t ks ds)
  unfolding clear_unchecked keys_of ascending_from
  clear_holds = holding_holds t.global_generation [] zero-le refl

  module _ (h : held_too_late t.count ds ≡ false) where
    pub start_times : (key d : ℕ) → start_full t ks ds key ≡ false → d ≤ max_time → InTime (start_timer_at_unchecked t ks ds key d)
    start_times key d f l = (start_holds key d f).times ∙ put_in_time key d (used t ks ds) l (used_times ∙ h)

    pub cancel_times : (key : ℕ) → InTime (cancel_timer_unchecked t ks ds key)
    cancel_times key = (cancel_holds key).times ∙ keep_in_time (other key) (used t ks ds) (used_times ∙ h)

    pub pop_times : (now : ℕ) (out : List ℕ) → InTime (pop_expired_at_unchecked t ks ds now out).rest
    pop_times now out = (pop_holds now out).times ∙ keep_in_time (pending now) (used t ks ds) (used_times ∙ h)

pub new_holds : (ks ds : List ℕ) → length ks ≡ length ds → Holds (length ks) [] (new_unchecked ks ds)
unfolding new_unchecked entries_of deadlines_of ascending_from any_late
new_holds ks ds e = record { keys_length = length-replicate (length ks) 0; state = empty (replicate (length ks) 0) (replicate (length ds) 0) (length-replicate (length ks) 0 ∙ e ∙ sym (length-replicate (length ds) 0)); times = refl; entries = refl }
  where
    empty : (xs ys : List ℕ) → length xs ≡ length ys → broken 0 xs ys ≡ false
    empty xs ys p = simp (eq-eqb (length xs) (length ys) p, le-ltb (length xs) 0 zero-le)
