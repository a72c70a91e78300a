-- Keys in a window of numbers, from low up to high: there are at most high - low of them, so a start there never meets a 5.
use Rattle.std.specs.Prelude.{Err, Ok, Result, Option, None, Some}
use Rattle.std.proofs.Common.{◌≡◌, ℕ, suc, ◌+◌, ◌-◌, ◌<◌, ◌≤◌, Bool, true, false, cond, ◌&&◌, eqb, ltb, leb, List, [], ◌∷◌, length, take, sym, refl, ap, ◌∙◌, true≢false, zero-le, le_trans, arith, ltb-false, ltb-true, eq-eqb, eqb-true}
use borrow.Author.Tests.{lt-leb}
use Rattle.multi_timer.specs.Map.{Entry, keys_of, ascending, ascending_from, lookup, is_some, keep, put, remove, pending, still_set}
use Rattle.multi_timer.specs.Internal.{search_in}
use Rattle.multi_timer.specs.MultiTimer.{used, broken, start_full}
use Rattle.multi_timer.specs.declared.MultiTimer.{MultiTimer}
use Rattle.multi_timer.proofs.Verdicts.{Good, good_of}
use Rattle.multi_timer.proofs.Sorted.{first_key, other_keys}
use Rattle.multi_timer.proofs.Places.{at_lookup, inserted_count}
use Rattle.multi_timer.proofs.Changes.{used_ascending}
use Rattle.multi_timer.proofs.Map.{lookup_put, lookup_remove, lookup_pop, put_ascending}

-- each key with a timer is at least low and below high
pub record Within (low high : ℕ) (es : List Entry) : Type 0 where
  pub bounds : (key : ℕ) → is_some (lookup key es) ≡ true → (low ≤ key) × (key < high)

pub within_none : (low high : ℕ) → Within low high []
unfolding lookup
within_none low high = record { bounds = λ key e. absurd (true≢false (sym e)) }

-- the window moves: its end rises, or its start over numbers that have no timer
pub within_moved : (low high low' high' : ℕ) (es : List Entry) → high ≤ high' → ((key : ℕ) → key < low' → lookup key es ≡ None) → Within low high es → Within low' high' es
within_moved low high low' high' es h n w = record { bounds = λ key e. (go (ltb key low') (λ k. n key (ltb-true _ _ k)) (ltb-false _ _) e, le_trans (w.bounds key e).1 h) }
  where
    go : {key : ℕ} (b : Bool) → (b ≡ true → lookup key es ≡ None) → (b ≡ false → low' ≤ key) → is_some (lookup key es) ≡ true → low' ≤ key
    go true p q e = absurd (true≢false (sym e ∙ ap is_some (p refl)))
    go false p q e = q refl

module _ (low high : ℕ) (es : List Entry) (w : Within low high es) where
  pub within_put : (key d : ℕ) → low ≤ key → key < high → Within low high (put key d es)
  within_put key d l h = record { bounds = λ q e. go (eqb key q) (eqb-true key q) (ap is_some (sym (lookup_put key d q es)) ∙ e) }
    where
      same : {q : ℕ} → key ≡ q → (low ≤ q) × (q < high)
      same e = (omega arith, omega arith)

      go : {q : ℕ} (b : Bool) → (b ≡ true → key ≡ q) → is_some (cond b (Some d) (lookup q es)) ≡ true → (low ≤ q) × (q < high)
      go true k e = same (k refl)
      go {q} false k e = w.bounds q e

  pub within_remove : (key : ℕ) → Within low high (remove key es)
  within_remove key = record { bounds = λ q e. go (eqb key q) (ap is_some (sym (lookup_remove key q es)) ∙ e) }
    where
      go : {q : ℕ} (b : Bool) → is_some (cond b None (lookup q es)) ≡ true → (low ≤ q) × (q < high)
      go true e = absurd (true≢false (sym e))
      go {q} false e = w.bounds q e

  pub within_pop : (now : ℕ) → ascending (keys_of es) ≡ true → Within low high (keep (pending now) es)
  within_pop now a = record { bounds = λ q e. w.bounds q (go (lookup q es) (ap is_some (sym (lookup_pop now q 0 es a)) ∙ e)) }
    where
      go : (o : Option ℕ) → is_some (still_set now o) ≡ true → is_some o ≡ true
      go None e = e
      go (Some d) e = refl

-- ---- how many there are
behind : (low high : ℕ) (e : Entry) (es : List Entry) → Within low high (e ∷ es) → Within low high es
unfolding lookup
behind low high e es w = record { bounds = λ q h. w.bounds q (go (eqb e.key q) (lookup q es) h) }
  where
    go : (b : Bool) (o : Option ℕ) → is_some o ≡ true → is_some (cond b (Some e.deadline) o) ≡ true
    go true o h = refl
    go false o h = h

first_within : (low high : ℕ) (e : Entry) (es : List Entry) → Within low high (e ∷ es) → (low ≤ e.key) × (e.key < high)
unfolding lookup
first_within low high e es w = w.bounds e.key (rw (eq-eqb e.key e.key refl))

above : (low high from : ℕ) (es : List Entry) → ascending_from from (keys_of es) ≡ true → low ≤ from → Within low high es → length es ≤ high - from
unfolding keys_of
above low high from [] a l w = zero-le
above low high from (e ∷ es) a l w = one_more (first_key from e.key (keys_of es) a) (first_within low high e es w).1 (above low high (suc e.key) es (other_keys from e.key (keys_of es) a) (next (first_key from e.key (keys_of es) a)) (behind low high e es w))
  where
    next : from ≤ e.key → low ≤ suc e.key
    next f = omega arith

    one_more : {n : ℕ} → from ≤ e.key → e.key < high → n ≤ high - suc e.key → suc n ≤ high - from
    one_more f h n = omega arith

pub within_length : (low high : ℕ) (es : List Entry) → ascending (keys_of es) ≡ true → Within low high es → length es ≤ high - low
unfolding keys_of
within_length low high [] a w = zero-le
within_length low high (e ∷ es) a w = one_more (first_within low high e es w).0 (first_within low high e es w).1 (above low high (suc e.key) es (other_keys 0 e.key (keys_of es) a) (next (first_within low high e es w).0) (behind low high e es w))
  where
    next : low ≤ e.key → low ≤ suc e.key
    next f = omega arith

    one_more : {n : ℕ} → low ≤ e.key → e.key < high → n ≤ high - suc e.key → suc n ≤ high - low
    one_more f h n = omega arith

-- a start of a key of the window in slices of at least so many entries: no 5
pub start_full_within : (t : MultiTimer) (ks ds : List ℕ) (low high key : ℕ) → broken t.count ks ds ≡ false → Within low high (used t ks ds) → low ≤ key → key < high → high - low ≤ length ks → start_full t ks ds key ≡ false
start_full_within t ks ds low high key b w l h r = go (search_in key (take t.count ks)) refl
  where
    g : Good t.count ks ds
    g = good_of t.count ks ds b

    most : length (put key 0 (used t ks ds)) ≤ high - low
    most = within_length low high (put key 0 (used t ks ds)) (put_ascending key 0 0 (used t ks ds) zero-le (used_ascending t ks ds b)) (within_put low high (used t ks ds) w key 0 l h)

    room : {n : ℕ} → n ≡ t.count + 1 → n ≤ high - low → t.count < length ks
    room e m = omega arith

    either : (x : Bool) → (x && false) ≡ false
    either true = refl
    either false = refl

    go : (p : Result ℕ ℕ) → p ≡ search_in key (take t.count ks) → start_full t ks ds key ≡ false
    go (Ok p) e = rw (at_lookup t.count ks ds g key p e) (either (leb (length ks) t.count))
    go (Err p) e = rw (lt-leb (length ks) t.count (room (inserted_count t.count ks ds g key p 0 e) most))
