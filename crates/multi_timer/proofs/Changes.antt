-- What the functions below the entry points leave, as the definitions have it.
use Rattle.std.specs.Prelude.{Err, None, Ok, Some}
use Rattle.std.proofs.Common.{◌≡◌, ℕ, suc, ◌+◌, ◌-◌, ◌<◌, ◌≤◌, min, max, Bool, true, false, cond, not, ◌&&◌, leb, List, [], ◌∷◌, ◌++◌, length, get_or, take, drop, set, replicate, sym, refl, ap, ◌∙◌, subst, ap₂, true≢false, zero-le, le_trans, arith, drop-drop, take_at, drop_at, leb-false}
use Rattle.std.specs.List.{count_by, fold}
use Rattle.std.proofs.lemmas.List.Sums.{sum_by-cons}
use native.Mathlib.Nat.{zero-sub, max-eq_right}
use Rattle.multi_timer.specs.Map.{Entry, keys_of, deadlines_of, ascending, lookup, is_some, keep, due, due_keys, pending, min_of, earliest}
use Rattle.multi_timer.specs.Internal.{search_in, inserted_at, removed_at, cleared_in, due_in, Partitioned}
use Rattle.multi_timer.specs.MultiTimer.{used, replaced, timers_exit, TimersExit, pop_exit, timers, next_generation, broken, start_full, start_timer_at_unchecked, cancel_timer_unchecked, pop_expired_at_unchecked, clear_unchecked, earliest_answer, earliest_deadline_unchecked}
use Rattle.multi_timer.specs.declared.MultiTimer.{MultiTimer}
use Rattle.multi_timer.proofs.Verdicts.{Good, good_of, in_order_lem}
use Rattle.multi_timer.proofs.Lists.{rest, rest_cons}
use Rattle.multi_timer.proofs.Sorted.{length_keys, length_deadlines, keys_entries, deadlines_entries}
use Rattle.multi_timer.proofs.Parting.{due_length, both, entries_length, next_length}
use Rattle.multi_timer.proofs.Places.{replaced_fewer, same_is, set_is, inserted_is, removed_is, within, one_length, put_found, remove_found, at_bound, absent_lookup, absent_bound, kept_count, inserted_count, removed_count, same_count}

same_after : {A : Type 0} (a b : A) (ks ls ds es : List ℕ) → a ≡ b → ks ≡ ls → ds ≡ es → timers_exit a ks ds ≡ timers_exit b ls es
same_after {A = A} a b ks ls ds es p q r = ap₂ (λ (x : TimersExit A) (l : List ℕ). timers_exit x.answer x.keys l) (ap₂ (λ (x : A) (l : List ℕ). timers_exit x l ds) p q) r

-- where none were used before
pub front : (new old : List ℕ) → replaced new 0 old ≡ new ++ drop (length new) old
unfolding replaced
front new old = ap₂ (λ (k m : ℕ). new ++ (replicate k 0 ++ drop m old)) (zero-sub (length new)) (largest (length new))
  where
    largest : (m : ℕ) → max 0 m ≡ m
    largest m = max-eq_right zero-le

module _ (t : MultiTimer) (ks ds : List ℕ) (b : broken t.count ks ds ≡ false) where
  abbrev g : Good t.count ks ds
  g = good_of t.count ks ds b

  pub count_fits : t.count ≤ length ks
  count_fits = g.within

  pub keys_in_order : (t.count ≤ length ks) × (ascending (take t.count ks) ≡ true)
  keys_in_order = in_order_lem g

  pub count_fits_deadlines : t.count ≤ length ds
  count_fits_deadlines = within t.count ks ds g

  pub used_one_length : length (take t.count ks) ≡ length (take t.count ds)
  used_one_length = one_length t.count ks ds g

  pub used_length : length (used t ks ds) ≡ t.count
  used_length = entries_length t.count ks ds count_fits count_fits_deadlines

  pub used_ascending : ascending (keys_of (used t ks ds)) ≡ true
  used_ascending = ap ascending (keys_entries (take t.count ks) (take t.count ds) used_one_length) ∙ g.sorted

  pub used_deadlines : deadlines_of (used t ks ds) ≡ take t.count ds
  used_deadlines = deadlines_entries (take t.count ks) (take t.count ds) used_one_length

  pub due_used : (now : ℕ) → length (due_keys now (used t ks ds)) ≡ due_in now (take t.count ds)
  due_used now = length_keys (keep (due now) (used t ks ds)) ∙ due_length now (take t.count ks) (take t.count ds) used_one_length

  pub earliest_none : t.count ≡ 0 → Ok None ≡ earliest_deadline_unchecked t ks ds
  unfolding earliest
  earliest_none z = sym (ap (λ (xs : List ℕ). earliest_answer (earliest xs)) (used_deadlines ∙ ap (λ (n : ℕ). take n ds) z))

  pub earliest_at : (d : ℕ) → Some d ≡ earliest (take t.count ds) → Ok (Some d) ≡ earliest_deadline_unchecked t ks ds
  earliest_at d e = ap earliest_answer e ∙ sym (ap (λ (xs : List ℕ). earliest_answer (earliest xs)) used_deadlines)

  pub started_at : (key d p next : ℕ) (ds' : List ℕ) → Ok p ≡ search_in key (take t.count ks) → next ≡ next_generation t.global_generation → ds' ≡ set ds p d → timers_exit (timers t.count next) ks ds' ≡ start_timer_at_unchecked t ks ds key d
  unfolding start_timer_at_unchecked
  started_at key d p next ds' e n q =
      let w = put_found t.count ks ds g key d (Ok p) e in
      same_after _ _ ks _ ds' _ (ap₂ timers (sym (kept_count t.count ks ds g key p d e)) n) (sym (same_is t.count ks _ count_fits w.keys)) (q ∙ sym (set_is t.count ds _ count_fits_deadlines p d (at_bound t.count ks ds g key p e) w.deadlines))

  pub started_absent : (key d p next : ℕ) (ks' ds' : List ℕ) → Err p ≡ search_in key (take t.count ks) → next ≡ next_generation t.global_generation → ks' ≡ inserted_at p t.count key ks → ds' ≡ inserted_at p t.count d ds
      → timers_exit (timers (t.count + 1) next) ks' ds' ≡ start_timer_at_unchecked t ks ds key d
  unfolding start_timer_at_unchecked
  started_absent key d p next ks' ds' e n q r =
      let w = put_found t.count ks ds g key d (Err p) e in
      let h = absent_bound t.count ks ds g key p e in
      same_after _ _ ks' _ ds' _ (ap₂ timers (sym (inserted_count t.count ks ds g key p d e)) n) (q ∙ sym (inserted_is t.count ks _ count_fits p key h w.keys)) (r ∙ sym (inserted_is t.count ds _ count_fits_deadlines p d h w.deadlines))

  pub place_at : (key p : ℕ) → Ok p ≡ search_in key (take t.count ks) → p < t.count
  place_at key p e = at_bound t.count ks ds g key p e

  pub place_absent : (key p : ℕ) → Err p ≡ search_in key (take t.count ks) → p ≤ t.count
  place_absent key p e = absent_bound t.count ks ds g key p e

  -- a new key has an unused entry
  pub unused : (key p : ℕ) → Err p ≡ search_in key (take t.count ks) → start_full t ks ds key ≡ false → t.count < length ks
  unused key p e f = go (leb (length ks) t.count) (is_some (lookup key (used t ks ds))) (leb-false _ _) (ap is_some (absent_lookup t.count ks ds g key p e)) f
    where
      go : (a h : Bool) → (a ≡ false → t.count < length ks) → h ≡ false → (a && not h) ≡ false → t.count < length ks
      go false h p q r = p refl
      go true true p q r = absurd (true≢false q)
      go true false p q r = absurd (true≢false r)

  pub unused_deadline : (key p : ℕ) → Err p ≡ search_in key (take t.count ks) → start_full t ks ds key ≡ false → t.count < length ds
  unused_deadline key p e f = subst (λ (m : ℕ). t.count < m) g.same (unused key p e f)

  pub cancelled_at : (key p n : ℕ) (ks' ds' : List ℕ) → Ok p ≡ search_in key (take t.count ks) → n ≡ t.count - 1 → ks' ≡ removed_at p t.count ks → ds' ≡ removed_at p t.count ds → timers_exit (timers n t.global_generation) ks' ds' ≡ cancel_timer_unchecked t ks ds key
  unfolding cancel_timer_unchecked
  cancelled_at key p n ks' ds' e m q r =
      let w = remove_found t.count ks ds g key (Ok p) e in
      let h = at_bound t.count ks ds g key p e in
      same_after _ _ ks' _ ds' _ (ap (λ (k : ℕ). timers k t.global_generation) (m ∙ sym (removed_count t.count ks ds g key p e))) (q ∙ sym (removed_is t.count ks _ count_fits p h w.keys)) (r ∙ sym (removed_is t.count ds _ count_fits_deadlines p h w.deadlines))

  pub cancelled_absent : (key p : ℕ) → Err p ≡ search_in key (take t.count ks) → timers_exit t ks ds ≡ cancel_timer_unchecked t ks ds key
  unfolding cancel_timer_unchecked
  cancelled_absent key p e =
      let w = remove_found t.count ks ds g key (Err p) e in
      same_after _ _ ks _ ds _ (ap (λ (k : ℕ). timers k t.global_generation) (sym (same_count t.count ks ds g key p e))) (sym (same_is t.count ks _ count_fits w.keys)) (sym (same_is t.count ds _ count_fits_deadlines w.deadlines))

  pub cleared_all : (ks' ds' : List ℕ) → ks' ≡ cleared_in 0 t.count ks → ds' ≡ cleared_in 0 t.count ds → timers_exit (timers 0 t.global_generation) ks' ds' ≡ clear_unchecked t ks ds
  unfolding clear_unchecked keys_of deadlines_of
  cleared_all ks' ds' q r = same_after _ _ ks' _ ds' _ refl (q ∙ sym (replaced_fewer [] ks t.count zero-le)) (r ∙ sym (replaced_fewer [] ds t.count zero-le))

  -- ---- what partition leaves, cleared behind it
  module _ (now left : ℕ) (out ks' ds' out' ks'' ds'' : List ℕ) (p : Partitioned t.count now ks ds out left ks' ds' out') where
    abbrev P : List Entry
    P = keep (pending now) (used t ks ds)

    pub left_fits : left ≤ t.count
    left_fits = subst (λ (m : ℕ). m ≤ t.count) (sym p.count) (let s = both now (used t ks ds) in let e = used_length in omega arith)

    after_parting : (xs xs' new ys : List ℕ) → xs' ≡ new ++ drop left xs → length new ≡ left → left ≤ t.count → ys ≡ cleared_in left t.count xs' → ys ≡ replaced new t.count xs
    after_parting xs xs' new ys e l h q =
        q
        ∙ ap (λ (z : List ℕ). cleared_in left t.count z) e
        ∙ ap₂ (λ (a c : List ℕ). a ++ (replicate (t.count - left) 0 ++ c)) (take_at new (drop left xs) left l) (past l)
        ∙ ap (λ (m : ℕ). new ++ (replicate (t.count - m) 0 ++ drop t.count xs)) (sym l)
        ∙ sym (replaced_fewer new xs t.count (subst (λ (m : ℕ). m ≤ t.count) (sym l) h))
      where
        sum : (a b : ℕ) → a ≤ b → a + (b - a) ≡ b
        sum a b h = omega arith

        past : length new ≡ left → drop t.count (new ++ drop left xs) ≡ drop t.count xs
        past l =
            ap (λ (m : ℕ). drop m (new ++ drop left xs)) (sym (sum left t.count h))
            ∙ sym (drop-drop (t.count - left) left (new ++ drop left xs)) ∙ ap (drop (t.count - left)) (drop_at new (drop left xs) left l)
            ∙ drop-drop (t.count - left) left xs ∙ ap (λ (m : ℕ). drop m xs) (sum left t.count h)

    pub parted_keys : length ks' ≡ length ks
    parted_keys = next_length (keys_of P) ks ks' left p.keys (length_keys P ∙ sym p.count) (le_trans left_fits count_fits)

    pub parted_deadlines : length ds' ≡ length ds
    parted_deadlines = next_length (deadlines_of P) ds ds' left p.deadlines (length_deadlines P ∙ sym p.count) (le_trans left_fits count_fits_deadlines)

    pub popped_all : ks'' ≡ cleared_in left t.count ks' → ds'' ≡ cleared_in left t.count ds' → pop_exit (timers_exit (timers left t.global_generation) ks'' ds'') out' ≡ pop_expired_at_unchecked t ks ds now out
    unfolding pop_expired_at_unchecked
    popped_all q r =
        let h = left_fits in
        ap₂ (λ (a : TimersExit MultiTimer) (o : List ℕ). pop_exit a o)
        (same_after _ _ ks'' _ ds'' _ (ap (λ (k : ℕ). timers k t.global_generation) p.count)
        (after_parting ks ks' (keys_of P) ks'' p.keys (length_keys P ∙ sym p.count) h q)
        (after_parting ds ds' (deadlines_of P) ds'' p.deadlines (length_deadlines P ∙ sym p.count) h r))
        (p.taken ∙ sym (out_replaced (keep (due now) (used t ks ds)) out))
      where
        out_replaced : (es : List Entry) (out : List ℕ) → replaced (keys_of es) 0 out ≡ keys_of es ++ drop (length es) out
        out_replaced es out = front (keys_of es) out ∙ ap (λ (m : ℕ). keys_of es ++ drop m out) (length_keys es)

-- ---- the due deadlines, counted, and the least deadline
pub due_counted : (now : ℕ) (ds : List ℕ) → due_in now ds ≡ count_by (λ d. leb d now) ds
unfolding due_in
due_counted now [] = refl
due_counted now (d ∷ ds) = go (leb d now) (due_counted now ds) ∙ sym (sum_by-cons (λ x. cond (leb x now) 1 0) d ds)
  where
    go : (b : Bool) {m n : ℕ} → m ≡ n → cond b (suc m) m ≡ cond b 1 0 + n
    go true e = omega (arith, e)
    go false e = omega (arith, e)

min_assoc : (a b c : ℕ) → min (min a b) c ≡ min a (min b c)
min_assoc a b c = omega arith

min_of_min : (m d : ℕ) (xs : List ℕ) → min_of (min m d) xs ≡ min m (min_of d xs)
unfolding min_of
min_of_min m d [] = refl
min_of_min m d (x ∷ xs) = min_assoc m d (min_of x xs)

pub min_folded : (m : ℕ) (ds : List ℕ) → min_of m ds ≡ fold (λ (a d : ℕ). min a d) m ds
unfolding min_of
min_folded m [] = refl
min_folded m (d ∷ ds) = sym (min_of_min m d ds) ∙ min_folded (min m d) ds

pub min_start : (n : ℕ) (ds : List ℕ) → 0 < n → n ≤ length ds → earliest (take n ds) ≡ Some (min_of (get_or ds 0 0) (rest n 1 ds))
unfolding earliest
min_start n ds h l = ap earliest (rest_cons n 0 ds h l)
