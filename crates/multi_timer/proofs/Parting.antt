-- The used entries parted into those left and those due, one entry a turn.
use Rattle.std.proofs.Common.{◌≡◌, ℕ, zero, suc, ◌+◌, ◌-◌, ◌<◌, ◌≤◌, Bool, true, false, cond, ltb, leb, ◌⊎◌, List, [], ◌∷◌, ◌++◌, length, get_or, take, drop, set, sym, refl, ap, ◌∙◌, subst, ap₂, inl, inr, true≢false, append_assoc, append-nil, suc-le-suc, zero-le, le_trans, le_of_eq, lt_of_lt_of_le, le_of_suc-le-suc, lt_of_le_of_lt, le_of_lt, add-suc, suc-add, zero-add, add-one, arith, length-append, length-drop, length-take-le, get_or-drop, drop-cons, take-suc, get_or-append-add, ltb-false, ltb-true, le-ltb, lt-ltb, le-leb}
use native.Mathlib.Nat.{suc_inj}
use lib.Seq.{set-append_seam}
use borrow.Author.Tests.{lt-leb}
use Rattle.multi_timer.specs.Map.{Entry, entry, entries_of, keys_of, deadlines_of, keep, due, pending}
use Rattle.multi_timer.specs.Internal.{due_in, Partitioned}
use Rattle.multi_timer.proofs.Sorted.{keys_entries, length_keys, length_deadlines}

-- ---- one more entry
entries_more : (ks ds : List ℕ) (k d : ℕ) → length ks ≡ length ds → entries_of (ks ++ k ∷ []) (ds ++ d ∷ []) ≡ entries_of ks ds ++ entry k d ∷ []
unfolding entries_of
entries_more [] [] k d e = refl
entries_more [] (y ∷ ds) k d e = absurd (omega arith)
entries_more (x ∷ ks) [] k d e = absurd (omega arith)
entries_more (x ∷ ks) (y ∷ ds) k d e = ap (λ (t : List Entry). entry x y ∷ t) (entries_more ks ds k d (suc_inj e))

keep_more : (p : Entry → Bool) (es : List Entry) (e : Entry) → keep p (es ++ e ∷ []) ≡ keep p es ++ cond (p e) (e ∷ []) []
unfolding keep
keep_more p [] e = go (p e)
  where
    go : (b : Bool) → cond b (e ∷ []) [] ≡ [] ++ cond b (e ∷ []) []
    go true = refl
    go false = refl
keep_more p (x ∷ es) e = go (p x) (keep_more p es e)
  where
    go : (b : Bool) → keep p (es ++ e ∷ []) ≡ keep p es ++ cond (p e) (e ∷ []) [] → cond b (x ∷ keep p (es ++ e ∷ [])) (keep p (es ++ e ∷ [])) ≡ cond b (x ∷ keep p es) (keep p es) ++ cond (p e) (e ∷ []) []
    go true h = ap (λ (t : List Entry). x ∷ t) h
    go false h = h

keys_more : (es : List Entry) (e : Entry) → keys_of (es ++ e ∷ []) ≡ keys_of es ++ e.key ∷ []
unfolding keys_of
keys_more [] e = refl
keys_more (x ∷ es) e = ap (λ (t : List ℕ). x.key ∷ t) (keys_more es e)

deadlines_more : (es : List Entry) (e : Entry) → deadlines_of (es ++ e ∷ []) ≡ deadlines_of es ++ e.deadline ∷ []
unfolding deadlines_of
deadlines_more [] e = refl
deadlines_more (x ∷ es) e = ap (λ (t : List ℕ). x.deadline ∷ t) (deadlines_more es e)

length_more : (es : List Entry) (e : Entry) → length (es ++ e ∷ []) ≡ suc (length es)
length_more [] e = refl
length_more (x ∷ es) e = ap suc (length_more es e)

abbrev first : ℕ → List ℕ → List ℕ → List Entry
first i ks ds = entries_of (take i ks) (take i ds)

module _ (i : ℕ) (ks ds : List ℕ) (hk : i < length ks) (hd : i < length ds) where
  first_more : first (i + 1) ks ds ≡ first i ks ds ++ entry (get_or ks i 0) (get_or ds i 0) ∷ []
  first_more =
      ap (λ (n : ℕ). first n ks ds) (add-one i)
      ∙ ap₂ entries_of (take-suc ks i 0 hk) (take-suc ds i 0 hd)
      ∙ entries_more (take i ks) (take i ds) (get_or ks i 0) (get_or ds i 0) (length-take-le i ks (le_of_lt hk) ∙ sym (length-take-le i ds (le_of_lt hd)))

  kept_more : (p : Entry → Bool) → p (entry (get_or ks i 0) (get_or ds i 0)) ≡ true → keep p (first (i + 1) ks ds) ≡ keep p (first i ks ds) ++ entry (get_or ks i 0) (get_or ds i 0) ∷ []
  kept_more p e = ap (keep p) first_more ∙ keep_more p (first i ks ds) (entry (get_or ks i 0) (get_or ds i 0)) ∙ ap (λ (b : Bool). keep p (first i ks ds) ++ cond b (entry (get_or ks i 0) (get_or ds i 0) ∷ []) []) e

  kept_same : (p : Entry → Bool) → p (entry (get_or ks i 0) (get_or ds i 0)) ≡ false → keep p (first (i + 1) ks ds) ≡ keep p (first i ks ds)
  kept_same p e =
      ap (keep p) first_more ∙ keep_more p (first i ks ds) (entry (get_or ks i 0) (get_or ds i 0)) ∙ ap (λ (b : Bool). keep p (first i ks ds) ++ cond b (entry (get_or ks i 0) (get_or ds i 0) ∷ []) []) e ∙ append-nil (keep p (first i ks ds))

-- ---- new entries over old ones
next_set : (new old : List ℕ) (n v : ℕ) → length new ≡ n → n < length old → set (new ++ drop n old) n v ≡ (new ++ v ∷ []) ++ drop (suc n) old
next_set new old n v e h =
    ap (λ (t : List ℕ). set (new ++ t) n v) (drop-cons old n 0 h)
    ∙ ap (λ (m : ℕ). set (new ++ get_or old n 0 ∷ drop (suc n) old) m v) (sym e)
    ∙ set-append_seam new (get_or old n 0) (drop (suc n) old) v
    ∙ sym (append_assoc new (v ∷ []) (drop (suc n) old))

next_get : (new old : List ℕ) (n i : ℕ) → length new ≡ n → n ≤ i → get_or (new ++ drop n old) i 0 ≡ get_or old i 0
next_get new old n i e h =
    ap (λ (m : ℕ). get_or (new ++ drop n old) m 0) (split (length new) n i e h)
    ∙ get_or-append-add new (drop n old) (i - n) 0 ∙ get_or-drop n old (i - n) 0 ∙ ap (λ (m : ℕ). get_or old m 0) (whole n i h)
  where
    split : (m n i : ℕ) → m ≡ n → n ≤ i → i ≡ m + (i - n)
    split m n i e h = omega arith

    whole : (n i : ℕ) → n ≤ i → n + (i - n) ≡ i
    whole n i h = omega arith

pub next_length : (new old ys : List ℕ) (n : ℕ) → ys ≡ new ++ drop n old → length new ≡ n → n ≤ length old → length ys ≡ length old
next_length new old ys n q e h = let p : length ys ≡ length new + (length old - n) = ap length q ∙ simp (length-append, length-drop) in omega arith

-- ---- how many there are
pub entries_length : (i : ℕ) (ks ds : List ℕ) → i ≤ length ks → i ≤ length ds → length (first i ks ds) ≡ i
entries_length i ks ds hk hd = sym (length_keys (first i ks ds)) ∙ ap length (keys_entries (take i ks) (take i ds) (length-take-le i ks hk ∙ sym (length-take-le i ds hd))) ∙ length-take-le i ks hk

pub both : (now : ℕ) (es : List Entry) → length (keep (pending now) es) + length (keep (due now) es) ≡ length es
unfolding keep
both now [] = zero-add 0
both now (e ∷ es) = go (ltb now e.deadline) (leb e.deadline now) (one_of now e.deadline) (both now es)
  where
    one_of : (now d : ℕ) → ((ltb now d ≡ true) × (leb d now ≡ false)) ⊎ ((ltb now d ≡ false) × (leb d now ≡ true))
    one_of now d = pick (ltb now d) (ltb-true now d) (ltb-false now d)
      where
        pick : (b : Bool) → (b ≡ true → now < d) → (b ≡ false → d ≤ now) → ((ltb now d ≡ true) × (leb d now ≡ false)) ⊎ ((ltb now d ≡ false) × (leb d now ≡ true))
        pick true p q = inl (lt-ltb _ _ (p refl), lt-leb _ _ (p refl))
        pick false p q = inr (le-ltb _ _ (q refl), le-leb _ _ (q refl))

    go : (a b : Bool) → ((a ≡ true) × (b ≡ false)) ⊎ ((a ≡ false) × (b ≡ true)) → length (keep (pending now) es) + length (keep (due now) es) ≡ length es → length (cond a (e ∷ keep (pending now) es) (keep (pending now) es)) + length (cond b (e ∷ keep (due now) es) (keep (due now) es)) ≡ suc (length es)
    go true false w h = suc-add _ _ ∙ ap suc h
    go false true w h = add-suc _ _ ∙ ap suc h
    go true true (inl w) h = absurd (true≢false w.1)
    go true true (inr w) h = absurd (true≢false w.0)
    go false false (inl w) h = absurd (true≢false (sym w.0))
    go false false (inr w) h = absurd (true≢false (sym w.1))

pub due_length : (now : ℕ) (ks ds : List ℕ) → length ks ≡ length ds → length (keep (due now) (entries_of ks ds)) ≡ due_in now ds
unfolding entries_of keep due_in
due_length now [] [] e = refl
due_length now [] (y ∷ ds) e = absurd (omega arith)
due_length now (x ∷ ks) [] e = absurd (omega arith)
due_length now (x ∷ ks) (y ∷ ds) e = go (leb y now) (due_length now ks ds (suc_inj e))
  where
    go : (b : Bool) → length (keep (due now) (entries_of ks ds)) ≡ due_in now ds → length (cond b (entry x y ∷ keep (due now) (entries_of ks ds)) (keep (due now) (entries_of ks ds))) ≡ cond b (suc (due_in now ds)) (due_in now ds)
    go true h = ap suc h
    go false h = h

-- a due entry at i is one more than those before it
due_before : (now n i : ℕ) (ds : List ℕ) → i < n → n ≤ length ds → get_or ds i 0 ≤ now → due_in now (take i ds) < due_in now (take n ds)
unfolding due_in
due_before now n i [] h l d = absurd (none n i h l)
  where
    none : (n i : ℕ) → i < n → n ≤ 0 → ⊥
    none n i h l = omega arith
due_before now zero i (y ∷ ds) h l d = absurd (omega arith)
due_before now (suc n) zero (y ∷ ds) h l d = rw (le-leb y now d) (suc-le-suc zero-le)
due_before now (suc n) (suc i) (y ∷ ds) h l d = go (leb y now) (due_before now n i ds (le_of_suc-le-suc h) (le_of_suc-le-suc l) d)
  where
    go : (b : Bool) → due_in now (take i ds) < due_in now (take n ds) → cond b (suc (due_in now (take i ds))) (due_in now (take i ds)) < cond b (suc (due_in now (take n ds))) (due_in now (take n ds))
    go true h = suc-le-suc h
    go false h = h

-- those due among fewer are no more
due_mono : (now i n : ℕ) (ds : List ℕ) → i ≤ n → due_in now (take i ds) ≤ due_in now (take n ds)
unfolding due_in
due_mono now zero n ds h = zero-le
due_mono now (suc i) n [] h = zero-le
due_mono now (suc i) zero (y ∷ ds) h = absurd (omega arith)
due_mono now (suc i) (suc n) (y ∷ ds) h = go (leb y now) (due_mono now i n ds (le_of_suc-le-suc h))
  where
    go : (b : Bool) → due_in now (take i ds) ≤ due_in now (take n ds) → cond b (suc (due_in now (take i ds))) (due_in now (take i ds)) ≤ cond b (suc (due_in now (take n ds))) (due_in now (take n ds))
    go true h = suc-le-suc h
    go false h = h

-- ---- the turns
pub parted_none : (now : ℕ) (ks ds out : List ℕ) → Partitioned 0 now ks ds out 0 ks ds out
unfolding entries_of keep keys_of deadlines_of
parted_none now ks ds out = record { count = refl; keys = refl; deadlines = refl; taken = refl }

module _ (n i now : ℕ) (ks₀ ds₀ out₀ : List ℕ) (left : ℕ) (ks ds out : List ℕ) (hk : n ≤ length ks₀) (hd : n ≤ length ds₀) (ho : due_in now (take n ds₀) ≤ length out₀) (p : Partitioned i now ks₀ ds₀ out₀ left ks ds out) where
  abbrev P : List Entry
  P = keep (pending now) (first i ks₀ ds₀)

  abbrev D : List Entry
  D = keep (due now) (first i ks₀ ds₀)

  sizes : i ≤ n → left + length D ≡ i
  sizes h = ap (λ (m : ℕ). m + length D) p.count ∙ both now (first i ks₀ ds₀) ∙ entries_length i ks₀ ds₀ (le_trans h hk) (le_trans h hd)

  left_most : i ≤ n → left ≤ i
  left_most h = let e : left + length D ≡ i = sizes h in omega arith

  keys_size : length (keys_of P) ≡ left
  keys_size = length_keys P ∙ sym p.count

  deadlines_size : length (deadlines_of P) ≡ left
  deadlines_size = length_deadlines P ∙ sym p.count

  due_size : i ≤ n → length D ≡ due_in now (take i ds₀)
  due_size h = due_length now (take i ks₀) (take i ds₀) (length-take-le i ks₀ (le_trans h hk) ∙ sym (length-take-le i ds₀ (le_trans h hd)))

  keys_length : i ≤ n → length ks ≡ length ks₀
  keys_length h = next_length (keys_of P) ks₀ ks left p.keys keys_size (le_trans (left_most h) (le_trans h hk))

  deadlines_length : i ≤ n → length ds ≡ length ds₀
  deadlines_length h = next_length (deadlines_of P) ds₀ ds left p.deadlines deadlines_size (le_trans (left_most h) (le_trans h hd))

  out_length : i ≤ n → length out ≡ length out₀
  out_length h = next_length (keys_of D) out₀ out (length D) p.taken (length_keys D) (le_trans (le_of_eq (due_size h)) (le_trans (due_mono now i n ds₀ h) ho))

  pub turn_sizes : i ≤ n → (length ks ≡ length ks₀) × (length ds ≡ length ds₀) × (length out ≡ length out₀) × (left ≤ i)
  turn_sizes h = (keys_length h, deadlines_length h, out_length h, left_most h)

  module _ (h : i < n) where
    pub key_read : get_or ks i 0 ≡ get_or ks₀ i 0
    key_read = ap (λ (t : List ℕ). get_or t i 0) p.keys ∙ next_get (keys_of P) ks₀ left i keys_size (left_most (le_of_lt h))

    pub deadline_read : get_or ds i 0 ≡ get_or ds₀ i 0
    deadline_read = ap (λ (t : List ℕ). get_or t i 0) p.deadlines ∙ next_get (deadlines_of P) ds₀ left i deadlines_size (left_most (le_of_lt h))

    more_keys : i < length ks₀
    more_keys = lt_of_lt_of_le h hk

    more_deadlines : i < length ds₀
    more_deadlines = lt_of_lt_of_le h hd

    pub out_room : get_or ds i 0 ≤ now → i - left < length out₀
    out_room d =
        let e : left + length D ≡ i = sizes (le_of_lt h) in
        let b = due_before now n i ds₀ h hd (subst (λ (x : ℕ). x ≤ now) deadline_read d) in
        let s : length D < length out₀ = lt_of_lt_of_le (lt_of_le_of_lt (le_of_eq (due_size (le_of_lt h))) b) ho in
        omega arith

    pub parted_due : get_or ds i 0 ≤ now → Partitioned (i + 1) now ks₀ ds₀ out₀ left ks ds (set out (i - left) (get_or ks i 0))
    parted_due d =
        let d₀ : get_or ds₀ i 0 ≤ now = subst (λ (x : ℕ). x ≤ now) deadline_read d in
        let same = kept_same i ks₀ ds₀ more_keys more_deadlines (pending now) (le-ltb _ _ d₀) in
        let more = kept_more i ks₀ ds₀ more_keys more_deadlines (due now) (le-leb _ _ d₀) in
        let e : i - left ≡ length D = place left (length D) i (sizes (le_of_lt h)) in
        record {
          count = p.count ∙ ap length (sym same);
          keys = p.keys ∙ ap (λ (es : List Entry). keys_of es ++ drop left ks₀) (sym same);
          deadlines = p.deadlines ∙ ap (λ (es : List Entry). deadlines_of es ++ drop left ds₀) (sym same);
          taken =
              ap₂ (λ (t : List ℕ) (m : ℕ). set t m (get_or ks i 0)) p.taken e
              ∙ next_set (keys_of D) out₀ (length D) (get_or ks i 0) (length_keys D) (subst (λ (m : ℕ). m < length out₀) e (out_room d))
              ∙ ap (λ (k : ℕ). (keys_of D ++ k ∷ []) ++ drop (suc (length D)) out₀) key_read
              ∙ ap₂ (λ (t : List ℕ) (m : ℕ). t ++ drop m out₀) (sym (ap keys_of more ∙ keys_more D (entry (get_or ks₀ i 0) (get_or ds₀ i 0)))) (sym (ap length more ∙ length_more D (entry (get_or ks₀ i 0) (get_or ds₀ i 0))));
        }
      where
        place : (l d i : ℕ) → l + d ≡ i → i - l ≡ d
        place l d i e = omega arith

    pub parted_left : now < get_or ds i 0 → Partitioned (i + 1) now ks₀ ds₀ out₀ (left + 1) (set ks left (get_or ks i 0)) (set ds left (get_or ds i 0)) out
    parted_left d =
        let d₀ : now < get_or ds₀ i 0 = subst (λ (x : ℕ). now < x) deadline_read d in
        let more = kept_more i ks₀ ds₀ more_keys more_deadlines (pending now) (lt-ltb _ _ d₀) in
        let same = kept_same i ks₀ ds₀ more_keys more_deadlines (due now) (lt-leb _ _ d₀) in
        let e = entry (get_or ks₀ i 0) (get_or ds₀ i 0) in
        let l : left < length ks₀ = lt_of_le_of_lt (left_most (le_of_lt h)) more_keys in
        let m : left < length ds₀ = lt_of_le_of_lt (left_most (le_of_lt h)) more_deadlines in
        record {
          count = ap (λ (k : ℕ). k + 1) p.count ∙ add-one (length P) ∙ sym (ap length more ∙ length_more P e);
          keys =
              ap (λ (t : List ℕ). set t left (get_or ks i 0)) p.keys ∙ next_set (keys_of P) ks₀ left (get_or ks i 0) keys_size l
              ∙ ap₂ (λ (k : ℕ) (n : ℕ). (keys_of P ++ k ∷ []) ++ drop n ks₀) key_read (sym (add-one left))
              ∙ ap (λ (t : List ℕ). t ++ drop (left + 1) ks₀) (sym (ap keys_of more ∙ keys_more P e));
          deadlines =
              ap (λ (t : List ℕ). set t left (get_or ds i 0)) p.deadlines ∙ next_set (deadlines_of P) ds₀ left (get_or ds i 0) deadlines_size m
              ∙ ap₂ (λ (k : ℕ) (n : ℕ). (deadlines_of P ++ k ∷ []) ++ drop n ds₀) deadline_read (sym (add-one left))
              ∙ ap (λ (t : List ℕ). t ++ drop (left + 1) ds₀) (sym (ap deadlines_of more ∙ deadlines_more P e));
          taken = p.taken ∙ ap (λ (es : List Entry). keys_of es ++ drop (length es) out₀) (sym same);
        }

pub parted_as : (n now : ℕ) (ks ds out : List ℕ) (l l' : ℕ) (a a' b b' c c' : List ℕ) → a ≡ a' → b ≡ b' → c ≡ c' → l ≡ l' → Partitioned n now ks ds out l' a' b' c' → Partitioned n now ks ds out l a b c
parted_as n now ks ds out l l' a a' b b' c c' p q r s x =
    record {
      count = s ∙ x.count;
      keys = p ∙ x.keys ∙ ap (λ (m : ℕ). keys_of (keep (pending now) (first n ks ds)) ++ drop m ks) (sym s);
      deadlines = q ∙ x.deadlines ∙ ap (λ (m : ℕ). deadlines_of (keep (pending now) (first n ks ds)) ++ drop m ds) (sym s);
      taken = r ∙ x.taken;
    }
