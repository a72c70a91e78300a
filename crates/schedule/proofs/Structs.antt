-- Records as structs: what the in-place loops of `Scheduled::insert_unchecked` and `Scheduled::take_earliest_unchecked` make of a list, and that the rows of it are what the definitions on rows say.
use mathlib.Core.Path.{◌≡◌, refl, sym, ◌∙◌, ap, subst}
use Prim.Native.Nat.{ℕ, zero, suc, ◌<◌, ◌≤◌, ◌+◌, ◌-◌}
use native.Mathlib.Omega.{arith}
use native.Mathlib.Numerals.{add-one, unary_clauses}
use mathlib.Core.Bool.{Bool, true, false, cond, not, ◌&&◌}
use mathlib.Core.List.{List, [], ◌∷◌, ◌++◌, append_assoc, map}
use lib.ListN.{length, set, get_or, take, drop, length-set, drop_of_length-le}
use lib.Seq.{take-suc, drop-cons, set_split, take-set-le, drop-set-lt, get_or-set_same, get_or-set_other, length-take-le, take_at}
use Rattle.schedule.specs.Record.{record4, time_of, order_of, vacant, after, inserted, ordered_from, ordered, lowest_free}
use Rattle.schedule.specs.State.{schedule, place_count}
use Rattle.schedule.specs.Schedule.{first_record, put_copy, without_first}
use Rattle.schedule.specs.Structs.{row_of, rows, scheduled_of}
use Rattle.schedule.specs.declared.ChannelScheduler.{ChannelScheduler}
use Rattle.schedule.specs.declared.Scheduled.{Scheduled}
use Rattle.schedule.proofs.Ordering.{Order, by_key, records, least, first_of, put_first, none, insert_none, insert_here, insert_later, inserted_length, insert_ordered}

abbrev pub empty : Scheduled
empty = record { time = 0; order = 0; length = 0; place = 0 }

abbrev pub leaves : Scheduled → Scheduled → Bool
leaves a b = after (row_of a) (row_of b)

order : Order leaves
order = by_key (λ (r : Scheduled). r.time) (λ (r : Scheduled). r.order)

-- ---- rows and structs
-- packed and unpacked again, a record is the same
pub unpacked_packed : (r : Scheduled) → scheduled_of (row_of r) ≡ r
unpacked_packed r = refl

-- so the rows of a list tell the list
pub rows_tell : (rs : List Scheduled) → map scheduled_of (rows rs) ≡ rs
rows_tell [] = refl
rows_tell (r ∷ rs) = ap (λ (xs : List Scheduled). r ∷ xs) (rows_tell rs)

-- a struct put among structs is its row put among their rows
pub rows_inserted : (r : Scheduled) (xs : List Scheduled) → rows (inserted leaves r xs) ≡ inserted after (row_of r) (rows xs)
rows_inserted r [] = ap rows (insert_none leaves r) ∙ sym (insert_none after (row_of r))
rows_inserted r (x ∷ xs) = go (leaves x r) refl (rows_inserted r xs)
  where
    go : (t : Bool) → leaves x r ≡ t → rows (inserted leaves r xs) ≡ inserted after (row_of r) (rows xs) → rows (inserted leaves r (x ∷ xs)) ≡ inserted after (row_of r) (row_of x ∷ rows xs)
    go true e ih = ap rows (insert_here leaves r x xs e) ∙ sym (insert_here after (row_of r) (row_of x) (rows xs) e)
    go false e ih = ap rows (insert_later leaves r x xs e) ∙ ap (λ (cs : List (List ℕ)). row_of x ∷ cs) ih ∙ sym (insert_later after (row_of r) (row_of x) (rows xs) e)

rows_ordered : (p : Scheduled) (xs : List Scheduled) → ordered_from after (row_of p) (rows xs) ≡ ordered_from leaves p xs
unfolding ordered_from
rows_ordered p [] = refl
rows_ordered p (x ∷ xs) = ap (λ (t : Bool). not (leaves p x) && t) (rows_ordered x xs)

rows_take : (n : ℕ) (xs : List Scheduled) → rows (take n xs) ≡ take n (rows xs)
rows_take zero xs = refl
rows_take (suc n) [] = refl
rows_take (suc n) (x ∷ xs) = ap (λ (l : List (List ℕ)). row_of x ∷ l) (rows_take n xs)

rows_drop : (n : ℕ) (xs : List Scheduled) → rows (drop n xs) ≡ drop n (rows xs)
rows_drop zero xs = refl
rows_drop (suc n) [] = refl
rows_drop (suc n) (x ∷ xs) = rows_drop n xs

rows_append : (xs ys : List Scheduled) → rows (xs ++ ys) ≡ rows xs ++ rows ys
rows_append [] ys = refl
rows_append (x ∷ xs) ys = ap (λ (l : List (List ℕ)). row_of x ∷ l) (rows_append xs ys)

rows_first : (ys : List Scheduled) → 0 < length ys → row_of (get_or ys 0 empty) ≡ first_record (rows ys)
rows_first [] l = absurd (omega arith)
rows_first (y ∷ ys) l = refl

-- what an insertion and a taking out leave
abbrev pub Inserted : List Scheduled → ℕ → Scheduled → List Scheduled → Type 0
Inserted xs n r zs = rows zs ≡ inserted after (row_of r) (take n (rows xs)) ++ drop (n + 1) (rows xs)

abbrev pub Taken : List Scheduled → ℕ → Scheduled → List Scheduled → Type 0
Taken xs n c zs = (row_of c ≡ first_record (rows xs)) × (rows zs ≡ drop 1 (take n (rows xs)) ++ vacant ∷ drop n (rows xs))

-- ---- what the loops do, by their counters
-- the records below i that leave after r are moved up by one, from the last, and r is put in the place that is left
unfoldable pub sifted : Scheduled → ℕ → List Scheduled → List Scheduled
sifted r zero zs = set zs zero r
sifted r (suc i) zs = cond (leaves (get_or zs i empty) r) (sifted r i (set zs (suc i) (get_or zs i empty))) (set zs (suc i) r)

-- c is put at the last of the first i records, and each of them one place down
unfoldable pub pushed : Scheduled → ℕ → List Scheduled → List Scheduled
pushed c zero zs = zs
pushed c (suc j) zs = pushed (get_or zs j empty) j (set zs j c)

-- the record that falls out
unfoldable pub earliest : Scheduled → ℕ → List Scheduled → Scheduled
earliest c zero zs = c
earliest c (suc j) zs = earliest (get_or zs j empty) j (set zs j c)

-- ---- records in order
-- a part of it from the start is in order
front : (p₀ : Scheduled) (xs ys : List Scheduled) → ordered_from leaves p₀ (xs ++ ys) ≡ true → ordered_from leaves p₀ xs ≡ true
front p₀ [] ys h = none leaves p₀
front p₀ (x ∷ xs) ys h = put_first leaves p₀ x xs (first_of leaves p₀ x (xs ++ ys) h).0 (front x xs ys (first_of leaves p₀ x (xs ++ ys) h).1)

-- where the last is not past r, no record is
below_last : (p₀ p r : Scheduled) (xs : List Scheduled) → ordered_from leaves p₀ (xs ++ p ∷ []) ≡ true → leaves p r ≡ false → leaves p₀ r ≡ false
below_last p₀ p r [] h e = order.chain p₀ p r (first_of leaves p₀ p [] h).0 e
below_last p₀ p r (x ∷ xs) h e = order.chain p₀ x r (first_of leaves p₀ x (xs ++ p ∷ []) h).0 (below_last x p r xs (first_of leaves p₀ x (xs ++ p ∷ []) h).1 e)

-- where the last is past r, it stays the last
insert_snoc : (r p : Scheduled) (xs : List Scheduled) → leaves p r ≡ true → inserted leaves r (xs ++ p ∷ []) ≡ inserted leaves r xs ++ p ∷ []
insert_snoc r p [] e = insert_here leaves r p [] e ∙ ap (λ (l : List Scheduled). l ++ p ∷ []) (sym (insert_none leaves r))
insert_snoc r p (x ∷ xs) e = go (insert_snoc r p xs e) (leaves x r) refl
  where
    go : inserted leaves r (xs ++ p ∷ []) ≡ inserted leaves r xs ++ p ∷ [] → (t : Bool) → leaves x r ≡ t → inserted leaves r (x ∷ (xs ++ p ∷ [])) ≡ inserted leaves r (x ∷ xs) ++ p ∷ []
    go ih true a = insert_here leaves r x (xs ++ p ∷ []) a ∙ ap (λ (l : List Scheduled). l ++ p ∷ []) (sym (insert_here leaves r x xs a))
    go ih false a = insert_later leaves r x (xs ++ p ∷ []) a ∙ ap (λ (l : List Scheduled). x ∷ l) ih ∙ ap (λ (l : List Scheduled). l ++ p ∷ []) (sym (insert_later leaves r x xs a))

-- where the last is not, r is the last
insert_last : (p₀ r p : Scheduled) (xs : List Scheduled) → ordered_from leaves p₀ (xs ++ p ∷ []) ≡ true → leaves p r ≡ false → inserted leaves r (xs ++ p ∷ []) ≡ (xs ++ p ∷ []) ++ r ∷ []
insert_last p₀ r p [] h e = insert_later leaves r p [] e ∙ ap (λ (l : List Scheduled). p ∷ l) (insert_none leaves r)
insert_last p₀ r p (x ∷ xs) h e =
    insert_later leaves r x (xs ++ p ∷ []) (below_last x p r xs (first_of leaves p₀ x (xs ++ p ∷ []) h).1 e)
    ∙ ap (λ (l : List Scheduled). x ∷ l) (insert_last x r p xs (first_of leaves p₀ x (xs ++ p ∷ []) h).1 e)

-- ---- `sifted`
sifted_none : (r : Scheduled) (zs : List Scheduled) → sifted r zero zs ≡ set zs zero r
unfolding sifted
sifted_none r zs = refl

sifted_on : (r : Scheduled) (j : ℕ) (zs : List Scheduled) (t : Bool) → leaves (get_or zs j empty) r ≡ t → sifted r (suc j) zs ≡ cond t (sifted r j (set zs (suc j) (get_or zs j empty))) (set zs (suc j) r)
unfolding sifted
sifted_on r j zs t e = ap (λ (u : Bool). cond u (sifted r j (set zs (suc j) (get_or zs j empty))) (set zs (suc j) r)) e

sifted_inserts : (r : Scheduled) (n : ℕ) (zs : List Scheduled) → n < length zs → ordered_from leaves empty (take n zs) ≡ true → sifted r n zs ≡ inserted leaves r (take n zs) ++ drop (suc n) zs
sifted_inserts r zero zs l h = sifted_none r zs ∙ set_split zs zero r l ∙ ap (λ (xs : List Scheduled). xs ++ drop 1 zs) (sym (insert_none leaves r))
sifted_inserts r (suc j) zs l h = go (λ us l h. sifted_inserts r j us l h) (leaves (get_or zs j empty) r) refl
  where
    p : Scheduled
    p = get_or zs j empty

    j_in : j < length zs
    j_in = omega arith

    in_two : take (suc j) zs ≡ take j zs ++ p ∷ []
    in_two = take-suc zs j empty j_in

    sorted : ordered_from leaves empty (take j zs ++ p ∷ []) ≡ true
    sorted = subst (λ (xs : List Scheduled). ordered_from leaves empty xs ≡ true) in_two h

    us : List Scheduled
    us = set zs (suc j) p

    go : ((us : List Scheduled) → j < length us → ordered_from leaves empty (take j us) ≡ true → sifted r j us ≡ inserted leaves r (take j us) ++ drop (suc j) us) → (t : Bool) → leaves p r ≡ t → sifted r (suc j) zs ≡ inserted leaves r (take (suc j) zs) ++ drop (suc (suc j)) zs
    go ih true a =
        sifted_on r j zs true a
        ∙ ih us (subst (λ (m : ℕ). j < m) (sym (length-set zs (suc j) p)) j_in) (subst (λ (xs : List Scheduled). ordered_from leaves empty xs ≡ true) (sym (take-set-le j zs (suc j) p (omega arith))) (front empty (take j zs) (p ∷ []) sorted))
        ∙ ap (λ (xs : List Scheduled). inserted leaves r xs ++ drop (suc j) us) (take-set-le j zs (suc j) p (omega arith))
        ∙ ap (λ (xs : List Scheduled). inserted leaves r (take j zs) ++ xs) (drop-cons us (suc j) empty (subst (λ (m : ℕ). suc j < m) (sym (length-set zs (suc j) p)) l))
        ∙ ap (λ (x : Scheduled). inserted leaves r (take j zs) ++ x ∷ drop (suc (suc j)) us) (get_or-set_same zs (suc j) p empty l)
        ∙ ap (λ (xs : List Scheduled). inserted leaves r (take j zs) ++ p ∷ xs) (drop-set-lt (suc (suc j)) zs (suc j) p (omega arith))
        ∙ sym (append_assoc (inserted leaves r (take j zs)) (p ∷ []) (drop (suc (suc j)) zs))
        ∙ ap (λ (xs : List Scheduled). xs ++ drop (suc (suc j)) zs) (sym (insert_snoc r p (take j zs) a))
        ∙ ap (λ (xs : List Scheduled). inserted leaves r xs ++ drop (suc (suc j)) zs) (sym in_two)
    go ih false a =
        sifted_on r j zs false a ∙ set_split zs (suc j) r l
        ∙ sym (append_assoc (take (suc j) zs) (r ∷ []) (drop (suc (suc j)) zs))
        ∙ ap (λ (xs : List Scheduled). (xs ++ r ∷ []) ++ drop (suc (suc j)) zs) in_two
        ∙ ap (λ (xs : List Scheduled). xs ++ drop (suc (suc j)) zs) (sym (insert_last empty r p (take j zs) sorted a))
        ∙ ap (λ (xs : List Scheduled). inserted leaves r xs ++ drop (suc (suc j)) zs) (sym in_two)

-- ---- `pushed` and `earliest`
pushed_on : (c : Scheduled) (j : ℕ) (zs : List Scheduled) → pushed c (suc j) zs ≡ pushed (get_or zs j empty) j (set zs j c)
unfolding pushed
pushed_on c j zs = refl

pushed_none : (c : Scheduled) (zs : List Scheduled) → pushed c zero zs ≡ zs
unfolding pushed
pushed_none c zs = refl

pushed_is : (c : Scheduled) (j : ℕ) (zs : List Scheduled) → j < length zs → pushed c (suc j) zs ≡ drop 1 (take (suc j) zs) ++ c ∷ drop (suc j) zs
pushed_is c zero (z ∷ zs) l = pushed_on c zero (z ∷ zs) ∙ pushed_none z (c ∷ zs)
pushed_is c zero [] l = absurd (omega arith)
pushed_is c (suc j) zs l =
    pushed_on c (suc j) zs
    ∙ pushed_is p j us (subst (λ (m : ℕ). j < m) (sym (length-set zs (suc j) c)) (omega arith))
    ∙ ap (λ (xs : List Scheduled). drop 1 xs ++ p ∷ drop (suc j) us) (take-set-le (suc j) zs (suc j) c (omega arith))
    ∙ ap (λ (xs : List Scheduled). drop 1 (take (suc j) zs) ++ p ∷ xs) (drop-cons us (suc j) empty (subst (λ (m : ℕ). suc j < m) (sym (length-set zs (suc j) c)) l))
    ∙ ap (λ (x : Scheduled). drop 1 (take (suc j) zs) ++ p ∷ x ∷ drop (suc (suc j)) us) (get_or-set_same zs (suc j) c empty l)
    ∙ ap (λ (xs : List Scheduled). drop 1 (take (suc j) zs) ++ p ∷ c ∷ xs) (drop-set-lt (suc (suc j)) zs (suc j) c (omega arith))
    ∙ sym (append_assoc (drop 1 (take (suc j) zs)) (p ∷ []) (c ∷ drop (suc (suc j)) zs))
    ∙ ap (λ (xs : List Scheduled). xs ++ c ∷ drop (suc (suc j)) zs) (one_more zs l)
  where
    p : Scheduled
    p = get_or zs (suc j) empty

    us : List Scheduled
    us = set zs (suc j) c

    one_more : (zs : List Scheduled) → suc j < length zs → drop 1 (take (suc j) zs) ++ get_or zs (suc j) empty ∷ [] ≡ drop 1 (take (suc (suc j)) zs)
    one_more [] l = absurd (omega arith)
    one_more (z ∷ zs) l = sym (take-suc zs j empty (omega arith))

earliest_on : (c : Scheduled) (j : ℕ) (zs : List Scheduled) → earliest c (suc j) zs ≡ earliest (get_or zs j empty) j (set zs j c)
unfolding earliest
earliest_on c j zs = refl

earliest_none : (c : Scheduled) (zs : List Scheduled) → earliest c zero zs ≡ c
unfolding earliest
earliest_none c zs = refl

earliest_is : (c : Scheduled) (j : ℕ) (zs : List Scheduled) → earliest c (suc j) zs ≡ get_or zs 0 empty
earliest_is c zero zs = earliest_on c zero zs ∙ earliest_none (get_or zs 0 empty) (set zs 0 c)
earliest_is c (suc j) zs = earliest_on c (suc j) zs ∙ earliest_is (get_or zs (suc j) empty) j (set zs (suc j) c) ∙ get_or-set_other zs (suc j) 0 c empty apart
  where
    apart : ◌≡◌ {A = ℕ} 0 (suc j) → ⊥
    apart e = omega arith

-- ---- the contracts
pub in_order_is : (n : ℕ) (ys : List Scheduled) → ordered_from leaves empty (take n ys) ≡ ordered (take n (rows ys))
in_order_is n ys = sym (rows_ordered empty (take n ys)) ∙ ap (ordered_from after vacant) (rows_take n ys)

pub inserts : (r : Scheduled) (n : ℕ) (ys zs : List Scheduled) → n < length ys → ordered (take n (rows ys)) ≡ true → zs ≡ sifted r n ys → rows zs ≡ inserted after (row_of r) (take n (rows ys)) ++ drop (n + 1) (rows ys)
inserts r n ys zs l h e =
    ap rows (e ∙ sifted_inserts r n ys l sorted)
    ∙ rows_append (inserted leaves r (take n ys)) (drop (suc n) ys)
    ∙ ap (λ (xs : List (List ℕ)). xs ++ rows (drop (suc n) ys)) (rows_inserted r (take n ys) ∙ ap (inserted after (row_of r)) (rows_take n ys))
    ∙ ap (λ (xs : List (List ℕ)). inserted after (row_of r) (take n (rows ys)) ++ xs) (rows_drop (suc n) ys ∙ ap (λ (m : ℕ). drop m (rows ys)) (sym (add-one n)))
  where
    sorted : ordered_from leaves empty (take n ys) ≡ true
    sorted = in_order_is n ys ∙ h

pub taken : (n : ℕ) (ys : List Scheduled) (c : Scheduled) (zs : List Scheduled) → 0 < n → n ≤ length ys → c ≡ earliest empty n ys → zs ≡ pushed empty n ys → (row_of c ≡ first_record (rows ys)) × (rows zs ≡ drop 1 (take n (rows ys)) ++ vacant ∷ drop n (rows ys))
taken zero ys c zs p l e₁ e₂ = absurd (omega arith)
taken (suc j) ys c zs p l e₁ e₂ = (ap row_of (e₁ ∙ earliest_is empty j ys) ∙ rows_first ys (omega arith), ap rows (e₂ ∙ pushed_is empty j ys (omega arith)) ∙ rows_append (drop 1 (take (suc j) ys)) (empty ∷ drop (suc j) ys) ∙ ap (λ (xs : List (List ℕ)). xs ++ vacant ∷ rows (drop (suc j) ys)) (rows_drop 1 (take (suc j) ys) ∙ ap (drop 1) (rows_take (suc j) ys)) ∙ ap (λ (xs : List (List ℕ)). drop 1 (take (suc j) (rows ys)) ++ vacant ∷ xs) (rows_drop (suc j) ys))

-- ---- one turn of each loop
-- a look at the records in order: what is left to look at is in order after p where the whole is in order
look_none : (p : Scheduled) → true ≡ ordered_from leaves p []
unfolding ordered_from
look_none p = refl

look_wrong : (p x : Scheduled) (xs : List Scheduled) → leaves p x ≡ true → false ≡ ordered_from leaves p (x ∷ xs)
unfolding ordered_from
look_wrong p x xs e = sym (ap (λ (t : Bool). not t && ordered_from leaves x xs) e)

look_right : (p x : Scheduled) (xs : List Scheduled) → leaves p x ≡ false → ordered_from leaves x xs ≡ ordered_from leaves p (x ∷ xs)
unfolding ordered_from
look_right p x xs e = sym (ap (λ (t : Bool). not t && ordered_from leaves x xs) e)

module _ (n : ℕ) (ys : List Scheduled) (p : Scheduled) (i : ℕ) (h : ordered_from leaves p (drop i (take n ys)) ≡ ordered_from leaves empty (take n ys)) where
  look_at : i < length (take n ys) → drop i (take n ys) ≡ get_or (take n ys) i empty ∷ drop (suc i) (take n ys)
  look_at l = drop-cons (take n ys) i empty l

  pub look_ends : length (take n ys) ≤ i → true ≡ ordered (take n (rows ys))
  look_ends l = look_none p ∙ ap (ordered_from leaves p) (sym (drop_of_length-le (take n ys) l)) ∙ h ∙ in_order_is n ys

  pub look_fails : i < length (take n ys) → leaves p (get_or (take n ys) i empty) ≡ true → false ≡ ordered (take n (rows ys))
  look_fails l e = look_wrong p (get_or (take n ys) i empty) (drop (suc i) (take n ys)) e ∙ ap (ordered_from leaves p) (sym (look_at l)) ∙ h ∙ in_order_is n ys

  pub look_goes_on : i < length (take n ys) → leaves p (get_or (take n ys) i empty) ≡ false → ordered_from leaves (get_or (take n ys) i empty) (drop (i + 1) (take n ys)) ≡ ordered_from leaves empty (take n ys)
  look_goes_on l e = ap (λ (m : ℕ). ordered_from leaves (get_or (take n ys) i empty) (drop m (take n ys))) (add-one i) ∙ look_right p (get_or (take n ys) i empty) (drop (suc i) (take n ys)) e ∙ ap (ordered_from leaves p) (sym (look_at l)) ∙ h

-- an insertion
pub sifts_on : (r : Scheduled) (i : ℕ) (zs : List Scheduled) → 0 < i → leaves (get_or zs (i - 1) empty) r ≡ true → sifted r (i - 1) (set zs i (get_or zs (i - 1) empty)) ≡ sifted r i zs
sifts_on r zero zs l e = absurd (omega arith)
sifts_on r (suc j) zs l e = simp unary_clauses (sym (sifted_on r j zs true (simp unary_clauses at e)))

pub sifts_here : (r : Scheduled) (i : ℕ) (zs : List Scheduled) → 0 < i → leaves (get_or zs (i - 1) empty) r ≡ false → set zs i r ≡ sifted r i zs
sifts_here r zero zs l e = absurd (omega arith)
sifts_here r (suc j) zs l e = sym (sifted_on r j zs false (simp unary_clauses at e))

pub sifts_first : (r : Scheduled) (i : ℕ) (zs : List Scheduled) → i ≤ 0 → set zs i r ≡ sifted r i zs
sifts_first r zero zs l = sym (sifted_none r zs)
sifts_first r (suc j) zs l = absurd (omega arith)

-- a taking out
pub pushes_on : (c : Scheduled) (i : ℕ) (zs : List Scheduled) → 0 < i → pushed (get_or zs (i - 1) empty) (i - 1) (set zs (i - 1) c) ≡ pushed c i zs
pushes_on c zero zs l = absurd (omega arith)
pushes_on c (suc j) zs l = simp unary_clauses (sym (pushed_on c j zs))

pub falls_on : (c : Scheduled) (i : ℕ) (zs : List Scheduled) → 0 < i → earliest (get_or zs (i - 1) empty) (i - 1) (set zs (i - 1) c) ≡ earliest c i zs
falls_on c zero zs l = absurd (omega arith)
falls_on c (suc j) zs l = simp unary_clauses (sym (earliest_on c j zs))

pub pushes_none : (c : Scheduled) (i : ℕ) (zs : List Scheduled) → i ≤ 0 → zs ≡ pushed c i zs
pushes_none c zero zs l = sym (pushed_none c zs)
pushes_none c (suc j) zs l = absurd (omega arith)

pub falls_out : (c : Scheduled) (i : ℕ) (zs : List Scheduled) → i ≤ 0 → c ≡ earliest c i zs
falls_out c zero zs l = sym (earliest_none c zs)
falls_out c (suc j) zs l = absurd (omega arith)

-- what an insertion leaves is in order: so the next call may follow
pub inserts_in_order : (r : List ℕ) (n : ℕ) (rs qs : List (List ℕ)) → n ≤ length rs → ordered (take n rs) ≡ true → qs ≡ inserted after r (take n rs) ++ drop (n + 1) rs → ordered (take (n + 1) qs) ≡ true
inserts_in_order r n rs qs l h e = subst (λ (xs : List (List ℕ)). ordered xs ≡ true) (sym front_is) (insert_ordered after records vacant r (take n rs) (least (time_of r) (order_of r)) h)
  where
    front_is : take (n + 1) qs ≡ inserted after r (take n rs)
    front_is = ap (take (n + 1)) e ∙ take_at (inserted after r (take n rs)) (drop (n + 1) rs) (n + 1) (inserted_length after r (take n rs) ∙ ap suc (length-take-le n rs l) ∙ sym (add-one n))

-- ---- the schedule's own calls
-- what `Scheduled::insert_unchecked` leaves are the records of a schedule with one copy more, where r is the record that the schedule makes for it
pub insert_puts : (ys zs : List Scheduled) (ps : List ℕ) (s : ChannelScheduler) (time : ℕ) (packet : List ℕ) (r : Scheduled)
    → row_of r ≡ record4 time s.next_order (length packet) (lowest_free (place_count (schedule (rows ys) ps s)) (take s.count (rows ys)))
    → rows zs ≡ inserted after (row_of r) (take s.count (rows ys)) ++ drop (s.count + 1) (rows ys)
    → rows zs ≡ (put_copy (schedule (rows ys) ps s) time packet).records
unfolding put_copy
insert_puts ys zs ps s time packet r p e = e ∙ ap (λ (x : List ℕ). inserted after x (take s.count (rows ys)) ++ drop (s.count + 1) (rows ys)) p

-- what `Scheduled::take_earliest_unchecked` leaves are the records of a schedule whose first packet is taken out
pub take_takes : (ys zs : List Scheduled) (ps : List ℕ) (s : ChannelScheduler) → rows zs ≡ drop 1 (take s.count (rows ys)) ++ vacant ∷ drop s.count (rows ys) → rows zs ≡ (without_first (schedule (rows ys) ps s)).records
unfolding without_first
take_takes ys zs ps s e = e
