-- Laws of the order of the checks, for crates above to cite.
use Rattle.std.specs.Prelude.{Err, Ok, Result}
use Prim.Native.Nat.{ℕ}
use mathlib.Core.Path.{◌≡◌, refl, sym, ap, ◌∙◌}
use mathlib.Core.Bool.{Bool, true, false, cond, ◌||◌}
use mathlib.Core.List.{List, [], ◌∷◌}
use native.Mathlib.Omega.{arith}
use borrow.Author.Tests.{eq-eqb, eqb-true}
use lib.Dec.{eqb}
use Rattle.std.specs.Prelude.{IsErrAnd}
use Rattle.std.proofs.lemmas.Result.{err_from_is_err_and}
use Rattle.refusal.specs.Refusal.{entry_of}
use Rattle.refusal.specs.Clauses.{any_of}
use Rattle.refusal.specs.Order.{Check, check, order, or_else, numbered, first_of, verdict, decide, held_checks}
use Rattle.refusal.specs.declared.Refusal.{Refusal}
use Rattle.refusal.specs.declared.Refusal.TheVariants.{Short, Kind, Cut, Setup, Full, Long, Numbers, Counts, State, Time, Roll}
use Rattle.refusal.specs.Order.{passed}

-- no line is true
abbrev pub NoneTrue : List Check → Type 0
NoneTrue [] = Prim.Unit {0}
NoneTrue (c ∷ cs) = (c.fires ≡ false) × NoneTrue cs

-- a call is accepted exactly when no line is true
first_accepted : (v w : Result Unit Refusal) → or_else v w ≡ passed → v ≡ passed
unfolding or_else
first_accepted (Ok tt) w e = refl
first_accepted (Err r) w e = e

second_accepted : (v w : Result Unit Refusal) → or_else v w ≡ passed → w ≡ passed
unfolding or_else
second_accepted (Ok tt) w e = e
second_accepted (Err r) w e = let z : ◌≡◌ {A = ℕ} 0 1 = cc in absurd (omega arith)

abbrev pub has : ℕ → List ℕ → Bool
has n [] = false
has n (m ∷ ms) = cond (eqb n m) true (has n ms)

in_order_lem : (r : Refusal) → has (entry_of r).number order ≡ true
unfolding order
in_order_lem (Short n) = refl
in_order_lem (Kind b) = refl
in_order_lem (Cut n m) = refl
in_order_lem Setup = refl
in_order_lem Full = refl
in_order_lem Long = refl
in_order_lem Numbers = refl
in_order_lem Counts = refl
in_order_lem State = refl
in_order_lem Time = refl
in_order_lem Roll = refl

-- every refusal's number stands in the order
has_accepted : (n : ℕ) (ns : List ℕ) (cs : List Check) → first_of ns cs ≡ passed → has n ns ≡ true → numbered n cs ≡ passed
unfolding first_of
has_accepted n [] cs e h = let z : ◌≡◌ {A = ℕ} 0 1 = cc in absurd (omega arith)
has_accepted n (m ∷ ms) cs e h = by_number_lem (eqb n m) refl (has_accepted n ms cs (second_accepted (numbered m cs) (first_of ms cs) e)) where
  by_number_lem : (b : Bool) → eqb n m ≡ b → (has n ms ≡ true → numbered n cs ≡ passed) → numbered n cs ≡ passed
  by_number_lem true k rest = rw (eqb-true n m k) (first_accepted (numbered m cs) (first_of ms cs) e)
  by_number_lem false k rest = rest (rw k at h)

at_number : (cs : List Check) → verdict cs ≡ passed → (r : Refusal) → numbered (entry_of r).number cs ≡ passed
unfolding verdict
at_number cs e r = has_accepted (entry_of r).number order cs e (in_order_lem r)

not_fired : (b : Bool) (r : Refusal) → cond b (Err r) passed ≡ passed → b ≡ false
not_fired false r e = refl
not_fired true r e = let z : ◌≡◌ {A = ℕ} 0 1 = cc in absurd (omega arith)

each_false : (cs : List Check) → ((r : Refusal) → numbered (entry_of r).number cs ≡ passed) → NoneTrue cs
unfolding numbered
each_false [] h = tt
each_false (c ∷ cs) h =
    let n = (entry_of c.refusal).number in
    let e : cond (eqb n n) (cond c.fires (Err c.refusal) passed) passed ≡ passed = first_accepted _ (numbered n cs) (h c.refusal) in
    (not_fired c.fires c.refusal (rw (eq-eqb n n refl) at e), each_false cs (λ r. second_accepted _ (numbered (entry_of r).number cs) (h r)))

pub accepted_none_true : (cs : List Check) → verdict cs ≡ passed → NoneTrue cs
accepted_none_true cs e = each_false cs (at_number cs e)

either : (b : Bool) → cond b passed passed ≡ passed
either true = refl
either false = refl

numbered_none_true : (n : ℕ) (cs : List Check) → NoneTrue cs → numbered n cs ≡ passed
unfolding numbered or_else
numbered_none_true n [] h = refl
numbered_none_true n (c ∷ cs) h = rw (h.0, either (eqb (entry_of c.refusal).number n)) (numbered_none_true n cs h.1)

first_none_true : (ns : List ℕ) (cs : List Check) → NoneTrue cs → first_of ns cs ≡ passed
unfolding first_of or_else
first_none_true [] cs h = refl
first_none_true (n ∷ ns) cs h = rw (numbered_none_true n cs h) (first_none_true ns cs h)

pub none_true_accepted : (cs : List Check) → NoneTrue cs → verdict cs ≡ passed
unfolding verdict
none_true_accepted cs h = first_none_true order cs h

-- a check that is false changes nothing; one that is true beside checks that are false is answered
skip_numbered : (n : ℕ) (r : Refusal) (cs : List Check) → numbered n (check false r ∷ cs) ≡ numbered n cs
unfolding numbered or_else
skip_numbered n r cs = rw (either (eqb (entry_of r).number n))

skip_first : (ns : List ℕ) (r : Refusal) (cs : List Check) → first_of ns (check false r ∷ cs) ≡ first_of ns cs
unfolding first_of
skip_first [] r cs = refl
skip_first (n ∷ ns) r cs = rw (skip_numbered n r cs, skip_first ns r cs)

pub false_check : (r : Refusal) (cs : List Check) → verdict (check false r ∷ cs) ≡ verdict cs
unfolding verdict
false_check r cs = skip_first order r cs

true_first : (ns : List ℕ) (r : Refusal) (cs : List Check) → NoneTrue cs → first_of ns (check true r ∷ cs) ≡ cond (has (entry_of r).number ns) (Err r) passed
unfolding first_of numbered or_else
true_first [] r cs h = refl
true_first (n ∷ ns) r cs h = rw (numbered_none_true n cs h) (by_number_lem (eqb (entry_of r).number n) (true_first ns r cs h)) where
  by_number_lem : (b : Bool) → first_of ns (check true r ∷ cs) ≡ cond (has (entry_of r).number ns) (Err r) passed
      → or_else (or_else (cond b (Err r) passed) passed) (first_of ns (check true r ∷ cs)) ≡ cond (cond b true (has (entry_of r).number ns)) (Err r) passed
  by_number_lem true e = refl
  by_number_lem false e = e

pub true_check : (r : Refusal) (cs : List Check) → NoneTrue cs → verdict (check true r ∷ cs) ≡ Err r
unfolding verdict
true_check r cs h = true_first order r cs h ∙ rw (in_order_lem r)

-- what an answer says of the verdict
pub decide_accepted : {A : Type 0} (v : Result Unit Refusal) (f : Refusal → A) (a : A) {b : A} → decide v f a ≡ b → ((r : Refusal) → f r ≡ b → ⊥) → v ≡ passed
unfolding decide
decide_accepted (Ok tt) f a e h = refl
decide_accepted (Err r) f a e h = absurd (h r e)

pub decide_refused : {A : Type 0} (v : Result Unit Refusal) (f : Refusal → A) (a : A) (s : Refusal) → decide v f a ≡ f s → (a ≡ f s → ⊥) → ((r : Refusal) → f r ≡ f s → r ≡ s) → v ≡ Err s
unfolding decide
decide_refused (Ok tt) f a s e h k = absurd (h e)
decide_refused (Err r) f a s e h k = ap Err (k r e)

pub on_accepted : {A : Type 0} {v : Result Unit Refusal} (f : Refusal → A) (a : A) → v ≡ passed → decide v f a ≡ a
unfolding decide
on_accepted f a e = rw e

pub on_refused : {A : Type 0} {v : Result Unit Refusal} {r : Refusal} (f : Refusal → A) (a : A) → v ≡ Err r → decide v f a ≡ f r
unfolding decide
on_refused f a e = rw e

-- what holds of each refused answer, and of the other one if the call is accepted (no line is true), holds of the answer
pub either_answer : {A : Type 0} (P : A → Type 0) (v : Result Unit Refusal) (f : Refusal → A) (a : A) → ((r : Refusal) → P (f r)) → (v ≡ passed → P a) → P (decide v f a)
unfolding decide
either_answer P (Ok tt) f a h k = k refl
either_answer P (Err r) f a h k = h r

pub decided : {A : Type 0} (P : A → Type 0) (cs : List Check) (f : Refusal → A) (a : A) → ((r : Refusal) → P (f r)) → (NoneTrue cs → P a) → P (decide (verdict cs) f a)
decided P cs f a h k = either_answer P (verdict cs) f a h (λ e. k (accepted_none_true cs e))

-- a line is false exactly when each of its clauses is
abbrev pub NoneOf : List Bool → Type 0
NoneOf [] = Prim.Unit {0}
NoneOf (b ∷ bs) = (b ≡ false) × NoneOf bs

pub or_false : (a b : Bool) → (a || b) ≡ false → (a ≡ false) × (b ≡ false)
or_false false b e = (refl, e)
or_false true b e = let z : ◌≡◌ {A = ℕ} 0 1 = cc in absurd (omega arith)

pub none_of : (bs : List Bool) → any_of bs ≡ false → NoneOf bs
unfolding any_of
none_of [] e = tt
none_of (b ∷ bs) e = let f = or_false b (any_of bs) e in (f.0, none_of bs f.1)

pub any_of_none : (bs : List Bool) → NoneOf bs → any_of bs ≡ false
unfolding any_of
any_of_none [] h = refl
any_of_none (b ∷ bs) h = rw h.0 (any_of_none bs h.1)

-- what holds of each check's refusal holds of the one that is answered
abbrev pub EachRefusal : (Refusal → Type 0) → List Check → Type 0
EachRefusal P [] = Prim.Unit {0}
EachRefusal P (c ∷ cs) = P c.refusal × EachRefusal P cs

module _ (P : Refusal → Type 0) (r : Refusal) where
  of_either : (v w : Result Unit Refusal) → or_else v w ≡ Err r → (v ≡ Err r → P r) → (w ≡ Err r → P r) → P r
  unfolding or_else
  of_either (Ok tt) w e h k = k e
  of_either (Err s) w e h k = h e

  of_check : (n : ℕ) (c : Check) → P c.refusal → cond (eqb (entry_of c.refusal).number n) (cond c.fires (Err c.refusal) passed) passed ≡ Err r → P r
  of_check n c h e = by_tests (eqb (entry_of c.refusal).number n) c.fires e where
    by_tests : (a b : Bool) → cond a (cond b (Err c.refusal) passed) passed ≡ Err r → P r
    by_tests true true e = let same : c.refusal ≡ r = cc in rw (← same) h
    by_tests true false e = let z : ◌≡◌ {A = ℕ} 0 1 = cc in absurd (omega arith)
    by_tests false b e = let z : ◌≡◌ {A = ℕ} 0 1 = cc in absurd (omega arith)

  of_numbered : (n : ℕ) (cs : List Check) → EachRefusal P cs → numbered n cs ≡ Err r → P r
  unfolding numbered
  of_numbered n [] h e = let z : ◌≡◌ {A = ℕ} 0 1 = cc in absurd (omega arith)
  of_numbered n (c ∷ cs) h e = of_either _ (numbered n cs) e (of_check n c h.0) (of_numbered n cs h.1)

  of_first : (ns : List ℕ) (cs : List Check) → EachRefusal P cs → first_of ns cs ≡ Err r → P r
  unfolding first_of
  of_first [] cs h e = let z : ◌≡◌ {A = ℕ} 0 1 = cc in absurd (omega arith)
  of_first (n ∷ ns) cs h e = of_either (numbered n cs) (first_of ns cs) e (of_numbered n cs h) (of_first ns cs h)

  pub refused_one_of : (cs : List Check) → EachRefusal P cs → verdict cs ≡ Err r → P r
  unfolding verdict
  refused_one_of cs h e = of_first order cs h e

-- a check whose number comes later in the order changes nothing where an earlier one is answered
abbrev pub precedes_in : List ℕ → ℕ → ℕ → Bool
precedes_in [] a b = false
precedes_in (n ∷ ns) a b = cond (eqb b n) false (cond (eqb a n) true (precedes_in ns a b))

numbered_number : (n : ℕ) (cs : List Check) (s : Refusal) → numbered n cs ≡ Err s → (entry_of s).number ≡ n
unfolding numbered or_else
numbered_number n [] s e = let z : ◌≡◌ {A = ℕ} 0 1 = cc in absurd (omega arith)
numbered_number n (c ∷ cs) s e = by_tests (eqb (entry_of c.refusal).number n) c.fires refl e (numbered_number n cs s) where
  by_tests : (a b : Bool) → eqb (entry_of c.refusal).number n ≡ a → or_else (cond a (cond b (Err c.refusal) passed) passed) (numbered n cs) ≡ Err s
      → (numbered n cs ≡ Err s → (entry_of s).number ≡ n) → (entry_of s).number ≡ n
  by_tests true true k f rest = let same : c.refusal ≡ s = cc in rw (← same) (eqb-true _ n k)
  by_tests true false k f rest = rest f
  by_tests false b k f rest = rest f

first_numbered : (ns : List ℕ) (cs : List Check) (s : Refusal) → first_of ns cs ≡ Err s → numbered (entry_of s).number cs ≡ Err s
unfolding first_of or_else
first_numbered [] cs s e = let z : ◌≡◌ {A = ℕ} 0 1 = cc in absurd (omega arith)
first_numbered (n ∷ ns) cs s e = by_verdict (numbered n cs) refl e (first_numbered ns cs s) where
  by_verdict : (v : Result Unit Refusal) → numbered n cs ≡ v → or_else v (first_of ns cs) ≡ Err s → (first_of ns cs ≡ Err s → numbered (entry_of s).number cs ≡ Err s)
      → numbered (entry_of s).number cs ≡ Err s
  by_verdict (Ok tt) k f rest = rest f
  by_verdict (Err r) k f rest = let own = k ∙ f in rw (numbered_number n cs s own) own

skip_first_later : (ns : List ℕ) (b : Bool) (r s : Refusal) (cs : List Check) → first_of ns cs ≡ Err s → precedes_in ns (entry_of s).number (entry_of r).number ≡ true
    → first_of ns (check b r ∷ cs) ≡ Err s
unfolding first_of numbered or_else
skip_first_later [] b r s cs e h = let z : ◌≡◌ {A = ℕ} 0 1 = cc in absurd (omega arith)
skip_first_later (n ∷ ns) b r s cs e h =
    by_number_lem (eqb (entry_of r).number n) refl h (skip_first_later ns b r s cs)
  where
    by_verdict : (v : Result Unit Refusal) → numbered n cs ≡ v → or_else v (first_of ns cs) ≡ Err s → cond (eqb (entry_of s).number n) true (precedes_in ns (entry_of s).number (entry_of r).number) ≡ true
        → (first_of ns cs ≡ Err s → precedes_in ns (entry_of s).number (entry_of r).number ≡ true → first_of ns (check b r ∷ cs) ≡ Err s)
        → or_else v (first_of ns (check b r ∷ cs)) ≡ Err s
    by_verdict (Err q) k f g rest = f
    by_verdict (Ok tt) k f g rest = by_own (eqb (entry_of s).number n) refl g where
      by_own : (a : Bool) → eqb (entry_of s).number n ≡ a → cond a true (precedes_in ns (entry_of s).number (entry_of r).number) ≡ true → first_of ns (check b r ∷ cs) ≡ Err s
      by_own false l m = rest f m
      by_own true l m =
          let never = sym (first_numbered ns cs s f) ∙ ap (λ (i : ℕ). numbered i cs) (eqb-true (entry_of s).number n l) ∙ k in
          let z : ◌≡◌ {A = ℕ} 0 1 = cc in absurd (omega arith)

    by_number_lem : (a : Bool) → eqb (entry_of r).number n ≡ a → cond a false (cond (eqb (entry_of s).number n) true (precedes_in ns (entry_of s).number (entry_of r).number)) ≡ true
        → (first_of ns cs ≡ Err s → precedes_in ns (entry_of s).number (entry_of r).number ≡ true → first_of ns (check b r ∷ cs) ≡ Err s)
        → or_else (or_else (cond a (cond b (Err r) passed) passed) (numbered n cs)) (first_of ns (check b r ∷ cs)) ≡ Err s
    by_number_lem true k g rest = let z : ◌≡◌ {A = ℕ} 0 1 = cc in absurd (omega arith)
    by_number_lem false k g rest = by_verdict (numbered n cs) refl e g rest

pub skip_later : (b : Bool) (r s : Refusal) (cs : List Check) → verdict cs ≡ Err s → precedes_in order (entry_of s).number (entry_of r).number ≡ true
    → verdict (check b r ∷ cs) ≡ Err s
unfolding verdict
skip_later b r s cs e h = skip_first_later order b r s cs e h

-- 9 and 8, by what they are
pub held_state : (counts : Bool) → verdict (held_checks true counts) ≡ Err State
unfolding verdict first_of numbered or_else order
held_state counts = refl

pub held_counts : verdict (held_checks false true) ≡ Err Counts
unfolding verdict first_of numbered or_else order
held_counts = refl

pub held_none : verdict (held_checks false false) ≡ passed
unfolding verdict first_of numbered or_else order
held_none = refl

-- an answer whose value is known besides
pub ok_is : {T E : Type 0} {r : Result T E} {x y : T} → r ≡ Ok x → x ≡ y → r ≡ Ok y
ok_is e f = e ∙ ap (λ z. Ok z) f

-- what a `?` returns, where the call before it was refused
pub err_returned : {A : Type 0} (answer : Result A Refusal) {r : Refusal} {t : Result A Refusal} → IsErrAnd answer (λ e. e ≡ r) → Err r ≡ t → answer ≡ t
err_returned answer h e = let p = err_from_is_err_and answer h in p.1 ∙ ap (λ x. Err x) p.2 ∙ e
