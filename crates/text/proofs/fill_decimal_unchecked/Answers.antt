use Prim.Native.Nat.{ℕ, zero, suc, ◌+◌, ◌-◌, ◌/◌, ◌%◌, ◌≤◌, ◌<◌}
use mathlib.Core.Path.{◌≡◌, refl, sym, ap, subst, ◌∙◌}
use native.Mathlib.Omega.{arith}
use mathlib.Core.List.{List, [], ◌∷◌, ◌++◌, append-nil, append_assoc}
use Rattle.text.specs.Decimal.{digits}
use lib.ListN.{length, drop, take, set, length-set}
use lib.Seq.{set_split, drop_at, length-take-le, drop-length}
use native.Mathlib.Nat.{mod-lt, mod-eq_of_lt}
use native.Mathlib.Numerals.{add-one}
use Rattle.text.proofs.Digits.{length_low, length_high, digits_low, digits_high, digits_some}
use Rattle.text.specs.Letters.{digit_zero}
use Rattle.text.proofs.fill_decimal_unchecked.Invariants.{Left, Unwritten}
use Rattle.text.proofs.fill_decimal_unchecked.Goals as goal

-- a store at a place, seen from there

stored : (l : List ℕ) (j v : ℕ) → j < length l → drop j (set l j v) ≡ v ∷ drop (j + 1) l
stored l j v h = ap (drop j) (set_split l j v h) ∙ drop_at (take j l) (v ∷ drop (suc j) l) j (length-take-le j l (omega arith)) ∙ rw add-one

-- the digits of rest are still to be written, before those that stand from i on

starts : (n i : ℕ) (part : List ℕ) → i ≡ length part → length part ≡ length (digits n) → Unwritten n n i part
starts n zero part p e = let s = digits_some n in absurd (omega arith)
starts n (suc i) part p e =
    record { place = omega arith; within = omega arith; joined = rw (p, drop-length part, append-nil) }

again : (n rest k v : ℕ) (part : List ℕ) → Left n rest (suc k) part → 10 ≤ rest → v ≡ digit_zero + rest % 10 → Left n (rest / 10) k (set part k v)
again n rest k v part h l e =
    let s = length_high rest l in
    let p = h.place in
    let w = h.within in
    record {
      place = omega arith;
      within = rw length-set (omega arith);
      joined =
          rw (stored part k v (omega arith), add-one k, e)
          (sym (append_assoc (digits (rest / 10)) ((digit_zero + rest % 10) ∷ []) (drop (suc k) part)) ∙ ap (λ (x : List ℕ). x ++ drop (suc k) part) (sym (digits_high rest l)) ∙ h.joined);
    }

ends : (n rest v : ℕ) (part : List ℕ) → Left n rest 1 part → rest < 10 → v ≡ digit_zero + rest % 10 → set part 0 v ≡ digits n
ends n rest v part h l e =
    let w = h.within in
    set_split part 0 v (omega arith) ∙ rw (e, mod-eq_of_lt l) (ap (λ (x : List ℕ). x ++ drop 1 part) (sym (digits_low rest l)) ∙ h.joined)

turn : (n rest i k v : ℕ) (part : List ℕ) → i ≡ suc k → Unwritten n rest i part → v ≡ digit_zero + rest % 10 → Unwritten n (rest / 10) k (set part k v)
turn n rest i zero v part p t e =
    let h : Left n rest 1 part = subst (λ (j : ℕ). Unwritten n rest j part) p t in
    let q = h.place in
    let no : 10 ≤ rest → ⊥ = λ g. (let a = length_high rest g in let b = digits_some (rest / 10) in omega arith) in
    ends n rest v part h (omega (arith, no)) e
turn n rest i (suc k) v part p t e =
    let h : Left n rest (suc (suc k)) part = subst (λ (j : ℕ). Unwritten n rest j part) p t in
    let q = h.place in
    let no : rest < 10 → ⊥ = λ g. (let a = length_low rest g in omega arith) in
    again n rest (suc k) v part h (omega (arith, no)) e

all_written : (n rest i : ℕ) (part : List ℕ) → i ≤ 0 → Unwritten n rest i part → part ≡ digits n
all_written n rest zero part h t = t
all_written n rest (suc i) part h t = absurd (omega arith)

pub loop-i-init : goal.loop-i-init
loop-i-init c = (starts c.args.n (length c.args.part.now) c.args.part.now refl c.requires, refl)

pub digit_letter-requires : goal.digit_letter-requires
digit_letter-requires c = mod-lt c.loop-i.rest {m = 10} (omega arith)

pub loop-i-preserved : goal.loop-i-preserved
loop-i-preserved c = let l = c.loop-i in
    (turn c.args.n l.rest l.i (l.i - 1) c.digit_letter.result l.part (omega arith) l.invariant.0 c.digit_letter.ensures, simp length-set (omega arith))

pub returns : goal.returns
returns c = let l = c.loop-i in all_written c.args.n l.rest l.i l.part (omega arith) l.invariant.0
