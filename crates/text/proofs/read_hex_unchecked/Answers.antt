use Prim.Native.Nat.{ℕ, suc, ◌+◌, ◌*◌, ◌≤◌, ◌<◌}
use mathlib.Core.Path.{◌≡◌, refl, sym, ap, subst, ◌∙◌}
use native.Mathlib.Omega.{arith}
use mathlib.Core.Bool.{true}
use mathlib.Core.List.{List, [], ◌∷◌, ◌++◌, append-nil, append_assoc}
use Rattle.text.specs.Hexadecimal.{is_hex, all_hex, hex_value, octets_of}
use Rattle.text.proofs.Hex.{hex_cons}
use lib.ListN.{length, take, drop, get_or, set, length-set, drop_of_length-le}
use lib.Seq.{drop-cons, take-suc-set, take_all}
use native.Mathlib.Numerals.{add-one}
use Rattle.text.proofs.read_hex_unchecked.Invariants.{Left}
use Rattle.text.proofs.read_hex_unchecked.Goals as goal

-- the octets up to i are read, those of the letters from j on are left

pub record Pair (part : List ℕ) (j : ℕ) : Type 0 where
  pub split : drop j part ≡ get_or part j 0 ∷ (get_or part (j + 1) 0 ∷ drop (j + 2) part)
  pub high : is_hex (get_or part j 0) ≡ true
  pub low : is_hex (get_or part (j + 1) 0) ≡ true
  pub rest : all_hex (drop (j + 2) part) ≡ true

pair : (part dst : List ℕ) (i j : ℕ) → Left part dst i j → i < length dst → Pair part j
pair part dst i j h l =
    let e = h.place in
    let k = h.long in
    let s : drop j part ≡ get_or part j 0 ∷ (get_or part (j + 1) 0 ∷ drop (j + 2) part) =
    drop-cons part j 0 (omega arith) ∙ ap (λ (r : List ℕ). get_or part j 0 ∷ r) (rw (← add-one j, drop-cons part (j + 1) 0 (omega arith)) (let m : suc (j + 1) ≡ j + 2 = omega arith in rw m)) in
    let p = hex_cons (get_or part j 0) (get_or part (j + 1) 0 ∷ drop (j + 2) part) (rw s at h.letters) in
    let q = hex_cons (get_or part (j + 1) 0) (drop (j + 2) part) p.1 in
    record { split = s; high = p.0; low = q.0; rest = q.1 }

again : (part dst : List ℕ) (i j x y : ℕ) → Left part dst i j → i < length dst → x ≡ hex_value (get_or part j 0) → y ≡ hex_value (get_or part (j + 1) 0)
    → Left part (set dst i (x * 16 + y)) (i + 1) (j + 2)
unfolding octets_of
again part dst i j x y h l p q =
    let e = h.place in
    let k = h.long in
    let w = pair part dst i j h l in
    record {
      place = omega arith;
      within = rw length-set (omega arith);
      long = rw length-set k;
      letters = w.rest;
      joined =
          rw (add-one i, take-suc-set dst i (x * 16 + y) l, append_assoc (take i dst) ((x * 16 + y) ∷ []) (octets_of (drop (j + 2) part)), p, q)
          (ap (λ (r : List ℕ). take i dst ++ octets_of r) (sym w.split) ∙ h.joined);
    }

ends : (part dst : List ℕ) (i j : ℕ) → Left part dst i j → length dst ≤ i → dst ≡ octets_of part
unfolding octets_of
ends part dst i j h l =
    let e = h.place in
    let k = h.long in
    let w = h.within in
    sym (append-nil dst) ∙ ap (λ (r : List ℕ). r ++ []) (sym (take_all i dst l))
    ∙ ap (λ (r : List ℕ). take i dst ++ octets_of r) (sym (drop_of_length-le part {i = j} (omega arith))) ∙ h.joined

pub loop-i-init : goal.loop-i-init
loop-i-init c = (record { place = omega arith; within = omega arith; long = c.requires.0; letters = c.requires.1; joined = refl }, refl)

pub hex_value-high-requires : goal.hex_value-high-requires
hex_value-high-requires c = let l = c.loop-i in (pair c.args.part.now l.dst l.i (l.i * 2) l.invariant.0 (omega arith)).high

pub hex_value-low-requires : goal.hex_value-low-requires
hex_value-low-requires c = let l = c.loop-i in (pair c.args.part.now l.dst l.i (l.i * 2) l.invariant.0 (omega arith)).low

pub loop-i-preserved : goal.loop-i-preserved
loop-i-preserved c = let l = c.loop-i in
    let s = c.args.part.now in
    let e : l.i * 2 + 2 ≡ (l.i + 1) * 2 = omega arith in (
      subst (Left s _ (l.i + 1)) e (again s l.dst l.i (l.i * 2) c.hex_value-high.result c.hex_value-low.result l.invariant.0 (omega arith) c.hex_value-high.ensures.0 c.hex_value-low.ensures.0),
      simp length-set l.invariant.1,
    )

pub returns : goal.returns
returns c = let l = c.loop-i in
    ends c.args.part.now l.dst l.i (l.i * 2) l.invariant.0 (omega arith)
