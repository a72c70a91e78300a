use Prim.Native.Nat.{ℕ, suc, ◌+◌, ◌*◌, ◌/◌, ◌%◌, ◌≤◌, ◌<◌}
use mathlib.Core.Path.{◌≡◌, refl, sym, ap, subst, ◌∙◌}
use native.Mathlib.Omega.{arith}
use mathlib.Core.List.{List, [], ◌∷◌, ◌++◌, append-nil, append_assoc}
use Rattle.text.specs.Hexadecimal.{hex_letter, hex_text}
use Rattle.text.proofs.Hex.{sixteenth, rest_sixteen}
use lib.ListN.{length, take, drop, get_or, set, length-set, drop_of_length-le}
use lib.Seq.{drop-cons, take-suc-set, take_all}
use native.Mathlib.Numerals.{add-one, add-two}
use Rattle.text.proofs.write_hex_unchecked.Invariants.{Left}
use Rattle.text.proofs.write_hex_unchecked.Goals as goal

-- the letters up to j are written, those of the octets from i on are left

two : (part : List ℕ) (j x y : ℕ) → j + 1 < length part → take (j + 2) (set (set part j x) (j + 1) y) ≡ take j part ++ (x ∷ (y ∷ []))
two part j x y h =
    rw (add-two j, add-one j)
    (take-suc-set (set part j x) (suc j) y (rw length-set (omega arith))
    ∙ ap (λ (l : List ℕ). l ++ (y ∷ [])) (take-suc-set part j x (omega arith)) ∙ append_assoc (take j part) (x ∷ []) (y ∷ []))

again : (src part : List ℕ) (i j x y : ℕ) → Left src part i j → i < length src → x ≡ hex_letter (get_or src i 0 / 16) → y ≡ hex_letter (get_or src i 0 % 16)
    → Left src (set (set part j x) (j + 1) y) (i + 1) (j + 2)
unfolding hex_text
again src part i j x y h l p q =
    let e = h.place in
    let k = h.long in
    record {
      place = omega arith;
      within = omega arith;
      long = rw (length-set, length-set) k;
      joined =
          rw (two part j x y (omega arith), append_assoc (take j part) (x ∷ (y ∷ [])) (hex_text (drop (i + 1) src)), p, q, add-one i)
          (ap (λ (r : List ℕ). take j part ++ hex_text r) (sym (drop-cons src i 0 l)) ∙ h.joined);
    }

ends : (src part : List ℕ) (i j : ℕ) → Left src part i j → length src ≤ i → part ≡ hex_text src
unfolding hex_text
ends src part i j h l =
    let e = h.place in
    let k = h.long in
    let w = h.within in
    sym (append-nil part) ∙ ap (λ (r : List ℕ). r ++ []) (sym (take_all j part (omega arith)))
    ∙ ap (λ (r : List ℕ). take j part ++ hex_text r) (sym (drop_of_length-le src l)) ∙ h.joined

pub loop-i-init : goal.loop-i-init
loop-i-init c = (record { place = omega arith; within = omega arith; long = c.requires; joined = refl }, refl)

pub hex_letter-requires : goal.hex_letter-requires
hex_letter-requires c = sixteenth (get_or c.args.src.now c.loop-i.i 0) (omega (arith, c.type_inv.src c.loop-i.i))

pub hex_letter-requires-in-loop-i : goal.hex_letter-requires-in-loop-i
hex_letter-requires-in-loop-i c = rest_sixteen (get_or c.args.src.now c.loop-i.i 0)

pub bounds-part-j-in-loop-i : goal.bounds-part-j-in-loop-i
bounds-part-j-in-loop-i c = simp length-set (omega arith)

pub loop-i-preserved : goal.loop-i-preserved
loop-i-preserved c = let l = c.loop-i in
    let s = c.args.src.now in
    let e : l.i * 2 + 2 ≡ (l.i + 1) * 2 = omega arith in (
      subst (Left s _ (l.i + 1)) e (again s l.part l.i (l.i * 2) c.hex_letter.result c.hex_letter-in-loop-i.result l.invariant.0 (omega arith) c.hex_letter.ensures c.hex_letter-in-loop-i.ensures),
      simp length-set l.invariant.1,
    )

pub returns : goal.returns
returns c = let l = c.loop-i in
    ends c.args.src.now l.part l.i (l.i * 2) l.invariant.0 (omega arith)
