use Prim.Native.Nat.{ℕ, ◌+◌, ◌≤◌}
use mathlib.Core.Path.{◌≡◌, refl, ap, ◌∙◌}
use mathlib.Core.List.{List, [], ◌∷◌, ◌++◌}
use native.Mathlib.Omega.{arith}
use lib.ListN.{length, length-append}
use Rattle.text.specs.Decimal.{digits}
use Rattle.text.specs.Place.{written_at}
use Rattle.text.proofs.Numbers.{written_first, written_room, written_more}
use Rattle.text.specs.Field.{field}
use Rattle.text.proofs.write_field_unchecked.Goals as goal

fits : (n letter at k : ℕ) → at + length (field n letter) ≤ k → at + (length (digits n) + 1) ≤ k
unfolding field
fits n letter at k h = omega (arith, simp length-append at h)

whole : (n letter : ℕ) → digits n ++ (letter ∷ []) ≡ field n letter
unfolding field
whole n letter = refl

pub write_decimal_unchecked-next-requires : goal.write_decimal_unchecked-next-requires
write_decimal_unchecked-next-requires c = let a = c.args in
    let p = fits a.n a.letter a.at (length a.out.now) c.requires in
    omega arith

pub write_octet_unchecked-requires : goal.write_octet_unchecked-requires
write_octet_unchecked-requires c = let a = c.args in
    let p = fits a.n a.letter a.at (length a.out.now) c.requires in
    let e1 = c.write_decimal_unchecked-next.ensures in
    let w1 = written_first a.out.now a.at (digits a.n) e1.0 e1.1 in
    let r = written_room a.out.now a.at (digits a.n) (length (a.letter ∷ [])) w1 (omega arith) in omega arith

pub returns : goal.returns
returns c = let a = c.args in
    let p = fits a.n a.letter a.at (length a.out.now) c.requires in
    let e1 = c.write_decimal_unchecked-next.ensures in
    let w1 = written_first a.out.now a.at (digits a.n) e1.0 e1.1 in
    let e2 = c.write_octet_unchecked.ensures in
    let w2 = written_more a.out.now a.at (digits a.n) (a.letter ∷ []) w1 (omega arith) e2.0 e2.1 in
    let e = whole a.n a.letter in
    (w2.after ∙ ap (λ (l : List ℕ). a.at + length l) e, w2.holds ∙ ap (written_at a.out.now a.at) e)
