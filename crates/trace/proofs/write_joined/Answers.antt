use Prim.Native.Nat.{ℕ, ◌+◌}
use mathlib.Core.Path.{ap, ◌∙◌}
use mathlib.Core.List.{List, [], ◌∷◌}
use native.Mathlib.Omega.{arith}
use lib.ListN.{length}
use Rattle.text.specs.Field.{field}
use Rattle.refusal.specs.Refusal.{ascii}
use Rattle.text.specs.Letters.{comma}
use Rattle.text.specs.Place.{written_at}
use Rattle.text.proofs.Laws.{written_first, written_room, written_more}
use Rattle.trace.proofs.Lines.{closed_none, closed_one, closed_two, closed_none_length, closed_one_length, closed_two_length}
use Rattle.trace.proofs.write_joined.Goals as goal

pub write_octet_unchecked-a-requires : goal.write_octet_unchecked-a-requires
write_octet_unchecked-a-requires c = let a = c.args in
    let p = c.requires in
    let e = closed_none_length a.copies a.first a.second a.letter (omega arith) in omega arith

pub write_octet_unchecked-requires : goal.write_octet_unchecked-requires
write_octet_unchecked-requires c = let a = c.args in
    let p = c.requires in
    let l = closed_none_length a.copies a.first a.second a.letter (omega arith) in
    let e1 = c.write_octet_unchecked-a.ensures in
    let w1 = written_first a.out.now a.at (ascii "-") e1.0 e1.1 in
    let r = written_room a.out.now a.at (ascii "-") 1 w1 (omega arith) in omega arith

pub returns-then-copies-eq0 : goal.returns-then-copies-eq0
returns-then-copies-eq0 c = let a = c.args in
    let p = c.requires in
    let l = closed_none_length a.copies a.first a.second a.letter (omega arith) in
    let e1 = c.write_octet_unchecked-a.ensures in
    let w1 = written_first a.out.now a.at (ascii "-") e1.0 e1.1 in
    let e2 = c.write_octet_unchecked.ensures in
    let w2 = written_more a.out.now a.at (ascii "-") (a.letter ∷ []) w1 (omega arith) e2.0 e2.1 in
    let e = closed_none a.copies a.first a.second a.letter (omega arith) in
    (w2.after ∙ ap (λ (l : List ℕ). a.at + length l) e, w2.holds ∙ ap (written_at a.out.now a.at) e)

pub write_field_unchecked-requires : goal.write_field_unchecked-requires
write_field_unchecked-requires c = let a = c.args in
    let p = c.requires in
    let e = closed_one_length a.copies a.first a.second a.letter (omega arith) in omega arith

pub returns-then-copies-eq1 : goal.returns-then-copies-eq1
returns-then-copies-eq1 c = let a = c.args in
    let e1 = c.write_field_unchecked.ensures in
    let e = closed_one a.copies a.first a.second a.letter (omega arith) in
    (e1.0 ∙ ap (λ (l : List ℕ). a.at + length l) e, e1.1 ∙ ap (written_at a.out.now a.at) e)

pub write_field_unchecked-b-requires : goal.write_field_unchecked-b-requires
write_field_unchecked-b-requires c = let a = c.args in
    let p = c.requires in
    let e = closed_two_length a.copies a.first a.second a.letter (omega arith) in omega arith

pub write_field_unchecked-requires-2 : goal.write_field_unchecked-requires-2
write_field_unchecked-requires-2 c = let a = c.args in
    let p = c.requires in
    let l = closed_two_length a.copies a.first a.second a.letter (omega arith) in
    let e1 = c.write_field_unchecked-b.ensures in
    let w1 = written_first a.out.now a.at (field a.first comma) e1.0 e1.1 in
    let r = written_room a.out.now a.at (field a.first comma) (length (field a.second a.letter)) w1 (omega arith) in omega arith

pub returns : goal.returns
returns c = let a = c.args in
    let p = c.requires in
    let l = closed_two_length a.copies a.first a.second a.letter (omega arith) in
    let e1 = c.write_field_unchecked-b.ensures in
    let w1 = written_first a.out.now a.at (field a.first comma) e1.0 e1.1 in
    let e2 = c.write_field_unchecked-2.ensures in
    let w2 = written_more a.out.now a.at (field a.first comma) (field a.second a.letter) w1 (omega arith) e2.0 e2.1 in
    let e = closed_two a.copies a.first a.second a.letter (omega arith) in
    (w2.after ∙ ap (λ (l : List ℕ). a.at + length l) e, w2.holds ∙ ap (written_at a.out.now a.at) e)
