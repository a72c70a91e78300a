use Prim.Native.Nat.{ℕ, ◌+◌, ◌≤◌}
use mathlib.Core.Path.{◌≡◌, sym, ap, ◌∙◌}
use mathlib.Core.List.{List, ◌++◌, append_assoc}
use native.Mathlib.Omega.{arith}
use lib.ListN.{length, length-append}
use Rattle.events.specs.Events.{of_copies}
use Rattle.text.specs.Field.{field}
use Rattle.text.specs.Place.{written_at}
use Rattle.text.proofs.Laws.{written_first, written_room, written_more}
use Rattle.text.specs.Letters.{tab, line_feed}
use Rattle.trace.specs.Text.{columns}
use Rattle.trace.proofs.Lines.{closed, columns_closed}
use Rattle.trace.proofs.write_columns.Goals as goal

fits : (s a : ℕ) (ds fs : List ℕ) (at k : ℕ) → at + length (columns s a ds fs) ≤ k
    → at + (length (field s tab) + (length (field a tab) + (length (closed ds tab) + length (closed fs line_feed)))) ≤ k
fits s a ds fs at k h =
    let q = ap length (columns_closed s a ds fs) in
    let x = length-append (field s tab) (field a tab ++ (closed ds tab ++ closed fs line_feed)) in
    let y = length-append (field a tab) (closed ds tab ++ closed fs line_feed) in
    let z = length-append (closed ds tab) (closed fs line_feed) in omega arith

whole : (s a : ℕ) (ds fs : List ℕ) → ((field s tab ++ field a tab) ++ closed ds tab) ++ closed fs line_feed ≡ columns s a ds fs
whole s a ds fs =
    append_assoc (field s tab ++ field a tab) (closed ds tab) (closed fs line_feed)
    ∙ append_assoc (field s tab) (field a tab) (closed ds tab ++ closed fs line_feed)
    ∙ sym (columns_closed s a ds fs)

pub write_field_unchecked-a-requires : goal.write_field_unchecked-a-requires
write_field_unchecked-a-requires c = let a = c.args in
    let p = fits a.seq a.again (of_copies a.copies a.first_delay a.second_delay) (of_copies a.copies a.first_fold a.second_fold) a.at (length a.out.now) c.requires in
    omega arith

pub write_field_unchecked-b-requires : goal.write_field_unchecked-b-requires
write_field_unchecked-b-requires c = let a = c.args in
    let p = fits a.seq a.again (of_copies a.copies a.first_delay a.second_delay) (of_copies a.copies a.first_fold a.second_fold) a.at (length a.out.now) c.requires in
    let e1 = c.write_field_unchecked-a.ensures in
    let w1 = written_first a.out.now a.at (field a.seq tab) e1.0 e1.1 in
    let r = written_room a.out.now a.at (field a.seq tab) (length (field a.again tab)) w1 (omega arith) in omega arith

pub write_joined-c-requires : goal.write_joined-c-requires
write_joined-c-requires c = let a = c.args in
    let p = fits a.seq a.again (of_copies a.copies a.first_delay a.second_delay) (of_copies a.copies a.first_fold a.second_fold) a.at (length a.out.now) c.requires in
    let l2 = length-append (field a.seq tab) (field a.again tab) in
    let e1 = c.write_field_unchecked-a.ensures in
    let w1 = written_first a.out.now a.at (field a.seq tab) e1.0 e1.1 in
    let e2 = c.write_field_unchecked-b.ensures in
    let w2 = written_more a.out.now a.at (field a.seq tab) (field a.again tab) w1 (omega arith) e2.0 e2.1 in
    let r = written_room a.out.now a.at ((field a.seq tab) ++ (field a.again tab)) (length (closed (of_copies a.copies a.first_delay a.second_delay) tab)) w2 (omega arith) in omega arith

pub write_joined-requires : goal.write_joined-requires
write_joined-requires c = let a = c.args in
    let p = fits a.seq a.again (of_copies a.copies a.first_delay a.second_delay) (of_copies a.copies a.first_fold a.second_fold) a.at (length a.out.now) c.requires in
    let l2 = length-append (field a.seq tab) (field a.again tab) in
    let l3 = length-append ((field a.seq tab) ++ (field a.again tab)) (closed (of_copies a.copies a.first_delay a.second_delay) tab) in
    let e1 = c.write_field_unchecked-a.ensures in
    let w1 = written_first a.out.now a.at (field a.seq tab) e1.0 e1.1 in
    let e2 = c.write_field_unchecked-b.ensures in
    let w2 = written_more a.out.now a.at (field a.seq tab) (field a.again tab) w1 (omega arith) e2.0 e2.1 in
    let e3 = c.write_joined-c.ensures in
    let w3 = written_more a.out.now a.at ((field a.seq tab) ++ (field a.again tab)) (closed (of_copies a.copies a.first_delay a.second_delay) tab) w2 (omega arith) e3.0 e3.1 in
    let r = written_room a.out.now a.at (((field a.seq tab) ++ (field a.again tab)) ++ (closed (of_copies a.copies a.first_delay a.second_delay) tab)) (length (closed (of_copies a.copies a.first_fold a.second_fold) line_feed)) w3 (omega arith) in omega arith

pub returns : goal.returns
returns c = let a = c.args in
    let p = fits a.seq a.again (of_copies a.copies a.first_delay a.second_delay) (of_copies a.copies a.first_fold a.second_fold) a.at (length a.out.now) c.requires in
    let l2 = length-append (field a.seq tab) (field a.again tab) in
    let l3 = length-append ((field a.seq tab) ++ (field a.again tab)) (closed (of_copies a.copies a.first_delay a.second_delay) tab) in
    let e1 = c.write_field_unchecked-a.ensures in
    let w1 = written_first a.out.now a.at (field a.seq tab) e1.0 e1.1 in
    let e2 = c.write_field_unchecked-b.ensures in
    let w2 = written_more a.out.now a.at (field a.seq tab) (field a.again tab) w1 (omega arith) e2.0 e2.1 in
    let e3 = c.write_joined-c.ensures in
    let w3 = written_more a.out.now a.at ((field a.seq tab) ++ (field a.again tab)) (closed (of_copies a.copies a.first_delay a.second_delay) tab) w2 (omega arith) e3.0 e3.1 in
    let e4 = c.write_joined.ensures in
    let w4 = written_more a.out.now a.at (((field a.seq tab) ++ (field a.again tab)) ++ (closed (of_copies a.copies a.first_delay a.second_delay) tab)) (closed (of_copies a.copies a.first_fold a.second_fold) line_feed) w3 (omega arith) e4.0 e4.1 in
    let e = whole a.seq a.again (of_copies a.copies a.first_delay a.second_delay) (of_copies a.copies a.first_fold a.second_fold) in
    (w4.after ∙ ap (λ (l : List ℕ). a.at + length l) e, w4.holds ∙ ap (written_at a.out.now a.at) e)
