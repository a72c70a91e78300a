use native.Mathlib.Omega.{arith}
use mathlib.Core.List.{[], ◌∷◌, ◌++◌}
use lib.ListN.{length}
use Rattle.text.specs.Letters.{line_feed}
use Rattle.text.proofs.Laws.{rest_room, rest_last, piece_room, piece_next}
use Rattle.report.proofs.Lines.{last_first, total_column}
use Rattle.report.proofs.write_totals.Goals as goal

pub write_right_unchecked-a-requires : goal.write_right_unchecked-a-requires
write_right_unchecked-a-requires c = let a = c.args in
    let rows = a.rows.now in
    let copies = c.count_copies-copies in
    let repeats = c.count_repeats-repeats in
    let r1 = last_first rows a.out.now a.at copies.ensures repeats.ensures c.requires in
    piece_room (total_column (length rows)) (total_column copies.result ++ (total_column repeats.result ++ (line_feed ∷ []))) r1

pub write_right_unchecked-b-requires : goal.write_right_unchecked-b-requires
write_right_unchecked-b-requires c = let a = c.args in
    let rows = a.rows.now in
    let copies = c.count_copies-copies in
    let repeats = c.count_repeats-repeats in
    let r1 = last_first rows a.out.now a.at copies.ensures repeats.ensures c.requires in
    let e1 = c.write_right_unchecked-a.ensures in
    let r2 = piece_next (total_column (length rows)) (total_column copies.result ++ (total_column repeats.result ++ (line_feed ∷ []))) r1 e1.0 e1.1 in
    piece_room (total_column copies.result) (total_column repeats.result ++ (line_feed ∷ [])) r2

pub write_right_unchecked-c-requires : goal.write_right_unchecked-c-requires
write_right_unchecked-c-requires c = let a = c.args in
    let rows = a.rows.now in
    let copies = c.count_copies-copies in
    let repeats = c.count_repeats-repeats in
    let r1 = last_first rows a.out.now a.at copies.ensures repeats.ensures c.requires in
    let e1 = c.write_right_unchecked-a.ensures in
    let r2 = piece_next (total_column (length rows)) (total_column copies.result ++ (total_column repeats.result ++ (line_feed ∷ []))) r1 e1.0 e1.1 in
    let e2 = c.write_right_unchecked-b.ensures in
    let r3 = piece_next (total_column copies.result) (total_column repeats.result ++ (line_feed ∷ [])) r2 e2.0 e2.1 in
    piece_room (total_column repeats.result) (line_feed ∷ []) r3

pub write_octet_unchecked-requires : goal.write_octet_unchecked-requires
write_octet_unchecked-requires c = let a = c.args in
    let rows = a.rows.now in
    let copies = c.count_copies-copies in
    let repeats = c.count_repeats-repeats in
    let r1 = last_first rows a.out.now a.at copies.ensures repeats.ensures c.requires in
    let e1 = c.write_right_unchecked-a.ensures in
    let r2 = piece_next (total_column (length rows)) (total_column copies.result ++ (total_column repeats.result ++ (line_feed ∷ []))) r1 e1.0 e1.1 in
    let e2 = c.write_right_unchecked-b.ensures in
    let r3 = piece_next (total_column copies.result) (total_column repeats.result ++ (line_feed ∷ [])) r2 e2.0 e2.1 in
    let e3 = c.write_right_unchecked-c.ensures in
    let r4 = piece_next (total_column repeats.result) (line_feed ∷ []) r3 e3.0 e3.1 in
    let h = rest_room r4 in omega arith

pub returns : goal.returns
returns c = let a = c.args in
    let rows = a.rows.now in
    let copies = c.count_copies-copies in
    let repeats = c.count_repeats-repeats in
    let r1 = last_first rows a.out.now a.at copies.ensures repeats.ensures c.requires in
    let e1 = c.write_right_unchecked-a.ensures in
    let r2 = piece_next (total_column (length rows)) (total_column copies.result ++ (total_column repeats.result ++ (line_feed ∷ []))) r1 e1.0 e1.1 in
    let e2 = c.write_right_unchecked-b.ensures in
    let r3 = piece_next (total_column copies.result) (total_column repeats.result ++ (line_feed ∷ [])) r2 e2.0 e2.1 in
    let e3 = c.write_right_unchecked-c.ensures in
    let r4 = piece_next (total_column repeats.result) (line_feed ∷ []) r3 e3.0 e3.1 in
    let e4 = c.write_octet_unchecked.ensures in rest_last r4 e4.0 e4.1
