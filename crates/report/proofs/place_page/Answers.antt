use mathlib.Core.List.{map, ◌++◌}
use native.Mathlib.Omega.{arith}
use Rattle.events.specs.Events.{event_of}
use Rattle.text.proofs.Laws.{rest_room, rest_last, piece_room, piece_next, place_over, place_written}
use Rattle.report.specs.Page.{head_line, event_lines, last_line, page}
use Rattle.report.proofs.Lines.{page_first, head_text, same_written}
use Rattle.report.proofs.Widths.{page_length}
use Rattle.report.proofs.place_page.Goals as goal

pub returns-then-lines-lt2 : goal.returns-then-lines-lt2
returns-then-lines-lt2 c = let a = c.args in
    let es = map event_of a.rows.now in
    let l = page_length a.rows.now c.requires (omega arith) in
    place_over a.out.now 0 (page es) (omega arith)

pub returns-then-lines-rows : goal.returns-then-lines-rows
returns-then-lines-rows c = let a = c.args in
    let es = map event_of a.rows.now in
    let l = page_length a.rows.now c.requires (omega arith) in
    place_over a.out.now 0 (page es) (omega arith)

pub write_lines-b-requires : goal.write_lines-b-requires
write_lines-b-requires c = let a = c.args in
    let es = map event_of a.rows.now in
    let l = page_length a.rows.now c.requires (omega arith) in
    let r1 = page_first es a.out.now (omega arith) in
    let e1 = same_written a.out.now 0 head_text c.write_word_unchecked-a.ensures in
    let r2 = piece_next head_line (event_lines es ++ last_line es) r1 e1.0 e1.1 in
    piece_room (event_lines es) (last_line es) r2

pub write_totals-next-requires : goal.write_totals-next-requires
write_totals-next-requires c = let a = c.args in
    let es = map event_of a.rows.now in
    let l = page_length a.rows.now c.requires (omega arith) in
    let r1 = page_first es a.out.now (omega arith) in
    let e1 = same_written a.out.now 0 head_text c.write_word_unchecked-a.ensures in
    let r2 = piece_next head_line (event_lines es ++ last_line es) r1 e1.0 e1.1 in
    let e2 = c.write_lines-b.ensures in
    let r3 = piece_next (event_lines es) (last_line es) r2 e2.0 e2.1 in
    rest_room r3

pub returns : goal.returns
returns c = let a = c.args in
    let es = map event_of a.rows.now in
    let l = page_length a.rows.now c.requires (omega arith) in
    let r1 = page_first es a.out.now (omega arith) in
    let e1 = same_written a.out.now 0 head_text c.write_word_unchecked-a.ensures in
    let r2 = piece_next head_line (event_lines es ++ last_line es) r1 e1.0 e1.1 in
    let e2 = c.write_lines-b.ensures in
    let r3 = piece_next (event_lines es) (last_line es) r2 e2.0 e2.1 in
    let e3 = c.write_totals-next.ensures in
    let w = rest_last r3 e3.0 e3.1 in place_written a.out.now (page es) 0 (omega arith) w.0 w.1
