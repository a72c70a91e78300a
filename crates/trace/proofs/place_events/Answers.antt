use Prim.Native.Nat.{◌-◌}
use mathlib.Core.Path.{sym, ◌∙◌}
use mathlib.Core.List.{map}
use native.Mathlib.Omega.{arith}
use lib.ListN.{length}
use borrow.Author.Tests.{leb-true, leb-false}
use Rattle.events.specs.Events.{event_of}
use Rattle.text.proofs.Laws.{written_first, written_room, written_more, place_over, place_written}
use Rattle.trace.specs.Text.{parted, line, head_line, event_lines, events_text}
use Rattle.trace.proofs.Lines.{length_text, text_after, text_holds}
use Rattle.trace.proofs.place_events.Goals as goal

pub returns-then-out-size : goal.returns-then-out-size
returns-then-out-size c = let a = c.args in
    let l = length_text (map event_of a.rows.now) in place_over a.out.now 0 (events_text (map event_of a.rows.now)) (omega arith)

pub returns-then-not-fit : goal.returns-then-not-fit
returns-then-not-fit c = let a = c.args in
    let l = length_text (map event_of a.rows.now) in
    let h = leb-false (length (event_lines (map event_of a.rows.now))) (length a.out.now - 23) (sym c.lines_fit-fit.ensures ∙ c.if-not-fit.true) in
    place_over a.out.now 0 (events_text (map event_of a.rows.now)) (omega arith)

pub write_lines-next-requires : goal.write_lines-next-requires
unfolding head_line line parted
write_lines-next-requires c = let a = c.args in
    let h = leb-true (length (event_lines (map event_of a.rows.now))) (length a.out.now - 23) (sym c.lines_fit-fit.ensures ∙ c.if-not-fit.false) in
    let e1 = c.write_word_unchecked-at.ensures in
    let w1 = written_first a.out.now 0 head_line e1.0 e1.1 in
    let r = written_room a.out.now 0 head_line (length (event_lines (map event_of a.rows.now))) w1 (omega arith) in omega arith

pub returns : goal.returns
unfolding head_line line parted
returns c = let a = c.args in
    let l = length_text (map event_of a.rows.now) in
    let h = leb-true (length (event_lines (map event_of a.rows.now))) (length a.out.now - 23) (sym c.lines_fit-fit.ensures ∙ c.if-not-fit.false) in
    let e1 = c.write_word_unchecked-at.ensures in
    let w1 = written_first a.out.now 0 head_line e1.0 e1.1 in
    let e2 = c.write_lines-next.ensures in
    let w2 = written_more a.out.now 0 head_line (event_lines (map event_of a.rows.now)) w1 (omega arith) e2.0 e2.1 in
    place_written a.out.now (events_text (map event_of a.rows.now)) 0 (omega arith) (text_after (map event_of a.rows.now) w2) (text_holds (map event_of a.rows.now) w2)
