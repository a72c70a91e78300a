use mathlib.Core.Path.{◌∙◌}
use native.Mathlib.Omega.{arith}
use lib.ListN.{replicate}
use Rattle.rows.specs.Rows.{vacant}
use Rattle.linkrun_text.proofs.Runs.{rows_hold, text_long, text_events, no_bytes, some_bytes}
use Rattle.linkrun_text.proofs.write_linkrun.Goals as goal

pub returns-then-file-gt-MAX_FILE : goal.returns-then-file-gt-MAX_FILE
returns-then-file-gt-MAX_FILE c = let a = c.args in text_long a.out.now a.file.now (omega arith) c.write_word.ensures

pub returns-then-file-eq0 : goal.returns-then-file-eq0
returns-then-file-eq0 c = let a = c.args in
    text_events a.out.now a.file.now (replicate 256 vacant) 0 (omega arith) (omega arith) (no_bytes a.file.now (replicate 256 vacant) (omega arith)) c.write_events.ensures

pub slice_bounds-write_events-end-2 : goal.slice_bounds-write_events-end-2
slice_bounds-write_events-end-2 c = c.run_file_unchecked-answer.ensures.size

pub returns : goal.returns
returns c = let a = c.args in
    let r = c.run_file_unchecked-answer in
    let n = c.events_written-count in
    let h = rows_hold r.ensures n.ensures in
    text_events a.out.now a.file.now r.new.events n.result (omega arith) h.1 (h.0 ∙ some_bytes a.file.now (λ e. omega arith)) c.write_events-2.ensures
