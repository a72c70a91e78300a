use native.Mathlib.Omega.{arith}
use Rattle.lent_events.proofs.Rows.{passed_first, passed_refused, passed_next, passed_late, passed_end, later_taken, later_left}
use Rattle.lent_events.proofs.check_rows.Goals as goal
use Rattle.lent_events.proofs.check_rows.Goals.{then-is_late, else-is_late}

pub loop-row-init : goal.loop-row-init
loop-row-init c = passed_first c.args.rows.now

pub returns-then-is_no_event : goal.returns-then-is_no_event
returns-then-is_no_event c = passed_refused c.args.rows.now c.loop-row.invariant (omega arith) c.is_no_event.ensures c.if-is_no_event.true

pub loop-row-preserved : goal.loop-row-preserved
loop-row-preserved c = let l = c.loop-row in
    passed_next c.args.rows.now l.invariant (omega arith) c.is_no_event.ensures c.if-is_no_event.false
    (elim c.if-is_late.branch [
      | then-is_late w ↦ later_taken l.late c.is_late.ensures w.if-is_late.true w.late-is
      | else-is_late w ↦ later_left l.late c.is_late.ensures w.if-is_late.false w.late-is
    ])

pub returns-then-late : goal.returns-then-late
returns-then-late c = passed_late c.args.rows.now c.loop-row.invariant (omega arith) c.if-late.true

pub returns : goal.returns
returns c = passed_end c.args.rows.now c.loop-row.invariant (omega arith) c.if-late.false
