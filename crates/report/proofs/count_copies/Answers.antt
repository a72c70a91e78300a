use mathlib.Core.List.{[]}
use native.Mathlib.Omega.{arith}
use lib.ListN.{get_or}
use native.Mathlib.Nat.{min-le_right}
use Rattle.report.proofs.Counts.{copies_end, copies_step}
use Rattle.report.proofs.count_copies.Goals as goal

pub loop-row-init : goal.loop-row-init
loop-row-init c = (omega arith, omega arith)

pub overflow_add-sum : goal.overflow_add-sum
overflow_add-sum c = let l = c.loop-row in
    let most = min-le_right (get_or (get_or c.args.rows.now l.row-index []) 2 0) 2 in
    let inv = l.invariant in omega arith

pub loop-row-preserved : goal.loop-row-preserved
loop-row-preserved c = let l = c.loop-row in
    let rows = c.args.rows.now in
    let most = min-le_right (get_or (get_or rows l.row-index []) 2 0) 2 in
    let step = copies_step rows l.row-index (omega arith) in
    let inv = l.invariant in (omega arith, omega arith)

pub returns : goal.returns
returns c = let l = c.loop-row in
    let end = copies_end c.args.rows.now l.row-index (omega arith) in
    let inv = l.invariant in omega arith
