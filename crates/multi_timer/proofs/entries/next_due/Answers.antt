use Rattle.std.proofs.Common.{◌∙◌}
use Rattle.multi_timer.proofs.DueKeys.{next_found, next_step, next_end}
use Rattle.multi_timer.proofs.entries.next_due.Goals as goal

pub returns-then-time-deadlines : goal.returns-then-time-deadlines
returns-then-time-deadlines c = let s = c.args in next_found s.count c.loop-i.i s.time s.keys.now s.deadlines.now c.requires.0 c.requires.1 c.loop-i-test.true c.if-time-deadlines.true ∙ c.loop-i.invariant

pub loop-i-preserved : goal.loop-i-preserved
loop-i-preserved c = let s = c.args in next_step s.count c.loop-i.i s.time s.keys.now s.deadlines.now c.requires.0 c.requires.1 c.loop-i-test.true c.if-time-deadlines.false ∙ c.loop-i.invariant

pub returns : goal.returns
returns c = let s = c.args in next_end s.count c.loop-i.i s.time s.keys.now s.deadlines.now c.requires.0 c.requires.1 c.loop-i-test.false ∙ c.loop-i.invariant
