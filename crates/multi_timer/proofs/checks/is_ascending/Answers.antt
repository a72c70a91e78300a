use Rattle.std.proofs.Common.{◌∙◌, rules}
use Rattle.multi_timer.proofs.Loops.{ascending_start, ascending_step, ascending_end}
use Rattle.multi_timer.proofs.checks.is_ascending.Goals as goal

pub loop-i-init : goal.loop-i-init
loop-i-init c = (search rules, ascending_start c.args.count c.args.keys.now c.requires)

pub loop-i-preserved : goal.loop-i-preserved
loop-i-preserved c = (search rules, ascending_step c.args.count c.loop-i.i c.args.keys.now c.loop-i.sorted c.loop-i-test.true c.requires ∙ c.loop-i.invariant.1)

pub returns : goal.returns
returns c = ascending_end c.args.count c.loop-i.i c.args.keys.now c.loop-i.sorted c.loop-i-test.false c.requires ∙ c.loop-i.invariant.1
