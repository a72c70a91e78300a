use Rattle.std.proofs.Common.{◌+◌, ◌<◌, rules}
use Rattle.multi_timer.proofs.Loops.{skip_step, later_none}
use Rattle.multi_timer.proofs.entries.skip_below.Goals as goal

pub loop-i-init : goal.loop-i-init
loop-i-init c = (search rules, later_none _)

pub returns-then-keys-i : goal.returns-then-keys-i
returns-then-keys-i c = c.loop-i.invariant

pub loop-i-preserved : goal.loop-i-preserved
loop-i-preserved c = let a = c.args in
    let h : c.loop-i.i + 3 < a.count = search rules in
    (search rules, skip_step a.count c.loop-i.i a.keys.now a.key h c.requires.0 c.requires.1 c.if-keys-i.false)

pub returns : goal.returns
returns c = c.loop-i.invariant
