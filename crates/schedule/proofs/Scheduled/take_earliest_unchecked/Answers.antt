use Rattle.std.proofs.Common.{◌∙◌}
use Rattle.schedule.proofs.Structs.{taken, pushes_on, pushes_none, falls_on, falls_out}
use Rattle.schedule.proofs.Scheduled.take_earliest_unchecked.Goals as goal

pub loop-i-preserved : goal.loop-i-preserved
loop-i-preserved c =
    rw (c.replace-c.ensures.value, c.replace-c.ensures.after)
    (falls_on c.loop-i.c c.loop-i.i c.loop-i.s c.loop-i-test.true ∙ c.loop-i.invariant.0, pushes_on c.loop-i.c c.loop-i.i c.loop-i.s c.loop-i-test.true ∙ c.loop-i.invariant.1)

pub returns : goal.returns
returns c =
    taken c.args.count c.args.s.now c.loop-i.c c.loop-i.s c.requires.0 c.requires.1
    (falls_out c.loop-i.c c.loop-i.i c.loop-i.s c.loop-i-test.false ∙ c.loop-i.invariant.0)
    (pushes_none c.loop-i.c c.loop-i.i c.loop-i.s c.loop-i-test.false ∙ c.loop-i.invariant.1)
