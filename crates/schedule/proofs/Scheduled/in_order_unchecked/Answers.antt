use Rattle.std.proofs.Common.{sym, ◌∙◌}
use Rattle.schedule.proofs.Structs.{look_ends, look_fails, look_goes_on}
use Rattle.schedule.proofs.Scheduled.in_order_unchecked.Goals as goal

pub returns-then-leaves_after : goal.returns-then-leaves_after
returns-then-leaves_after c = look_fails c.args.count c.args.s.now c.loop-q.p c.loop-q.q-index c.loop-q.invariant c.loop-q-test.true (sym c.leaves_after.ensures ∙ c.if-leaves_after.true)

pub loop-q-preserved : goal.loop-q-preserved
loop-q-preserved c = look_goes_on c.args.count c.args.s.now c.loop-q.p c.loop-q.q-index c.loop-q.invariant c.loop-q-test.true (sym c.leaves_after.ensures ∙ c.if-leaves_after.false)

pub returns : goal.returns
returns c = look_ends c.args.count c.args.s.now c.loop-q.p c.loop-q.q-index c.loop-q.invariant c.loop-q-test.false
