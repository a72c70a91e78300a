use Rattle.std.proofs.Common.{arith}
use Rattle.multi_timer.proofs.Changes.{count_fits_deadlines, earliest_none, earliest_at}
use Rattle.multi_timer.proofs.MultiTimer.earliest_deadline_unchecked.Goals as goal

pub returns-then-count-eq0 : goal.returns-then-count-eq0
returns-then-count-eq0 c = earliest_none c.args.self c.args.keys.now c.args.deadlines.now c.requires c.if-count-eq0.true

pub min_deadline-requires : goal.min_deadline-requires
min_deadline-requires c = (omega arith, count_fits_deadlines c.args.self c.args.keys.now c.args.deadlines.now c.requires)

pub returns : goal.returns
returns c = earliest_at c.args.self c.args.keys.now c.args.deadlines.now c.requires _ c.min_deadline.ensures
