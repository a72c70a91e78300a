use Rattle.clock.proofs.Calls.{new_law}
use Rattle.clock.proofs.Clock.new_unchecked.Goals as goal

pub returns : goal.returns
returns c = new_law c.args.keys.now c.args.deadlines.now c.new.ensures c.new_unchecked.ensures
