use Rattle.transfer.proofs.Calls.{plan_is}
use Rattle.transfer.proofs.plan_of.Goals as goal

pub returns : goal.returns
returns c = plan_is c.args.config _ _ c.timing_of.ensures
