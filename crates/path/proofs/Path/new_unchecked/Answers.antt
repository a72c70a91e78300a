use Rattle.path.proofs.Calls.{new_law}
use Rattle.path.proofs.Path.new_unchecked.Goals as goal

pub returns : goal.returns
returns c = new_law _ _ _ c.new-scheduler.ensures c.new_unchecked-channel.ensures
