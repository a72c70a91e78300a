use Rattle.window.specs.Slots.{fresh}
use Rattle.window.proofs.SendWindow.new_unchecked.Goals as goal

pub returns : goal.returns
unfolding fresh
returns c = rw c.empty_all_unchecked.ensures
