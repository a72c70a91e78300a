use Rattle.window.specs.Slots.{release}
use Rattle.window.proofs.SendWindow.release_unchecked.Goals as goal

pub returns : goal.returns
unfolding release
returns c = rw c.empty_slots_unchecked.ensures
