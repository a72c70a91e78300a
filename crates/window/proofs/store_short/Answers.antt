use lib.ListN.{length}
use Rattle.window.specs.State.{store_short}
use Rattle.window.proofs.Sound.{fewer_slots}
use Rattle.window.proofs.store_short.Goals as goal

pub returns : goal.returns
unfolding store_short
returns c = fewer_slots (length c.args.store.now) c.args.window
