use Rattle.std.proofs.Common.{refl}
use Rattle.timer.specs.Timer.{new_timer}
use Rattle.timer.proofs.RetransmissionTimer.new.Goals as goal

pub returns : goal.returns
unfolding new_timer
returns c = refl
