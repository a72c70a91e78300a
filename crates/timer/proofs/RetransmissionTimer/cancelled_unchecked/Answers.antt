use Rattle.std.proofs.Common.{refl}
use Rattle.timer.specs.Timer.{cancelled_unchecked}
use Rattle.timer.proofs.RetransmissionTimer.cancelled_unchecked.Goals as goal

pub returns : goal.returns
unfolding cancelled_unchecked
returns c = refl
