use mathlib.Core.Path.{refl}
use Rattle.channel.specs.Faults.{is_lost}
use Rattle.channel.proofs.ChannelConfig.is_lost.Goals as goal

pub returns : goal.returns
unfolding is_lost
returns c = refl
