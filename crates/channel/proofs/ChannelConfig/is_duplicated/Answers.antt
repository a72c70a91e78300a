use Rattle.channel.specs.Faults.{is_lost, is_duplicated}
use Rattle.channel.proofs.Carrying.{unless, unless_lost}
use Rattle.channel.proofs.ChannelConfig.is_duplicated.Goals as goal

pub returns-then-rolls-self : goal.returns-then-rolls-self
unfolding is_lost is_duplicated
returns-then-rolls-self c = unless_lost _ _ c.if-rolls-self.true

pub returns : goal.returns
unfolding is_lost is_duplicated
returns c = unless _ _ c.if-rolls-self.false
