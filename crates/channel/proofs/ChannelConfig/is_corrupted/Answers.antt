use Rattle.channel.specs.Faults.{is_lost, is_corrupted}
use Rattle.channel.proofs.ChannelConfig.is_corrupted.Goals as goal

pub returns-then-rolls-self : goal.returns-then-rolls-self
unfolding is_lost is_corrupted
returns-then-rolls-self c = simp c.if-rolls-self.true

pub returns-then-rolls-self-2 : goal.returns-then-rolls-self-2
unfolding is_lost is_corrupted
returns-then-rolls-self-2 c = simp (c.if-rolls-self.false, c.if-rolls-self-2.true)

pub returns : goal.returns
unfolding is_lost is_corrupted
returns c = simp (c.if-rolls-self.false, c.if-rolls-self-2.false)
