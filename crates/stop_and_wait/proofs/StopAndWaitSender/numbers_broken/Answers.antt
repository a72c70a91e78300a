use Rattle.stop_and_wait.proofs.Senders.{broken_in_flight, broken_idle}
use Rattle.stop_and_wait.proofs.StopAndWaitSender.numbers_broken.Goals as goal

pub returns-then-self : goal.returns-then-self
returns-then-self c = broken_in_flight c.args.self c.if-self.true

pub returns-else-self : goal.returns-else-self
returns-else-self c = broken_idle c.args.self c.if-self.false
