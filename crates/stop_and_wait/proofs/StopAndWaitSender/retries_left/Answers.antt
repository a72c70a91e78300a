use borrow.Author.Tests.{lt-ltb, le-ltb}
use Rattle.stop_and_wait.proofs.StopAndWaitSender.retries_left.Goals as goal

pub returns-then-self : goal.returns-then-self
returns-then-self c = simp (lt-ltb _ _ c.if-self.true)

pub returns-else-self : goal.returns-else-self
returns-else-self c = simp (le-ltb _ _ c.if-self.false)
