use Rattle.std.proofs.Common.{le-leb}
use borrow.Author.Tests.{lt-leb}
use Rattle.multi_timer.proofs.checks.start_full.Goals as goal

pub returns-then-count-keys : goal.returns-then-count-keys
returns-then-count-keys c = simp (lt-leb _ _ c.if-count-keys.true)

pub returns : goal.returns
returns c = simp (le-leb _ _ c.if-count-keys.false, c.has_key.ensures)
