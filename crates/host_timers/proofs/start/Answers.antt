use borrow.Author.Tests.{lt-ltb, le-ltb}
use Rattle.host_timers.proofs.start.Goals as goal

pub returns-then-key-gt-MAX_U32 : goal.returns-then-key-gt-MAX_U32
returns-then-key-gt-MAX_U32 c = rw (lt-ltb _ _ c.if-key-gt-MAX_U32.true, c.start_wide.ensures)

pub returns : goal.returns
returns c = rw (le-ltb _ _ c.if-key-gt-MAX_U32.false) c.start_key.ensures
