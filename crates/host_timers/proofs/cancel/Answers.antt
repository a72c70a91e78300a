use borrow.Author.Tests.{lt-ltb, le-ltb}
use Rattle.host_timers.proofs.cancel.Goals as goal

pub returns-then-key-gt-MAX_U32 : goal.returns-then-key-gt-MAX_U32
returns-then-key-gt-MAX_U32 c = rw (lt-ltb _ _ c.if-key-gt-MAX_U32.true, c.cancel_wide.ensures)

pub returns : goal.returns
returns c = rw (le-ltb _ _ c.if-key-gt-MAX_U32.false) c.cancel_key.ensures
