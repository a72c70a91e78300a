use Rattle.std.proofs.Common.{le-ltb, lt-ltb}
use Rattle.duration.proofs.start_late.Goals as goal

pub returns-then-now-gt-MAX_TIME : goal.returns-then-now-gt-MAX_TIME
returns-then-now-gt-MAX_TIME c = simp (lt-ltb _ _ c.if-now-gt-MAX_TIME.true)

pub returns-then-duration-gt-MAX_DURATION : goal.returns-then-duration-gt-MAX_DURATION
returns-then-duration-gt-MAX_DURATION c = simp (le-ltb _ _ c.if-now-gt-MAX_TIME.false, lt-ltb _ _ c.if-duration-gt-MAX_DURATION.true)

pub returns : goal.returns
returns c = simp (le-ltb _ _ c.if-now-gt-MAX_TIME.false, le-ltb _ _ c.if-duration-gt-MAX_DURATION.false)
