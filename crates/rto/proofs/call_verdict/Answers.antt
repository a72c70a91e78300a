use Rattle.rto.proofs.Checks.{call_verdict_is}
use Rattle.rto.proofs.call_verdict.Goals as goal

pub returns-then-broken : goal.returns-then-broken
returns-then-broken c = simp (call_verdict_is, c.if-broken.true)

pub returns-then-full : goal.returns-then-full
returns-then-full c = simp (call_verdict_is, c.if-broken.false, c.if-full.true)

pub returns-then-late : goal.returns-then-late
returns-then-late c = simp (call_verdict_is, c.if-broken.false, c.if-full.false, c.if-late.true)

pub returns : goal.returns
returns c = simp (call_verdict_is, c.if-broken.false, c.if-full.false, c.if-late.false)
