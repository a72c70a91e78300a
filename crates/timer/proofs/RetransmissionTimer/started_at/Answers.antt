use Rattle.std.proofs.Common.{sym, ◌∙◌}
use Rattle.timer.specs.Timer.{started_at_unchecked, started_at}
use Rattle.timer.proofs.Checks.{time_check}
use Rattle.timer.proofs.RetransmissionTimer.started_at.Goals as goal

pub returns-then-start_too_late : goal.returns-then-start_too_late
unfolding started_at
returns-then-start_too_late c = simp (time_check, sym c.start_too_late.ensures, c.if-start_too_late.true)

pub started_at_unchecked-t-requires : goal.started_at_unchecked-t-requires
started_at_unchecked-t-requires c = sym c.start_too_late.ensures ∙ c.if-start_too_late.false

pub returns : goal.returns
unfolding started_at started_at_unchecked
returns c = simp (time_check, sym c.start_too_late.ensures, c.if-start_too_late.false, c.started_at_unchecked-t.ensures)
