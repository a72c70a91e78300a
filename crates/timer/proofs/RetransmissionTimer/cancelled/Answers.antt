use Rattle.std.proofs.Common.{sym, ◌∙◌}
use Rattle.timer.specs.Timer.{cancelled_unchecked, cancelled}
use Rattle.timer.proofs.Checks.{time_check}
use Rattle.timer.proofs.RetransmissionTimer.cancelled.Goals as goal

pub returns-then-deadline_too_late : goal.returns-then-deadline_too_late
unfolding cancelled
returns-then-deadline_too_late c = simp (time_check, sym c.deadline_too_late.ensures, c.if-deadline_too_late.true)

pub cancelled_unchecked-t-requires : goal.cancelled_unchecked-t-requires
cancelled_unchecked-t-requires c = sym c.deadline_too_late.ensures ∙ c.if-deadline_too_late.false

pub returns : goal.returns
unfolding cancelled cancelled_unchecked
returns c = simp (time_check, sym c.deadline_too_late.ensures, c.if-deadline_too_late.false, c.cancelled_unchecked-t.ensures)
