use Rattle.std.proofs.Common.{sym}
use Rattle.timer.specs.Timer.{remaining_at}
use Rattle.timer.proofs.Checks.{time_check}
use Rattle.timer.proofs.RetransmissionTimer.remaining_at.Goals as goal

pub returns-then-read_too_late : goal.returns-then-read_too_late
unfolding remaining_at
returns-then-read_too_late c = simp (time_check, sym c.read_too_late.ensures, c.if-read_too_late.true)

pub returns : goal.returns
unfolding remaining_at
returns c = simp (time_check, sym c.read_too_late.ensures, c.if-read_too_late.false, c.deadline_remaining.ensures)
