use Rattle.std.proofs.Common.{sym}
use Rattle.timer.proofs.read_too_late.Goals as goal

pub returns-then-deadline_too_late : goal.returns-then-deadline_too_late
returns-then-deadline_too_late c = simp (sym c.deadline_too_late.ensures, c.if-deadline_too_late.true)

pub returns : goal.returns
returns c = simp (sym c.deadline_too_late.ensures, c.if-deadline_too_late.false)
