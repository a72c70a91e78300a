use Rattle.std.proofs.Common.{sym}
use Rattle.multi_timer.proofs.checks.start_too_late.Goals as goal

pub returns-then-any_late : goal.returns-then-any_late
returns-then-any_late c = simp (sym c.any_late.ensures, c.if-any_late.true)

pub returns : goal.returns
returns c = simp (sym c.any_late.ensures, c.if-any_late.false, c.start_late.ensures)
