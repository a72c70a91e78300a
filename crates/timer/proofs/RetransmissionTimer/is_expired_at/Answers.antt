use Rattle.std.proofs.Common.{sym, ◌∙◌}
use Rattle.timer.specs.Timer.{is_expired_at}
use Rattle.timer.proofs.Checks.{time_check}
use Rattle.timer.proofs.RetransmissionTimer.is_expired_at.Goals as goal

pub returns-then-read_too_late : goal.returns-then-read_too_late
unfolding is_expired_at
returns-then-read_too_late c = simp (time_check, sym c.read_too_late.ensures, c.if-read_too_late.true)

pub is_expired_at_unchecked-requires : goal.is_expired_at_unchecked-requires
is_expired_at_unchecked-requires c = sym c.read_too_late.ensures ∙ c.if-read_too_late.false

pub returns : goal.returns
unfolding is_expired_at
returns c = simp (time_check, sym c.read_too_late.ensures, c.if-read_too_late.false, c.is_expired_at_unchecked.ensures)
