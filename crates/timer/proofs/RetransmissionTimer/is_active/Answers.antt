use Rattle.std.specs.Prelude.{ℕ, Option, Some, None}
use Rattle.std.proofs.Common.{◌≡◌, is_some, refl, sym}
use Rattle.timer.specs.Timer.{active, is_active}
use Rattle.timer.proofs.Checks.{time_check}
use Rattle.timer.proofs.RetransmissionTimer.is_active.Goals as goal

pub returns-then-deadline_too_late : goal.returns-then-deadline_too_late
unfolding is_active
returns-then-deadline_too_late c = simp (time_check, sym c.deadline_too_late.ensures, c.if-deadline_too_late.true)

set_is_active : (d : Option ℕ) → is_some d ≡ active d
set_is_active None = refl
set_is_active (Some d) = refl

pub returns : goal.returns
unfolding is_active
returns c = simp (time_check, sym c.deadline_too_late.ensures, c.if-deadline_too_late.false, c.is_some.ensures, set_is_active c.args.self.deadline)
