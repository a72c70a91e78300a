use Rattle.std.proofs.Common.{arith, refl}
use Rattle.timer.specs.Timer.{deadline_too_late, started_at_unchecked}
use Rattle.duration.proofs.Laws.{start_in_time}
use Rattle.timer.proofs.RetransmissionTimer.started_at_unchecked.Goals as goal

pub overflow_add-result : goal.overflow_add-result
overflow_add-result c = omega (arith, start_in_time (deadline_too_late c.args.self.deadline) c.args.now c.args.duration c.requires)

pub returns : goal.returns
unfolding started_at_unchecked
returns c = refl
