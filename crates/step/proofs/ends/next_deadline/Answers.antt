use mathlib.Core.Path.{refl}
use Rattle.path.specs.Direction.{direction}
use Rattle.multi_timer.specs.MultiTimer.{timers_exit}
use Rattle.step.proofs.Settling.{next_law}
use Rattle.step.proofs.ends.next_deadline.Goals as goal

pub returns : goal.returns
returns c = λ fp rp. next_law c.args.timing (direction c.args.forward_records.now fp c.args.forward) (direction c.args.reverse_records.now rp c.args.reverse) (timers_exit c.args.clock c.args.keys.now c.args.deadlines.now) c.next_deadline_unchecked-a.ensures c.next_deadline_unchecked-b.ensures c.next_deadline_unchecked-c.ensures refl c.earlier.ensures refl c.earlier-2.ensures
