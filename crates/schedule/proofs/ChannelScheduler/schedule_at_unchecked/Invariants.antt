use mathlib.Core.Path.{◌≡◌}
use Rattle.schedule.specs.State.{schedule}
use Rattle.schedule.proofs.Calls.{put_first}
use Rattle.schedule.proofs.ChannelScheduler.schedule_at_unchecked.Given as goal

abbrev pub invariant-loop-k : goal.invariant-loop-k
invariant-loop-k l = schedule l.records l.places l.scheduler ≡ put_first (schedule l.initial.records l.initial.places l.initial.scheduler) l.now l.packet l.deliveries l.k
