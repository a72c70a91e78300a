use mathlib.Core.Path.{◌≡◌}
use Rattle.schedule.specs.Structs.{owned_schedule}
use Rattle.schedule.proofs.Calls.{put_first}
use Rattle.schedule.proofs.OwnedSchedule.schedule_at_unchecked.Given as goal

abbrev pub invariant-loop-k : goal.invariant-loop-k
invariant-loop-k l = owned_schedule l.schedule l.places ≡ put_first (owned_schedule l.initial.schedule l.initial.places) l.now l.packet l.deliveries l.k
