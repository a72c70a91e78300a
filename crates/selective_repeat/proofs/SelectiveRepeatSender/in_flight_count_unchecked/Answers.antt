use mathlib.Core.Bool.{true}
use native.Mathlib.Omega.{arith}
use Rattle.window.proofs.Laws.{sound}
use Rattle.selective_repeat.proofs.SelectiveRepeatSender.in_flight_count_unchecked.Goals as goal

pub overflow_sub-outstanding : goal.overflow_sub-outstanding
overflow_sub-outstanding c = (sound true c.args.self.window c.args.store.now c.requires).ordered

pub marked_count_unchecked-requires : goal.marked_count_unchecked-requires
marked_count_unchecked-requires c = let s = sound true c.args.self.window c.args.store.now c.requires in let few = s.few in let small = s.small in (s.positive, s.room, omega arith)
