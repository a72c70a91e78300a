use mathlib.Core.Path.{refl}
use Rattle.host_timers.specs.Timers.{with_timers}
use native.Mathlib.Omega.{arith}
use lib.ListN.{length-set}
use Rattle.host_timers.proofs.put_timers.Goals as goal

pub bounds-state-1 : goal.bounds-state-1
bounds-state-1 c = simp length-set (omega arith)

pub returns : goal.returns
unfolding with_timers
returns c = refl
