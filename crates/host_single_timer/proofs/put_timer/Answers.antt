use Rattle.std.specs.Prelude.{ℕ, Option, None, Some, unwrap_or, is_some}
use Rattle.std.specs.Int.{from_bool}
use mathlib.Core.Path.{◌≡◌, refl}
use native.Mathlib.Omega.{arith}
use lib.ListN.{length-set}
use Rattle.host_single_timer.specs.SingleTimer.{is_set, time_of, with_timer}
use Rattle.host_single_timer.proofs.put_timer.Goals as goal

pub bounds-state-1 : goal.bounds-state-1
bounds-state-1 c = simp length-set (omega arith)

pub bounds-state-2 : goal.bounds-state-2
bounds-state-2 c = simp length-set (omega arith)

time_or_0 : (d : Option ℕ) → unwrap_or d 0 ≡ time_of d
time_or_0 None = refl
time_or_0 (Some d) = refl

set_or_0 : (d : Option ℕ) → from_bool (is_some d) ≡ is_set d
set_or_0 None = refl
set_or_0 (Some d) = refl

pub returns : goal.returns
unfolding with_timer
returns c = rw (c.from-set.ensures, c.is_some.ensures, set_or_0 c.args.t.deadline, c.unwrap_or-time.ensures, time_or_0 c.args.t.deadline)
