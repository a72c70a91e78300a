use native.Mathlib.Omega.{arith}
use mathlib.Core.Path.{refl, sym}
use Prim.Native.Nat.{◌*◌, ◌/◌}
use lib.ListN.{length, replicate}
use lib.Seq.{length-take-le}
use Rattle.schedule.specs.Record.{vacant}
use Rattle.schedule.proofs.Calls.{new_law}
use Rattle.schedule.proofs.OwnedSchedule.new.Goals as goal

pub slice_bounds-clear-end-2 : goal.slice_bounds-clear-end-2
slice_bounds-clear-end-2 c = let ps = c.args.places.now in
    sym (length-take-le (length ps / 1410 * 1410) ps (omega arith))

pub returns : goal.returns
returns c = let a = c.args in
    new_law (replicate 8 vacant) a.places.now refl c.clear.ensures
