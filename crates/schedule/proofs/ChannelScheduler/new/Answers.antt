use native.Mathlib.Omega.{arith}
use mathlib.Core.Path.{sym}
use Prim.Native.Nat.{◌*◌, ◌/◌}
use lib.ListN.{length}
use lib.Seq.{length-take-le}
use Rattle.schedule.proofs.Calls.{new_law}
use Rattle.schedule.proofs.ChannelScheduler.new.Goals as goal

pub slice_bounds-clear-end-2 : goal.slice_bounds-clear-end-2
slice_bounds-clear-end-2 c = let ps = c.args.places.now in
    sym (length-take-le (length ps / 1410 * 1410) ps (omega arith))

pub returns : goal.returns
returns c = let a = c.args in
    new_law a.records.now a.places.now c.clear_records.ensures c.clear.ensures
