use mathlib.Core.Path.{◌∙◌, ap}
use native.Mathlib.Omega.{arith}
use Prim.Native.Nat.{ℕ, ◌+◌}
use mathlib.Core.List.{List, ◌++◌}
use lib.ListN.{take, drop}
use Rattle.schedule.specs.Record.{after, inserted}
use Rattle.schedule.specs.State.{schedule}
use Rattle.schedule.proofs.Memory.{within, in_order_lem, inside, single, short, slot, some_free, place_inside}
use Rattle.schedule.proofs.Calls.{put_law}
use Rattle.schedule.proofs.Clearing.{free_zeros}
use Rattle.schedule.proofs.ChannelScheduler.put.Goals as goal

pub lowest_free-place-requires : goal.lowest_free-place-requires
lowest_free-place-requires c = let m = schedule c.args.records.now c.args.places.now c.args.self in
    (within m c.requires.can_put.sound, some_free m c.args.packet.now c.requires.can_put, inside m c.requires.can_put.sound, single m c.requires.can_put.sound)

pub fill_place-requires : goal.fill_place-requires
fill_place-requires c = let m = schedule c.args.records.now c.args.places.now c.args.self in record { place_size_in_bounds = (rw c.lowest_free-place.ensures (place_inside m c.args.packet.now c.requires.can_put), short m c.args.packet.now c.requires.can_put); zeros_from = λ e. free_zeros m c.args.packet.now c.requires.can_put (c.requires.cleared e) c.lowest_free-place.ensures }

pub insert-requires : goal.insert-requires
insert-requires c = let m = schedule c.args.records.now c.args.places.now c.args.self in
    (slot m c.args.packet.now c.requires.can_put, in_order_lem m c.requires.can_put.sound)

pub overflow_add-result : goal.overflow_add-result
overflow_add-result c = let m = schedule c.args.records.now c.args.places.now c.args.self in
    omega (arith, slot m c.args.packet.now c.requires.can_put)

pub returns : goal.returns
returns c = let packed = c.packed.ensures in
    put_law c.args.records.now c.args.places.now c.args.self c.args.time c.args.packet.now c.lowest_free-place.ensures c.fill_place.ensures
    (c.insert.ensures ∙ ap (λ (r : List ℕ). inserted after r (take c.args.self.count c.args.records.now) ++ drop (c.args.self.count + 1) c.args.records.now) packed)
