use mathlib.Core.Bool.{false≢true}
use mathlib.Core.Path.{◌∙◌, ap, subst}
use native.Mathlib.Omega.{arith}
use Prim.Native.Nat.{ℕ, ◌<◌}
use mathlib.Core.List.{List}
use lib.ListN.{take}
use Rattle.schedule.specs.Record.{lowest_free}
use Rattle.schedule.specs.State.{place_count}
use Rattle.schedule.specs.Structs.{owned_schedule}
use Rattle.schedule.proofs.Memory.{within, in_order_lem, inside, single, short, slot, some_free, place_inside}
use Rattle.schedule.proofs.Calls.{put_law}
use Rattle.schedule.proofs.OwnedRecords.{owned_rows}
use Rattle.schedule.proofs.OwnedSchedule.put.Goals as goal

pub lowest_free-place-requires : goal.lowest_free-place-requires
lowest_free-place-requires c = let m = owned_schedule c.args.self c.args.places.now in
    rw c.packed_all-rows.ensures (within m c.requires.sound, some_free m c.args.packet.now c.requires, inside m c.requires.sound, single m c.requires.sound)

pub fill_place-requires : goal.fill_place-requires
fill_place-requires c = let m = owned_schedule c.args.self c.args.places.now in record { place_size_in_bounds = (rw (c.lowest_free-place.ensures, c.packed_all-rows.ensures) (place_inside m c.args.packet.now c.requires), short m c.args.packet.now c.requires); zeros_from = λ e. absurd (false≢true e) }

pub inserted-next-requires : goal.inserted-next-requires
inserted-next-requires c = let m = owned_schedule c.args.self c.args.places.now in
    (subst (λ (n : ℕ). c.args.self.scheduler.count < n) (owned_rows c.args.self _ c.well_formed.0) (slot m c.args.packet.now c.requires), in_order_lem m c.requires.sound)

pub overflow_add-result : goal.overflow_add-result
overflow_add-result c = let m = owned_schedule c.args.self c.args.places.now in
    omega (arith, slot m c.args.packet.now c.requires, owned_rows c.args.self _ c.well_formed.0)

pub returns : goal.returns
returns c = let m = owned_schedule c.args.self c.args.places.now in
    put_law m.records m.places m.scheduler c.args.time c.args.packet.now
    (c.lowest_free-place.ensures ∙ ap (λ (rs : List (List ℕ)). lowest_free (place_count m) (take c.args.self.scheduler.count rs)) c.packed_all-rows.ensures)
    c.fill_place.ensures c.inserted-next.ensures
