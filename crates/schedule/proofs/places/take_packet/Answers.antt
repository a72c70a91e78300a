use native.Mathlib.Omega.{arith}
use Prim.Native.Nat.{ℕ, ◌*◌}
use mathlib.Core.Path.{sym, ◌∙◌, ap}
use mathlib.Core.List.{List, ◌++◌}
use lib.ListN.{drop}
use lib.Seq.{length-take-le}
use Rattle.schedule.proofs.Clearing.{whole_place}
use Rattle.schedule.proofs.Lists.{part_is, part_length}
use Rattle.schedule.proofs.places.take_packet.Goals as goal

pub slice_bounds-copy_unchecked-end-3 : goal.slice_bounds-copy_unchecked-end-3
slice_bounds-copy_unchecked-end-3 c = let a = c.args in sym (length-take-le a.len a.out.now (omega arith))

pub copy_unchecked-requires : goal.copy_unchecked-requires
copy_unchecked-requires c = let a = c.args in
    part_length a.places.now (a.place * 1410) a.len (omega arith) ∙ sym (length-take-le a.len a.out.now (omega arith))

pub clear_place-requires : goal.clear_place-requires
clear_place-requires c = (c.requires.0, omega arith, whole_place c.args.places.now c.args.place)

pub returns : goal.returns
returns c = let a = c.args in (
  c.clear_place.ensures,
  ap (λ (xs : List ℕ). xs ++ drop a.len a.out.now) (c.copy_unchecked.ensures ∙ part_is a.places.now (a.place * 1410) a.len),
)
