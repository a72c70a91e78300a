use Prim.Native.Nat.{◌*◌}
use Rattle.schedule.proofs.Lists.{two_parts}
use Rattle.schedule.proofs.Clearing.{fill_part}
use Rattle.schedule.proofs.places.fill_place.Goals as goal

pub returns-then-cleared : goal.returns-then-cleared
returns-then-cleared c = let a = c.args in
    fill_part a.places.now a.packet.now c.copy_unchecked.new.dst (a.place * 1410) c.requires.place_size_in_bounds.0 c.requires.place_size_in_bounds.1 (c.requires.zeros_from c.if-cleared.true) c.copy_unchecked.ensures

pub returns : goal.returns
returns c = let a = c.args in
    two_parts a.places.now a.packet.now c.copy_unchecked.new.dst c.clear.new.dst (a.place * 1410) c.requires.place_size_in_bounds.0 c.requires.place_size_in_bounds.1 c.copy_unchecked.ensures c.clear.ensures
