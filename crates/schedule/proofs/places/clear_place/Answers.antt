use Prim.Native.Nat.{◌*◌}
use Rattle.schedule.proofs.Clearing.{clear_part}
use Rattle.schedule.proofs.places.clear_place.Goals as goal

pub returns : goal.returns
returns c = clear_part c.args.places.now c.clear.new.dst (c.args.place * 1410) c.args.len c.requires.0 c.requires.1 c.requires.2 c.clear.ensures
