use Rattle.store.specs.Scans.{slot_outside}
use Rattle.store.proofs.slot_outside_unchecked.Goals as goal

pub returns : goal.returns
unfolding slot_outside
returns c = rw (c.length_unchecked-length.ensures, c.mark_unchecked-mark.ensures)
