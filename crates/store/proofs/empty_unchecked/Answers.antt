use Rattle.store.proofs.Write.{slot_emptied}
use Rattle.store.proofs.empty_unchecked.Goals as goal

pub returns : goal.returns
returns c = let u = c.used_unchecked.ensures in
    slot_emptied c.args.store.now c.args.slot c.requires.slot_in _ u.0 u.1 c.clear.new.dst c.clear.ensures
