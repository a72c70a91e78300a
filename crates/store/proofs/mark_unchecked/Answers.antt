use mathlib.Core.Path.{sym}
use lib.Dec.{lit<}
use Rattle.store.proofs.Laws.{slot_byte}
use Rattle.store.proofs.mark_unchecked.Goals as goal

pub returns : goal.returns
returns c = sym (slot_byte c.args.store.now c.args.slot 2 (lit< tt))
