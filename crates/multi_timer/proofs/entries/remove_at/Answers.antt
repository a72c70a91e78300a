use Rattle.std.proofs.Common.{le_trans, le_of_lt}
use Rattle.multi_timer.proofs.Places.{removed_back}
use Rattle.multi_timer.proofs.entries.remove_at.Goals as goal

pub returns : goal.returns
returns c = let e = c.remove_first.ensures in
    (removed_back c.args.i c.args.keys.now c.args.count _ (le_trans (le_of_lt c.requires.0) c.requires.1) e.0, removed_back c.args.i c.args.deadlines.now c.args.count _ (le_trans (le_of_lt c.requires.0) c.requires.2) e.1)
