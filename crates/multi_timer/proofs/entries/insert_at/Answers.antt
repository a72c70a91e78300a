use Rattle.std.proofs.Common.{lt_of_le_of_lt, le_of_lt}
use Rattle.multi_timer.proofs.Places.{inserted_back}
use Rattle.multi_timer.proofs.entries.insert_at.Goals as goal

pub returns : goal.returns
returns c = let e = c.insert_first.ensures in (
  inserted_back c.args.i c.args.keys.now c.args.count c.args.key _ (le_of_lt (lt_of_le_of_lt c.requires.0 c.requires.1)) e.0,
  inserted_back c.args.i c.args.deadlines.now c.args.count c.args.deadline _ (le_of_lt (lt_of_le_of_lt c.requires.0 c.requires.2)) e.1,
)
