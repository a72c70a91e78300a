use Rattle.std.proofs.Common.{zero-le}
use Rattle.multi_timer.proofs.Changes.{cleared_all, count_fits, count_fits_deadlines}
use Rattle.multi_timer.proofs.MultiTimer.clear_unchecked.Goals as goal

pub clear_keys_in-requires : goal.clear_keys_in-requires
clear_keys_in-requires c = (zero-le, count_fits c.args.self c.args.keys.now c.args.deadlines.now c.requires)

pub clear_deadlines_in-requires : goal.clear_deadlines_in-requires
clear_deadlines_in-requires c = (zero-le, count_fits_deadlines c.args.self c.args.keys.now c.args.deadlines.now c.requires)

pub returns : goal.returns
returns c = cleared_all c.args.self c.args.keys.now c.args.deadlines.now c.requires _ _ c.clear_keys_in.ensures c.clear_deadlines_in.ensures
