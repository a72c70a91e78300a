use native.Mathlib.Omega.{arith}
use Rattle.channel.proofs.Limits.{counts_below, raised, raised_one, from_is}
use Rattle.channel.proofs.Carrying.{counted_law, granted_le}
use Rattle.channel.proofs.faults.counted.Goals as goal

pub overflow_add-result : goal.overflow_add-result
overflow_add-result c = omega (arith, (counts_below c.args.stats c.requires).seen)

pub overflow_add-result-2 : goal.overflow_add-result-2
overflow_add-result-2 c = raised_one c.is_lost.result (counts_below c.args.stats c.requires).lost (from_is c.is_lost.result c.from.ensures)

pub overflow_add-result-3 : goal.overflow_add-result-3
overflow_add-result-3 c = raised_one c.is_corrupted.result (counts_below c.args.stats c.requires).corrupted (from_is c.is_corrupted.result c.from-2.ensures)

pub overflow_add-result-4 : goal.overflow_add-result-4
overflow_add-result-4 c = raised_one c.is_duplicated.result (counts_below c.args.stats c.requires).duplicated (from_is c.is_duplicated.result c.from-3.ensures)

pub overflow_add-result-5 : goal.overflow_add-result-5
overflow_add-result-5 c = raised_one c.is_reordered.result (counts_below c.args.stats c.requires).reordered (from_is c.is_reordered.result c.from-4.ensures)

pub overflow_add-result-6 : goal.overflow_add-result-6
overflow_add-result-6 c = raised _ (counts_below c.args.stats c.requires).delivered c.granted.ensures (granted_le c.args.config c.args.rolls)

pub returns : goal.returns
returns c = let s = c.args in
    counted_law s.config s.rolls s.len s.stats c.is_lost.ensures (from_is c.is_lost.result c.from.ensures) c.is_corrupted.ensures (from_is c.is_corrupted.result c.from-2.ensures) c.is_duplicated.ensures (from_is c.is_duplicated.result c.from-3.ensures) c.is_reordered.ensures (from_is c.is_reordered.result c.from-4.ensures) c.granted.ensures
