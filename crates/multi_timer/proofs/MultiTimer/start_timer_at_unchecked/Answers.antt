use Rattle.std.proofs.Common.{sym, ◌∙◌, lt_of_lt_of_le, arith}
use Rattle.multi_timer.proofs.Changes.{started_at, started_absent, place_at, place_absent, unused, unused_deadline, count_fits_deadlines, keys_in_order}
use Rattle.multi_timer.proofs.MultiTimer.start_timer_at_unchecked.Goals as goal

pub search-position-requires : goal.search-position-requires
search-position-requires c = keys_in_order c.args.self c.args.keys.now c.args.deadlines.now c.requires.0

pub set_deadline-requires : goal.set_deadline-requires
set_deadline-requires c = lt_of_lt_of_le (place_at c.args.self c.args.keys.now c.args.deadlines.now c.requires.0 c.args.key _ (sym c.in-Ok.is ∙ c.search-position.ensures)) (count_fits_deadlines c.args.self c.args.keys.now c.args.deadlines.now c.requires.0)

pub insert_at-requires : goal.insert_at-requires
insert_at-requires c = let e = (sym c.in-Err.is ∙ c.search-position.ensures) in (place_absent c.args.self c.args.keys.now c.args.deadlines.now c.requires.0 c.args.key _ e, unused c.args.self c.args.keys.now c.args.deadlines.now c.requires.0 c.args.key _ e c.requires.1, unused_deadline c.args.self c.args.keys.now c.args.deadlines.now c.requires.0 c.args.key _ e c.requires.1)

pub overflow_add-result : goal.overflow_add-result
overflow_add-result c = omega (arith, unused c.args.self c.args.keys.now c.args.deadlines.now c.requires.0 c.args.key _ (sym c.in-Err.is ∙ c.search-position.ensures) c.requires.1)

pub returns-in-Ok : goal.returns-in-Ok
returns-in-Ok c = started_at c.args.self c.args.keys.now c.args.deadlines.now c.requires.0 c.args.key c.args.deadline _ _ _ (sym c.in-Ok.is ∙ c.search-position.ensures) c.wrapping_add_u64-next.ensures.value c.set_deadline.ensures

pub returns-in-Err : goal.returns-in-Err
returns-in-Err c = let e = c.insert_at.ensures in started_absent c.args.self c.args.keys.now c.args.deadlines.now c.requires.0 c.args.key c.args.deadline _ _ _ _ (sym c.in-Err.is ∙ c.search-position.ensures) c.wrapping_add_u64-next.ensures.value e.0 e.1
