use Rattle.std.proofs.Common.{sym, refl, ◌∙◌, arith}
use Rattle.multi_timer.proofs.Changes.{place_at, cancelled_at, cancelled_absent, count_fits, count_fits_deadlines, keys_in_order}
use Rattle.multi_timer.proofs.MultiTimer.cancel_timer_unchecked.Goals as goal

pub search-position-requires : goal.search-position-requires
search-position-requires c = keys_in_order c.args.self c.args.keys.now c.args.deadlines.now c.requires

pub remove_at-requires : goal.remove_at-requires
remove_at-requires c = (place_at c.args.self c.args.keys.now c.args.deadlines.now c.requires c.args.key _ (sym c.in-Ok.is ∙ c.search-position.ensures), count_fits c.args.self c.args.keys.now c.args.deadlines.now c.requires, count_fits_deadlines c.args.self c.args.keys.now c.args.deadlines.now c.requires)

pub overflow_sub-result : goal.overflow_sub-result
overflow_sub-result c = omega (arith, place_at c.args.self c.args.keys.now c.args.deadlines.now c.requires c.args.key _ (sym c.in-Ok.is ∙ c.search-position.ensures))

pub returns-in-Ok : goal.returns-in-Ok
returns-in-Ok c = let e = c.remove_at.ensures in cancelled_at c.args.self c.args.keys.now c.args.deadlines.now c.requires c.args.key _ _ _ _ (sym c.in-Ok.is ∙ c.search-position.ensures) refl e.0 e.1

pub returns-in-Err : goal.returns-in-Err
returns-in-Err c = cancelled_absent c.args.self c.args.keys.now c.args.deadlines.now c.requires c.args.key _ (sym c.in-Err.is ∙ c.search-position.ensures)
