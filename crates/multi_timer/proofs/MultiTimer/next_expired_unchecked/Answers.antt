use Rattle.std.proofs.Common.{ℕ, ap, ◌∙◌}
use Rattle.multi_timer.specs.Internal.{index_of, next_due}
use Rattle.multi_timer.proofs.Changes.{count_fits, count_fits_deadlines, keys_in_order}
use Rattle.multi_timer.proofs.DueKeys.{next_expired}
use Rattle.multi_timer.proofs.MultiTimer.next_expired_unchecked.Goals as goal

pub search-position-requires : goal.search-position-requires
search-position-requires c = keys_in_order c.args.self c.args.keys.now c.args.deadlines.now c.requires

pub next_due-requires : goal.next_due-requires
next_due-requires c = (count_fits c.args.self c.args.keys.now c.args.deadlines.now c.requires, count_fits_deadlines c.args.self c.args.keys.now c.args.deadlines.now c.requires)

pub returns : goal.returns
returns c = let p = c.position_index-i.ensures ∙ ap index_of c.search-position.ensures in
    c.next_due.ensures ∙ ap (λ (i : ℕ). next_due c.args.self.count i c.args.time c.args.keys.now c.args.deadlines.now) p ∙ next_expired c.args.self c.args.keys.now c.args.deadlines.now c.args.from c.args.time c.requires
