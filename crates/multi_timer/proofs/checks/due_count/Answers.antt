use Rattle.std.proofs.Common.{take, leb, sym, ap, ◌∙◌}
use Rattle.std.specs.List.{count_by}
use lib.Seq.{take_all}
use Rattle.multi_timer.proofs.Changes.{due_counted}
use Rattle.multi_timer.proofs.checks.due_count.Goals as goal

pub returns : goal.returns
returns c = let l = c.loop-deadline in
    let ds = take c.args.count c.args.deadlines.now in
    l.invariant.1 ∙ ap (count_by (λ d. leb d c.args.time)) (take_all l.deadline-index ds c.loop-deadline-test.false) ∙ sym (due_counted c.args.time ds)
