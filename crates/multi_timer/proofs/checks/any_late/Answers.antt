use Rattle.std.proofs.Common.{ℕ, take, ltb, sym, ◌∙◌, rules, tests}
use Rattle.bounds.specs.Bounds.{max_time}
use Rattle.std.proofs.lemmas.Iterator.{YieldsList-from_slice}
use Rattle.std.proofs.lemmas.Iterator.Search.{any_from_yields_List}
use Rattle.multi_timer.proofs.Loops.{late_any}
use Rattle.multi_timer.proofs.checks.any_late.Goals as goal

pub returns : goal.returns
returns c =
    let ds = take c.args.count c.args.deadlines.now in
    any_from_yields_List (λ (d : ℕ). ltb max_time d) _ _ _ c.any.ensures.ran (YieldsList-from_slice ds cc) (λ x b q h. search (rules, tests)) ∙ sym (late_any ds)
