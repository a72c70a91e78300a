use Rattle.std.specs.Prelude.{Err}
use Rattle.std.proofs.Common.{sym, ap, ◌∙◌}
use Rattle.std.proofs.lemmas.Result.{err_from_is_err_and}
use Rattle.refusal.proofs.Laws.{accepted_none_true}
use Rattle.multi_timer.specs.MultiTimer.{held_checks}
use Rattle.multi_timer.proofs.Calls.{earliest_accepted, earliest_refused}
use Rattle.multi_timer.proofs.MultiTimer.earliest_deadline.Goals as goal

pub earliest_deadline_unchecked-requires : goal.earliest_deadline_unchecked-requires
earliest_deadline_unchecked-requires c = let s = c.args in let n = accepted_none_true (held_checks s.self s.keys.now s.deadlines.now) (sym c.check_held.ensures ∙ c.in_ok-check_held.was) in n.0

pub returns-in_err-check_held : goal.returns-in_err-check_held
returns-in_err-check_held c =
    let s = c.args in
    let p = err_from_is_err_and c.from_residual.result c.from_residual.ensures.1 in
    p.1 ∙ ap Err p.2 ∙ sym (earliest_refused s.self s.keys.now s.deadlines.now (sym c.check_held.ensures ∙ c.in_err-check_held.was))

pub returns : goal.returns
returns c = let s = c.args in c.earliest_deadline_unchecked.ensures ∙ sym (earliest_accepted s.self s.keys.now s.deadlines.now (sym c.check_held.ensures ∙ c.in_ok-check_held.was))
