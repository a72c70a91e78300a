use Rattle.std.specs.Prelude.{Err}
use mathlib.Core.Path.{sym, ap, ◌∙◌}
use Rattle.std.proofs.lemmas.Result.{err_from_is_err_and}
use Rattle.refusal.proofs.Laws.{on_accepted, on_refused}
use Rattle.host_ends.specs.Receiver.{none_held}
use Rattle.host_ends.proofs.none_held.Goals as goal

pub returns : goal.returns
unfolding none_held
returns c = sym (on_accepted Err _ (sym c.held_verdict.ensures ∙ c.in_ok-held_verdict.was))

pub returns-in_err-held_verdict : goal.returns-in_err-held_verdict
unfolding none_held
returns-in_err-held_verdict c =
    let p = err_from_is_err_and c.from_residual.result c.from_residual.ensures.1 in
    p.1 ∙ ap Err p.2 ∙ sym (on_refused Err _ (sym c.held_verdict.ensures ∙ c.in_err-held_verdict.was))
