use Rattle.std.specs.Prelude.{Err}
use mathlib.Core.Path.{refl, ap, ◌∙◌}
use Rattle.std.proofs.lemmas.Result.{err_from_is_err_and}
use Rattle.schedule.specs.Schedule.{is_empty}
use Rattle.schedule.proofs.Calls.{answered_refused, answered}
use Rattle.schedule.proofs.ChannelScheduler.is_empty.Goals as goal

pub returns-in_err-read_verdict : goal.returns-in_err-read_verdict
unfolding is_empty
returns-in_err-read_verdict c =
    let p = err_from_is_err_and c.from_residual.result c.from_residual.ensures.1 in
    p.1 ∙ ap Err p.2 ∙ answered_refused _ _ c.read_verdict.ensures c.in_err-read_verdict.was

pub returns : goal.returns
unfolding is_empty
returns c = answered _ _ c.read_verdict.ensures c.in_ok-read_verdict.was refl
