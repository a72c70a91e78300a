use Rattle.std.proofs.Common.{Err, sym, ap, ◌∙◌}
use Rattle.std.proofs.lemmas.Result.{err_from_is_err_and}
use Rattle.host_estimator.proofs.Calls.{exceeded_is, exceeded_refused}
use Rattle.host_estimator.proofs.exceeded.Goals as goal

pub returns-in_err-has_exceeded_retry_limit : goal.returns-in_err-has_exceeded_retry_limit
returns-in_err-has_exceeded_retry_limit c =
    let p = err_from_is_err_and c.from_residual.result c.from_residual.ensures.1 in
    p.1 ∙ ap Err p.2 ∙ exceeded_refused c.args.e c.args.max_retries (sym c.has_exceeded_retry_limit.ensures ∙ c.in_err-has_exceeded_retry_limit.was)

pub returns : goal.returns
returns c = exceeded_is c.args.e c.args.max_retries (sym c.has_exceeded_retry_limit.ensures ∙ c.in_ok-has_exceeded_retry_limit.was)
