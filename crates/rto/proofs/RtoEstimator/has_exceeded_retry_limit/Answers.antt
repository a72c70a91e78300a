use Rattle.std.proofs.Common.{Err, sym, ap, ◌∙◌}
use Rattle.std.proofs.lemmas.Result.{err_from_is_err_and}
use Rattle.refusal.proofs.Laws.{on_accepted, on_refused}
use Rattle.rto.specs.Rto.{held_too_long, has_exceeded_retry_limit}
use Rattle.rto.proofs.Checks.{verdict_on}
use Rattle.rto.proofs.RtoEstimator.has_exceeded_retry_limit.Goals as goal

pub returns-in_err-call_verdict : goal.returns-in_err-call_verdict
unfolding has_exceeded_retry_limit
returns-in_err-call_verdict c =
    let p = err_from_is_err_and c.from_residual.result c.from_residual.ensures.1 in
    p.1 ∙ ap Err p.2 ∙ sym (on_refused _ _ (sym (verdict_on c.args.self (held_too_long c.args.self) c.call_verdict.ensures c.state_broken.ensures c.counts_full.ensures c.held_too_long.ensures) ∙ c.in_err-call_verdict.was))

pub returns : goal.returns
unfolding has_exceeded_retry_limit
returns c = sym (on_accepted _ _ (sym (verdict_on c.args.self (held_too_long c.args.self) c.call_verdict.ensures c.state_broken.ensures c.counts_full.ensures c.held_too_long.ensures) ∙ c.in_ok-call_verdict.was))
