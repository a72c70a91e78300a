use Rattle.std.proofs.Common.{Ok, Err, sym, ap, ◌∙◌}
use Rattle.std.proofs.lemmas.Result.{err_from_is_err_and}
use Rattle.refusal.proofs.Laws.{on_accepted, on_refused}
use Rattle.rto.specs.Rto.{held_too_long, mean_rtt_ms}
use Rattle.rto.proofs.Checks.{verdict_on}
use Rattle.rto.proofs.RtoEstimator.mean_rtt_ms.Goals as goal

pub returns-in_err-call_verdict : goal.returns-in_err-call_verdict
unfolding mean_rtt_ms
returns-in_err-call_verdict c =
    let p = err_from_is_err_and c.from_residual.result c.from_residual.ensures.1 in
    p.1 ∙ ap Err p.2 ∙ sym (on_refused _ _ (sym (verdict_on c.args.self (held_too_long c.args.self) c.call_verdict.ensures c.state_broken.ensures c.counts_full.ensures c.held_too_long.ensures) ∙ c.in_err-call_verdict.was))

pub returns : goal.returns
unfolding mean_rtt_ms
returns c = ap Ok c.mean_rtt_ms_unchecked.ensures ∙ sym (on_accepted _ _ (sym (verdict_on c.args.self (held_too_long c.args.self) c.call_verdict.ensures c.state_broken.ensures c.counts_full.ensures c.held_too_long.ensures) ∙ c.in_ok-call_verdict.was))
