use Rattle.std.proofs.Common.{sym, ap, ◌∙◌}
use Rattle.refusal.proofs.Laws.{on_accepted, on_refused}
use Rattle.rto.specs.declared.RtoEstimator.{RtoEstimator}
use Rattle.rto.specs.Rto.{held_too_long, reset_result, reset_backoff}
use Rattle.rto.proofs.Checks.{verdict_on}
use Rattle.rto.proofs.RtoEstimator.reset_backoff.Goals as goal
use Rattle.refusal.specs.Order.{passed}

pub returns-in-Err : goal.returns-in-Err
unfolding reset_backoff
returns-in-Err c = sym (on_refused _ _ (sym (verdict_on c.args.self (held_too_long c.args.self) c.call_verdict.ensures c.state_broken.ensures c.counts_full.ensures c.held_too_long.ensures) ∙ c.in-Err.is))

pub returns-in-Ok : goal.returns-in-Ok
unfolding reset_backoff
returns-in-Ok c = ap (λ (x : RtoEstimator). reset_result x passed) c.reset_backoff_unchecked.ensures ∙ sym (on_accepted _ _ (sym (verdict_on c.args.self (held_too_long c.args.self) c.call_verdict.ensures c.state_broken.ensures c.counts_full.ensures c.held_too_long.ensures) ∙ c.in-Ok.is))
