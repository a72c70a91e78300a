use Rattle.std.specs.Prelude.{Ok}
use Rattle.std.proofs.Common.{sym, ap, ◌∙◌}
use Rattle.refusal.proofs.Laws.{on_accepted, on_refused}
use Rattle.rto.specs.declared.RtoEstimator.{RtoEstimator}
use Rattle.rto.specs.Rto.{held_too_long, timeout_result, on_timeout}
use Rattle.rto.proofs.Checks.{accepted_passes, verdict_on, rto_in_time}
use Rattle.rto.proofs.RtoEstimator.on_timeout.Goals as goal

pub on_timeout_unchecked-e-requires : goal.on_timeout_unchecked-e-requires
on_timeout_unchecked-e-requires c = let p = accepted_passes c.args.self (held_too_long c.args.self) (sym (verdict_on c.args.self (held_too_long c.args.self) c.call_verdict.ensures c.state_broken.ensures c.counts_full.ensures c.held_too_long.ensures) ∙ c.in-Ok.is) in (p.counts, rto_in_time c.args.self p.times)

pub returns-in-Err : goal.returns-in-Err
unfolding on_timeout
returns-in-Err c = sym (on_refused _ _ (sym (verdict_on c.args.self (held_too_long c.args.self) c.call_verdict.ensures c.state_broken.ensures c.counts_full.ensures c.held_too_long.ensures) ∙ c.in-Err.is))

pub returns-in-Ok : goal.returns-in-Ok
unfolding on_timeout
returns-in-Ok c = ap (λ (x : RtoEstimator). timeout_result x (Ok x.current_rto)) c.on_timeout_unchecked-e.ensures ∙ sym (on_accepted _ _ (sym (verdict_on c.args.self (held_too_long c.args.self) c.call_verdict.ensures c.state_broken.ensures c.counts_full.ensures c.held_too_long.ensures) ∙ c.in-Ok.is))
