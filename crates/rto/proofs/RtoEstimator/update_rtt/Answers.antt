use Rattle.std.specs.Prelude.{Ok}
use Rattle.std.proofs.Common.{not, sym, ap, ◌∙◌}
use Rattle.refusal.proofs.Laws.{on_accepted, on_refused}
use Rattle.rto.specs.declared.RtoEstimator.{RtoEstimator}
use Rattle.rto.specs.Rto.{sample_too_long, update_result, update_rtt}
use Rattle.rto.proofs.Checks.{accepted_passes, verdict_on, sample_in_time}
use Rattle.rto.proofs.RtoEstimator.update_rtt.Goals as goal

pub update_rtt_unchecked-requires : goal.update_rtt_unchecked-requires
update_rtt_unchecked-requires c = let p = accepted_passes c.args.self (sample_too_long c.args.self c.args.sample) (sym (verdict_on c.args.self (sample_too_long c.args.self c.args.sample) c.call_verdict.ensures c.state_broken.ensures c.counts_full.ensures c.sample_too_long.ensures) ∙ c.in-Ok.is) in (p.state, p.counts, sample_in_time c.args.self c.args.sample p.times)

pub returns-in-Err : goal.returns-in-Err
unfolding update_rtt
returns-in-Err c = sym (on_refused _ _ (sym (verdict_on c.args.self (sample_too_long c.args.self c.args.sample) c.call_verdict.ensures c.state_broken.ensures c.counts_full.ensures c.sample_too_long.ensures) ∙ c.in-Err.is))

pub returns-in-Ok : goal.returns-in-Ok
unfolding update_rtt
returns-in-Ok c = ap (λ (x : RtoEstimator). update_result x (Ok (not c.args.is_retransmission))) c.update_rtt_unchecked.ensures ∙ sym (on_accepted _ _ (sym (verdict_on c.args.self (sample_too_long c.args.self c.args.sample) c.call_verdict.ensures c.state_broken.ensures c.counts_full.ensures c.sample_too_long.ensures) ∙ c.in-Ok.is))
