use Rattle.timeouts.proofs.Single.{fire_unbroken_sender, fire_can_back_off, fire_can_resend, fire_none, fire_some}
use Rattle.timeouts.proofs.timed_out.Goals as goal

pub handle_timeout_unchecked-timed_out-requires : goal.handle_timeout_unchecked-timed_out-requires
handle_timeout_unchecked-timed_out-requires c = fire_unbroken_sender c.requires

pub returns-then-count-eq0 : goal.returns-then-count-eq0
returns-then-count-eq0 c = fire_none c.requires c.args.max_retransmissions c.args.of c.handle_timeout_unchecked-timed_out.ensures.within c.handle_timeout_unchecked-timed_out.ensures.count_after c.if-count-eq0.true

pub on_timeout_unchecked-estimator-requires : goal.on_timeout_unchecked-estimator-requires
on_timeout_unchecked-estimator-requires c = fire_can_back_off c.requires

pub retransmit_from_unchecked-resent-requires : goal.retransmit_from_unchecked-resent-requires
retransmit_from_unchecked-resent-requires c = fire_can_resend c.requires c.args.of c.handle_timeout_unchecked-timed_out.ensures.within c.handle_timeout_unchecked-timed_out.ensures.count_after c.on_timeout_unchecked-estimator.ensures

pub shape_of-store : goal.shape_of-store
shape_of-store c = c.handle_timeout_unchecked-timed_out.auto.store

pub returns : goal.returns
returns c = fire_some c.requires c.args.max_retransmissions c.args.of c.handle_timeout_unchecked-timed_out.ensures.within c.handle_timeout_unchecked-timed_out.ensures.count_after c.if-count-eq0.false c.on_timeout_unchecked-estimator.ensures c.retransmit_from_unchecked-resent.ensures
