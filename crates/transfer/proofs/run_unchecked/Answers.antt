use mathlib.Core.Path.{◌∙◌}
use Rattle.transfer.proofs.Runs.{left_start, left_over, left_less, left_next}
use Rattle.transfer.proofs.run_unchecked.Goals as goal

pub loop-plan-init : goal.loop-plan-init
loop-plan-init c = left_start _ _ _ _ c.requires.good_run

pub step_unchecked-next-requires : goal.step_unchecked-next-requires
step_unchecked-next-requires c = record { good_plan = c.requires.good_plan; good_run = c.loop-plan.invariant.good }

pub shape_of-sender_store-then-over : goal.shape_of-sender_store-then-over
shape_of-sender_store-then-over c = c.step_unchecked-next.auto.sender_store ∙ c.loop-plan.invariant.same.sender

pub shape_of-receiver_store-then-over : goal.shape_of-receiver_store-then-over
shape_of-receiver_store-then-over c = c.step_unchecked-next.auto.receiver_store ∙ c.loop-plan.invariant.same.receiver

pub shape_of-output-then-over : goal.shape_of-output-then-over
shape_of-output-then-over c = c.step_unchecked-next.auto.output ∙ c.loop-plan.invariant.same.output

pub shape_of-rows-then-over : goal.shape_of-rows-then-over
shape_of-rows-then-over c = c.step_unchecked-next.auto.rows ∙ c.loop-plan.invariant.same.rows

pub shape_of-events-then-over : goal.shape_of-events-then-over
shape_of-events-then-over c = c.step_unchecked-next.auto.events ∙ c.loop-plan.invariant.same.events

pub shape_of-forward_records-then-over : goal.shape_of-forward_records-then-over
shape_of-forward_records-then-over c = c.step_unchecked-next.auto.forward_records ∙ c.loop-plan.invariant.same.forward

pub shape_of-forward_places-then-over : goal.shape_of-forward_places-then-over
shape_of-forward_places-then-over c = c.step_unchecked-next.auto.forward_places ∙ c.loop-plan.invariant.same.forward_places

pub shape_of-reverse_records-then-over : goal.shape_of-reverse_records-then-over
shape_of-reverse_records-then-over c = c.step_unchecked-next.auto.reverse_records ∙ c.loop-plan.invariant.same.reverse

pub shape_of-reverse_places-then-over : goal.shape_of-reverse_places-then-over
shape_of-reverse_places-then-over c = c.step_unchecked-next.auto.reverse_places ∙ c.loop-plan.invariant.same.reverse_places

pub shape_of-keys-then-over : goal.shape_of-keys-then-over
shape_of-keys-then-over c = c.step_unchecked-next.auto.keys ∙ c.loop-plan.invariant.same.keys

pub shape_of-deadlines-then-over : goal.shape_of-deadlines-then-over
shape_of-deadlines-then-over c = c.step_unchecked-next.auto.deadlines ∙ c.loop-plan.invariant.same.deadlines

pub returns-then-over : goal.returns-then-over
returns-then-over c = left_over c.loop-plan.invariant c.step_unchecked-next.ensures c.is_over-over.ensures c.if-over.true

pub loop-plan-smaller : goal.loop-plan-smaller
loop-plan-smaller c = left_less c.loop-plan.invariant c.step_unchecked-next.ensures c.is_over-over.ensures c.if-over.false

pub loop-plan-preserved : goal.loop-plan-preserved
loop-plan-preserved c = left_next c.loop-plan.invariant c.step_unchecked-next.ensures c.is_over-over.ensures c.if-over.false c.requires.good_plan (record { sender = c.step_unchecked-next.auto.sender_store ∙ c.loop-plan.invariant.same.sender; receiver = c.step_unchecked-next.auto.receiver_store ∙ c.loop-plan.invariant.same.receiver; output = c.step_unchecked-next.auto.output ∙ c.loop-plan.invariant.same.output; rows = c.step_unchecked-next.auto.rows ∙ c.loop-plan.invariant.same.rows; events = c.step_unchecked-next.auto.events ∙ c.loop-plan.invariant.same.events; forward = c.step_unchecked-next.auto.forward_records ∙ c.loop-plan.invariant.same.forward; forward_places = c.step_unchecked-next.auto.forward_places ∙ c.loop-plan.invariant.same.forward_places; reverse = c.step_unchecked-next.auto.reverse_records ∙ c.loop-plan.invariant.same.reverse; reverse_places = c.step_unchecked-next.auto.reverse_places ∙ c.loop-plan.invariant.same.reverse_places; keys = c.step_unchecked-next.auto.keys ∙ c.loop-plan.invariant.same.keys; deadlines = c.step_unchecked-next.auto.deadlines ∙ c.loop-plan.invariant.same.deadlines })
