use mathlib.Core.Path.{◌∙◌}
use denote.Floats.{passes}
use native.Mathlib.Omega.{arith}
use Rattle.step.specs.State.{given, lent}
use Rattle.transfer.proofs.Starts.{transfer_refused, can_make, start_size, start_total, good_plan, good_run, transfer_runs}
use Rattle.transfer.proofs.run_transfer.Goals as goal

pub chunk_count_unchecked-total-requires : goal.chunk_count_unchecked-total-requires
chunk_count_unchecked-total-requires c = start_size c.args.config (given c.args.file.now c.args.forward_rolls.now c.args.reverse_rolls.now) (lent c.args.sender_store.now c.args.receiver_store.now c.args.output.now c.args.rows.now c.args.events.now c.args.forward_records.now c.args.forward_places.now c.args.reverse_records.now c.args.reverse_places.now c.args.keys.now c.args.deadlines.now) c.start_verdict-verdict.ensures.0 c.in-Ok.is

pub overflow_cast-total : goal.overflow_cast-total
overflow_cast-total c = let few = start_total c.args.config (given c.args.file.now c.args.forward_rolls.now c.args.reverse_rolls.now) (lent c.args.sender_store.now c.args.receiver_store.now c.args.output.now c.args.rows.now c.args.events.now c.args.forward_records.now c.args.forward_places.now c.args.reverse_records.now c.args.reverse_places.now c.args.keys.now c.args.deadlines.now) c.start_verdict-verdict.ensures.0 c.in-Ok.is c.chunk_count_unchecked-total.ensures in omega (arith, few)

pub new_state_unchecked-state-requires : goal.new_state_unchecked-state-requires
new_state_unchecked-state-requires c = can_make c.args.config (given c.args.file.now c.args.forward_rolls.now c.args.reverse_rolls.now) (lent c.args.sender_store.now c.args.receiver_store.now c.args.output.now c.args.rows.now c.args.events.now c.args.forward_records.now c.args.forward_places.now c.args.reverse_records.now c.args.reverse_places.now c.args.keys.now c.args.deadlines.now) c.start_verdict-verdict.ensures.0 c.in-Ok.is c.default_ceilings-ceilings.ensures

pub run_unchecked-last-requires : goal.run_unchecked-last-requires
run_unchecked-last-requires c = record { good_plan = good_plan c.args.config (given c.args.file.now c.args.forward_rolls.now c.args.reverse_rolls.now) (lent c.args.sender_store.now c.args.receiver_store.now c.args.output.now c.args.rows.now c.args.events.now c.args.forward_records.now c.args.forward_places.now c.args.reverse_records.now c.args.reverse_places.now c.args.keys.now c.args.deadlines.now) c.start_verdict-verdict.ensures.0 c.in-Ok.is c.default_ceilings-ceilings.ensures c.chunk_count_unchecked-total.ensures c.plan_of-plan.ensures (c.new_state_unchecked-state.ensures c.args.output.now); good_run = good_run c.args.config (given c.args.file.now c.args.forward_rolls.now c.args.reverse_rolls.now) (lent c.args.sender_store.now c.args.receiver_store.now c.args.output.now c.args.rows.now c.args.events.now c.args.forward_records.now c.args.forward_places.now c.args.reverse_records.now c.args.reverse_places.now c.args.keys.now c.args.deadlines.now) c.start_verdict-verdict.ensures.0 c.in-Ok.is c.default_ceilings-ceilings.ensures c.chunk_count_unchecked-total.ensures c.plan_of-plan.ensures (c.new_state_unchecked-state.ensures c.args.output.now) c.start_verdict-verdict.ensures.1 c.start_verdict-verdict.ensures.2 (record { alpha = passes _ c.well_formed.0.1.1.1.1.1.1.1.0.1.1.1.1.1.1.0.1; beta = passes _ c.well_formed.0.1.1.1.1.1.1.1.0.1.1.1.1.1.1.1.0.1; k = passes _ c.well_formed.0.1.1.1.1.1.1.1.0.1.1.1.1.1.1.1.1.0.1; multiplier = passes _ c.well_formed.0.1.1.1.1.1.1.1.0.1.1.1.1.1.1.1.1.1.0.1 }) }

pub returns-in-Err : goal.returns-in-Err
returns-in-Err c = transfer_refused c.args.config (given c.args.file.now c.args.forward_rolls.now c.args.reverse_rolls.now) (lent c.args.sender_store.now c.args.receiver_store.now c.args.output.now c.args.rows.now c.args.events.now c.args.forward_records.now c.args.forward_places.now c.args.reverse_records.now c.args.reverse_places.now c.args.keys.now c.args.deadlines.now) c.start_verdict-verdict.ensures.0 c.in-Err.is

pub shape_of-sender_store-in-Ok : goal.shape_of-sender_store-in-Ok
shape_of-sender_store-in-Ok c = c.run_unchecked-last.auto.sender_store ∙ c.new_state_unchecked-state.auto.sender_store

pub shape_of-receiver_store-in-Ok : goal.shape_of-receiver_store-in-Ok
shape_of-receiver_store-in-Ok c = c.run_unchecked-last.auto.receiver_store ∙ c.new_state_unchecked-state.auto.receiver_store

pub shape_of-output-in-Ok : goal.shape_of-output-in-Ok
shape_of-output-in-Ok c = c.run_unchecked-last.auto.output

pub shape_of-rows-in-Ok : goal.shape_of-rows-in-Ok
shape_of-rows-in-Ok c = c.run_unchecked-last.auto.rows ∙ c.new_state_unchecked-state.auto.rows

pub shape_of-events : goal.shape_of-events
shape_of-events c = c.run_unchecked-last.auto.events ∙ c.new_state_unchecked-state.auto.events

pub shape_of-forward_records : goal.shape_of-forward_records
shape_of-forward_records c = c.run_unchecked-last.auto.forward_records ∙ c.new_state_unchecked-state.auto.forward_records

pub shape_of-forward_places : goal.shape_of-forward_places
shape_of-forward_places c = c.run_unchecked-last.auto.forward_places ∙ c.new_state_unchecked-state.auto.forward_places

pub shape_of-reverse_records : goal.shape_of-reverse_records
shape_of-reverse_records c = c.run_unchecked-last.auto.reverse_records ∙ c.new_state_unchecked-state.auto.reverse_records

pub shape_of-reverse_places : goal.shape_of-reverse_places
shape_of-reverse_places c = c.run_unchecked-last.auto.reverse_places ∙ c.new_state_unchecked-state.auto.reverse_places

pub shape_of-keys-in-Ok : goal.shape_of-keys-in-Ok
shape_of-keys-in-Ok c = c.run_unchecked-last.auto.keys ∙ c.new_state_unchecked-state.auto.keys

pub shape_of-deadlines-in-Ok : goal.shape_of-deadlines-in-Ok
shape_of-deadlines-in-Ok c = c.run_unchecked-last.auto.deadlines ∙ c.new_state_unchecked-state.auto.deadlines

pub returns-in-Ok : goal.returns-in-Ok
returns-in-Ok c = transfer_runs c.args.config (given c.args.file.now c.args.forward_rolls.now c.args.reverse_rolls.now) (lent c.args.sender_store.now c.args.receiver_store.now c.args.output.now c.args.rows.now c.args.events.now c.args.forward_records.now c.args.forward_places.now c.args.reverse_records.now c.args.reverse_places.now c.args.keys.now c.args.deadlines.now) c.start_verdict-verdict.ensures.0 c.in-Ok.is c.default_ceilings-ceilings.ensures c.chunk_count_unchecked-total.ensures c.plan_of-plan.ensures (c.new_state_unchecked-state.ensures c.args.output.now) c.run_unchecked-last.ensures (c.outcome_of-outcome.ensures (lent c.args.sender_store.now c.args.receiver_store.now c.args.output.now c.args.rows.now c.args.events.now c.args.forward_records.now c.args.forward_places.now c.args.reverse_records.now c.args.reverse_places.now c.args.keys.now c.args.deadlines.now))
