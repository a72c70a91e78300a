use mathlib.Core.Path.{sym, ◌∙◌}
use Rattle.step.specs.State.{given, lent}
use Rattle.host_run.specs.Run.{results}
use Rattle.host_run.proofs.Ends.{on_config, on_setup_refused}
use Rattle.host_run.proofs.run.Goals as goal

pub shape_of-sender_store : goal.shape_of-sender_store
shape_of-sender_store c = c.run_with.auto.sender_store

pub shape_of-receiver_store : goal.shape_of-receiver_store
shape_of-receiver_store c = c.run_with.auto.receiver_store

pub shape_of-output : goal.shape_of-output
shape_of-output c = c.run_with.auto.output

pub shape_of-rows : goal.shape_of-rows
shape_of-rows c = c.run_with.auto.rows

pub shape_of-events : goal.shape_of-events
shape_of-events c = c.run_with.auto.events

pub shape_of-forward_records : goal.shape_of-forward_records
shape_of-forward_records c = c.run_with.auto.forward_records

pub shape_of-forward_places : goal.shape_of-forward_places
shape_of-forward_places c = c.run_with.auto.forward_places

pub shape_of-reverse_records : goal.shape_of-reverse_records
shape_of-reverse_records c = c.run_with.auto.reverse_records

pub shape_of-reverse_places : goal.shape_of-reverse_places
shape_of-reverse_places c = c.run_with.auto.reverse_places

pub shape_of-keys : goal.shape_of-keys
shape_of-keys c = c.run_with.auto.keys

pub shape_of-deadlines : goal.shape_of-deadlines
shape_of-deadlines c = c.run_with.auto.deadlines

pub shape_of-words : goal.shape_of-words
shape_of-words c = c.run_with.auto.words

pub shape_of-estimator : goal.shape_of-estimator
shape_of-estimator c = c.run_with.auto.estimator

pub shape_of-doubles : goal.shape_of-doubles
shape_of-doubles c = c.run_with.auto.doubles

pub returns-in-Ok : goal.returns-in-Ok
returns-in-Ok c = on_config c.args.numbers.now c.args.reals.now (given c.args.file.now c.args.forward_rolls.now c.args.reverse_rolls.now) (lent c.args.sender_store.now c.args.receiver_store.now c.args.output.now c.args.rows.now c.args.events.now c.args.forward_records.now c.args.forward_places.now c.args.reverse_records.now c.args.reverse_places.now c.args.keys.now c.args.deadlines.now) (results c.args.words.now c.args.estimator.now c.args.doubles.now) (sym c.read_setup.ensures ∙ c.in-Ok.is) c.run_with.ensures

pub returns-in-Err : goal.returns-in-Err
returns-in-Err c = on_setup_refused c.args.numbers.now c.args.reals.now (given c.args.file.now c.args.forward_rolls.now c.args.reverse_rolls.now) (lent c.args.sender_store.now c.args.receiver_store.now c.args.output.now c.args.rows.now c.args.events.now c.args.forward_records.now c.args.forward_places.now c.args.reverse_records.now c.args.reverse_places.now c.args.keys.now c.args.deadlines.now) (results c.args.words.now c.args.estimator.now c.args.doubles.now) (sym c.read_setup.ensures ∙ c.in-Err.is) c.refusal_answer.ensures
