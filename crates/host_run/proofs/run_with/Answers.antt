use mathlib.Core.Path.{sym, ◌∙◌}
use Rattle.step.specs.State.{given, lent}
use Rattle.host_run.specs.Run.{results}
use Rattle.host_run.proofs.Ends.{on_short, on_run}
use Rattle.host_run.proofs.run_with.Goals as goal

pub returns-then-results_short : goal.returns-then-results_short
returns-then-results_short c = on_short c.args.config (given c.args.file.now c.args.forward_rolls.now c.args.reverse_rolls.now) (lent c.args.sender_store.now c.args.receiver_store.now c.args.output.now c.args.rows.now c.args.events.now c.args.forward_records.now c.args.forward_places.now c.args.reverse_records.now c.args.reverse_places.now c.args.keys.now c.args.deadlines.now) (results c.args.words.now c.args.estimator.now c.args.doubles.now) (sym c.results_short.ensures ∙ c.if-results_short.true) c.start_verdict-verdict.ensures.0 c.short_answer.ensures

pub put_answer-requires : goal.put_answer-requires
put_answer-requires c = sym c.results_short.ensures ∙ c.if-results_short.false

pub shape_of-sender_store : goal.shape_of-sender_store
shape_of-sender_store c = c.run_transfer-answer.auto.sender_store

pub shape_of-receiver_store : goal.shape_of-receiver_store
shape_of-receiver_store c = c.run_transfer-answer.auto.receiver_store

pub shape_of-output : goal.shape_of-output
shape_of-output c = c.run_transfer-answer.auto.output

pub shape_of-rows : goal.shape_of-rows
shape_of-rows c = c.run_transfer-answer.auto.rows

pub shape_of-events : goal.shape_of-events
shape_of-events c = c.run_transfer-answer.auto.events

pub shape_of-forward_records : goal.shape_of-forward_records
shape_of-forward_records c = c.run_transfer-answer.auto.forward_records

pub shape_of-forward_places : goal.shape_of-forward_places
shape_of-forward_places c = c.run_transfer-answer.auto.forward_places

pub shape_of-reverse_records : goal.shape_of-reverse_records
shape_of-reverse_records c = c.run_transfer-answer.auto.reverse_records

pub shape_of-reverse_places : goal.shape_of-reverse_places
shape_of-reverse_places c = c.run_transfer-answer.auto.reverse_places

pub shape_of-keys : goal.shape_of-keys
shape_of-keys c = c.run_transfer-answer.auto.keys

pub shape_of-deadlines : goal.shape_of-deadlines
shape_of-deadlines c = c.run_transfer-answer.auto.deadlines

pub shape_of-words : goal.shape_of-words
shape_of-words c = c.put_answer.auto.words

pub shape_of-estimator : goal.shape_of-estimator
shape_of-estimator c = c.put_answer.auto.estimator

pub shape_of-doubles : goal.shape_of-doubles
shape_of-doubles c = c.put_answer.auto.doubles

pub returns : goal.returns
returns c = on_run c.args.config (given c.args.file.now c.args.forward_rolls.now c.args.reverse_rolls.now) (lent c.args.sender_store.now c.args.receiver_store.now c.args.output.now c.args.rows.now c.args.events.now c.args.forward_records.now c.args.forward_places.now c.args.reverse_records.now c.args.reverse_places.now c.args.keys.now c.args.deadlines.now) (results c.args.words.now c.args.estimator.now c.args.doubles.now) (sym c.results_short.ensures ∙ c.if-results_short.false) c.run_transfer-answer.ensures c.put_answer.ensures
