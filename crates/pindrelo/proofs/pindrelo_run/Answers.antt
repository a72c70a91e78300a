use Rattle.pindrelo.proofs.pindrelo_run.Goals as goal

pub shape_of-sender_store : goal.shape_of-sender_store
shape_of-sender_store c = c.run.auto.sender_store

pub shape_of-receiver_store : goal.shape_of-receiver_store
shape_of-receiver_store c = c.run.auto.receiver_store

pub shape_of-output : goal.shape_of-output
shape_of-output c = c.run.auto.output

pub shape_of-rows : goal.shape_of-rows
shape_of-rows c = c.run.auto.rows

pub shape_of-events : goal.shape_of-events
shape_of-events c = c.run.auto.events

pub shape_of-forward_records : goal.shape_of-forward_records
shape_of-forward_records c = c.run.auto.forward_records

pub shape_of-forward_places : goal.shape_of-forward_places
shape_of-forward_places c = c.run.auto.forward_places

pub shape_of-reverse_records : goal.shape_of-reverse_records
shape_of-reverse_records c = c.run.auto.reverse_records

pub shape_of-reverse_places : goal.shape_of-reverse_places
shape_of-reverse_places c = c.run.auto.reverse_places

pub shape_of-keys : goal.shape_of-keys
shape_of-keys c = c.run.auto.keys

pub shape_of-deadlines : goal.shape_of-deadlines
shape_of-deadlines c = c.run.auto.deadlines

pub shape_of-words : goal.shape_of-words
shape_of-words c = c.run.auto.words

pub shape_of-estimator : goal.shape_of-estimator
shape_of-estimator c = c.run.auto.estimator

pub shape_of-doubles : goal.shape_of-doubles
shape_of-doubles c = c.run.auto.doubles

pub returns : goal.returns
returns c = c.run.ensures
