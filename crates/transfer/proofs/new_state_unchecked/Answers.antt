use Rattle.transfer.proofs.Calls.{new_run_is}
use Rattle.transfer.proofs.new_state_unchecked.Goals as goal

pub overflow_sub-moves : goal.overflow_sub-moves
overflow_sub-moves c = c.requires.some

pub new_unchecked-sender-requires : goal.new_unchecked-sender-requires
new_unchecked-sender-requires c = c.requires.sender_room

pub new_unchecked-receiver-requires : goal.new_unchecked-receiver-requires
new_unchecked-receiver-requires c = c.requires.receiver_room

pub new_unchecked-clock-requires : goal.new_unchecked-clock-requires
new_unchecked-clock-requires c = c.requires.timers_alike

pub shape_of-sender_store : goal.shape_of-sender_store
shape_of-sender_store c = c.new_unchecked-sender.auto.store

pub shape_of-forward_records : goal.shape_of-forward_records
shape_of-forward_records c = c.new_unchecked-forward.auto.records

pub shape_of-forward_places : goal.shape_of-forward_places
shape_of-forward_places c = c.new_unchecked-forward.auto.places

pub shape_of-reverse_records : goal.shape_of-reverse_records
shape_of-reverse_records c = c.new_unchecked-reverse.auto.records

pub shape_of-reverse_places : goal.shape_of-reverse_places
shape_of-reverse_places c = c.new_unchecked-reverse.auto.places

pub returns : goal.returns
returns c = λ output. new_run_is c.args.ceilings c.args.config _ _ output _ _ _ _ _ _ _ _ c.reverse_config-back.ensures c.new_unchecked-forward.ensures c.new_unchecked-reverse.ensures c.new_unchecked-sender.ensures c.new_unchecked-receiver.ensures c.new-receiving.ensures c.new-notes.ensures c.with_config_unchecked-estimator.ensures c.new_unchecked-clock.ensures c.clear_rows.ensures
