use mathlib.Core.Path.{ap}
use mathlib.Core.Bool.{not}
use native.Mathlib.Omega.{arith}
use Rattle.schedule.proofs.Laws.{test_is}
use Rattle.path.specs.Direction.{direction}
use Rattle.path.proofs.Packets.{carry_spent, carry_no_entry, rolls_left, used_fits, can_process}
use Rattle.path.proofs.InPlace.{wire_spent, wire_no_entry, wire_carried, carry_full, can_schedule, carry_done}
use Rattle.path.proofs.Path.carry_unchecked.Goals as goal

pub returns-then-rolls_spent : goal.returns-then-rolls_spent
returns-then-rolls_spent c = record { result_after = carry_spent (direction c.args.records.now c.args.places.now c.args.self) c.args.rolls.now c.args.entry_free c.args.now c.args.wire.now (test_is c.rolls_spent.ensures c.if-rolls_spent.true); wire_after = wire_spent (direction c.args.records.now c.args.places.now c.args.self) c.args.rolls.now c.args.entry_free c.args.now c.args.wire.now (test_is c.rolls_spent.ensures c.if-rolls_spent.true) }

pub returns-then-not-entry_free : goal.returns-then-not-entry_free
returns-then-not-entry_free c = record { result_after = carry_no_entry (direction c.args.records.now c.args.places.now c.args.self) c.args.rolls.now c.args.entry_free c.args.now c.args.wire.now (test_is c.rolls_spent.ensures c.if-rolls_spent.false) (ap not c.if-not-entry_free.true); wire_after = wire_no_entry (direction c.args.records.now c.args.places.now c.args.self) c.args.rolls.now c.args.entry_free c.args.now c.args.wire.now (test_is c.rolls_spent.ensures c.if-rolls_spent.false) (ap not c.if-not-entry_free.true) }

pub rolls_at-requires : goal.rolls_at-requires
rolls_at-requires c = rolls_left (direction c.args.records.now c.args.places.now c.args.self) c.args.rolls.now c.args.entry_free c.args.now c.args.wire.now (test_is c.rolls_spent.ensures c.if-rolls_spent.false)

pub process_in_place_unchecked-done-requires : goal.process_in_place_unchecked-done-requires
process_in_place_unchecked-done-requires c = can_process (direction c.args.records.now c.args.places.now c.args.self) c.args.rolls.now c.args.entry_free c.args.now c.args.wire.now (test_is c.rolls_spent.ensures c.if-rolls_spent.false) c.requires c.rolls_at.ensures (omega arith)

pub returns-then-room_unchecked-copies_of : goal.returns-then-room_unchecked-copies_of
returns-then-room_unchecked-copies_of c = record { result_after = carry_full (direction c.args.records.now c.args.places.now c.args.self) c.args.rolls.now c.args.entry_free c.args.now c.args.wire.now (test_is c.rolls_spent.ensures c.if-rolls_spent.false) (ap not c.if-not-entry_free.false) c.rolls_at.ensures c.process_in_place_unchecked-done.ensures c.room_unchecked.ensures c.copies_of.ensures c.if-room_unchecked-copies_of.true; wire_after = wire_carried (direction c.args.records.now c.args.places.now c.args.self) c.args.rolls.now c.args.entry_free c.args.now c.args.wire.now (test_is c.rolls_spent.ensures c.if-rolls_spent.false) (ap not c.if-not-entry_free.false) c.rolls_at.ensures c.process_in_place_unchecked-done.ensures }

pub schedule_at_unchecked-next-requires : goal.schedule_at_unchecked-next-requires
schedule_at_unchecked-next-requires c = record { can_schedule = can_schedule (direction c.args.records.now c.args.places.now c.args.self) c.args.rolls.now c.args.entry_free c.args.now c.args.wire.now (test_is c.rolls_spent.ensures c.if-rolls_spent.false) (ap not c.if-not-entry_free.false) c.rolls_at.ensures c.process_in_place_unchecked-done.ensures c.room_unchecked.ensures c.copies_of.ensures c.if-room_unchecked-copies_of.false c.requires; cleared = λ e. c.requires.good.cleared }

pub overflow_add-result : goal.overflow_add-result
overflow_add-result c = record { fits = used_fits (direction c.args.records.now c.args.places.now c.args.self) c.args.rolls.now c.args.entry_free c.args.now c.args.wire.now (test_is c.rolls_spent.ensures c.if-rolls_spent.false) c.requires _ (omega arith) }

pub returns : goal.returns
returns c = record { result_after = carry_done (direction c.args.records.now c.args.places.now c.args.self) c.args.rolls.now c.args.entry_free c.args.now c.args.wire.now (test_is c.rolls_spent.ensures c.if-rolls_spent.false) (ap not c.if-not-entry_free.false) c.rolls_at.ensures c.process_in_place_unchecked-done.ensures c.room_unchecked.ensures c.copies_of.ensures c.if-room_unchecked-copies_of.false c.copy_fold-fold.ensures c.schedule_at_unchecked-next.ensures; wire_after = wire_carried (direction c.args.records.now c.args.places.now c.args.self) c.args.rolls.now c.args.entry_free c.args.now c.args.wire.now (test_is c.rolls_spent.ensures c.if-rolls_spent.false) (ap not c.if-not-entry_free.false) c.rolls_at.ensures c.process_in_place_unchecked-done.ensures }
