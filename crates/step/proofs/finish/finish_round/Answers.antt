use mathlib.Core.Bool.{not}
use mathlib.Core.Path.{refl, sym, ap, ◌∙◌}
use Rattle.session.proofs.Laws.{unbroken_numbers}
use Rattle.timeouts.proofs.SingleTimers.{fire_due_asks, fire_numbers_sound}
use Rattle.step.specs.State.{given, lent, run_of}
use Rattle.step.proofs.Good.{can_settle}
use Rattle.step.proofs.FinishParts.{AfterTimers, fired_due, fired_not_due, can_fire, AfterBoth, can_pump_then, chunks_due, chunks_not_due, good_both, same_timers, same_both, timers_stop, exhausted_end, chunks_stop, goes_on, settles}
use Rattle.step.proofs.Returns.{stops_at, same_run}
use Rattle.step.proofs.finish.finish_round.Goals as goal
use Rattle.step.proofs.finish.finish_round.Goals.{Joined-due, Joined-due-2, then-due+else-not-on, else-due, then-due-2+else-not-on-2, else-due-2}

after_timers : (c : Joined-due) → AfterTimers c.args.plan (given c.args.file.now c.args.forward_rolls.now c.args.reverse_rolls.now) c.args.arrived (run_of c.args.state (lent c.args.sender_store.now c.args.receiver_store.now c.args.output.now c.args.rows.now c.args.events.now c.args.forward_records.now c.args.forward_places.now c.args.reverse_records.now c.args.reverse_places.now c.args.keys.now c.args.deadlines.now)) (run_of c.if-due.state (lent c.if-due.sender_store c.args.receiver_store.now c.args.output.now c.if-due.rows c.if-due.events c.if-due.forward_records c.if-due.forward_places c.args.reverse_records.now c.args.reverse_places.now c.if-due.keys c.if-due.deadlines)) c.if-due.progress
after_timers c = elim c.if-due.branch [
  | then-due+else-not-on w ↦ same_timers c.args.plan (given c.args.file.now c.args.forward_rolls.now c.args.reverse_rolls.now) c.args.arrived (run_of c.args.state (lent c.args.sender_store.now c.args.receiver_store.now c.args.output.now c.args.rows.now c.args.events.now c.args.forward_records.now c.args.forward_places.now c.args.reverse_records.now c.args.reverse_places.now c.args.keys.now c.args.deadlines.now)) (same_run (w.state-is ∙ w.with_fired-state.ensures) w.sender_store-is refl refl w.rows-is w.events-is w.forward_records-is w.forward_places-is refl refl w.keys-is w.deadlines-is) (w.progress-is ∙ w.either-progress.ensures) (fired_due c.args.plan (given c.args.file.now c.args.forward_rolls.now c.args.reverse_rolls.now) c.args.arrived (run_of c.args.state (lent c.args.sender_store.now c.args.receiver_store.now c.args.output.now c.args.rows.now c.args.events.now c.args.forward_records.now c.args.forward_places.now c.args.reverse_records.now c.args.reverse_places.now c.args.keys.now c.args.deadlines.now)) w.fire_timers_unchecked-fired.ensures w.is_going-on.ensures (ap not w.if-not-on.false))
  | else-due w ↦ same_timers c.args.plan (given c.args.file.now c.args.forward_rolls.now c.args.reverse_rolls.now) c.args.arrived (run_of c.args.state (lent c.args.sender_store.now c.args.receiver_store.now c.args.output.now c.args.rows.now c.args.events.now c.args.forward_records.now c.args.forward_places.now c.args.reverse_records.now c.args.reverse_places.now c.args.keys.now c.args.deadlines.now)) (same_run w.state-is w.sender_store-is refl refl w.rows-is w.events-is w.forward_records-is w.forward_places-is refl refl w.keys-is w.deadlines-is) w.progress-is (fired_not_due c.args.plan (given c.args.file.now c.args.forward_rolls.now c.args.reverse_rolls.now) c.args.arrived (run_of c.args.state (lent c.args.sender_store.now c.args.receiver_store.now c.args.output.now c.args.rows.now c.args.events.now c.args.forward_records.now c.args.forward_places.now c.args.reverse_records.now c.args.reverse_places.now c.args.keys.now c.args.deadlines.now)) (sym c.timers_due_unchecked-due.ensures ∙ w.if-due.false))
]

after_both : (c : Joined-due-2) → AfterTimers c.args.plan (given c.args.file.now c.args.forward_rolls.now c.args.reverse_rolls.now) c.args.arrived (run_of c.args.state (lent c.args.sender_store.now c.args.receiver_store.now c.args.output.now c.args.rows.now c.args.events.now c.args.forward_records.now c.args.forward_places.now c.args.reverse_records.now c.args.reverse_places.now c.args.keys.now c.args.deadlines.now)) (run_of c.if-due.state (lent c.if-due.sender_store c.args.receiver_store.now c.args.output.now c.if-due.rows c.if-due.events c.if-due.forward_records c.if-due.forward_places c.args.reverse_records.now c.args.reverse_places.now c.if-due.keys c.if-due.deadlines)) c.if-due.progress → AfterBoth c.args.plan (given c.args.file.now c.args.forward_rolls.now c.args.reverse_rolls.now) c.args.arrived (run_of c.args.state (lent c.args.sender_store.now c.args.receiver_store.now c.args.output.now c.args.rows.now c.args.events.now c.args.forward_records.now c.args.forward_places.now c.args.reverse_records.now c.args.reverse_places.now c.args.keys.now c.args.deadlines.now)) (run_of c.if-due-2.state (lent c.if-due-2.sender_store c.args.receiver_store.now c.args.output.now c.if-due-2.rows c.if-due-2.events c.if-due-2.forward_records c.if-due-2.forward_places c.args.reverse_records.now c.args.reverse_places.now c.if-due-2.keys c.if-due-2.deadlines)) c.if-due-2.progress
after_both c timers = elim c.if-due-2.branch [
  | then-due-2+else-not-on-2 w ↦ same_both c.args.plan (given c.args.file.now c.args.forward_rolls.now c.args.reverse_rolls.now) c.args.arrived (run_of c.args.state (lent c.args.sender_store.now c.args.receiver_store.now c.args.output.now c.args.rows.now c.args.events.now c.args.forward_records.now c.args.forward_places.now c.args.reverse_records.now c.args.reverse_places.now c.args.keys.now c.args.deadlines.now)) (same_run (w.state-is ∙ w.with_pumped-state.ensures) w.sender_store-is refl refl w.rows-is w.events-is w.forward_records-is w.forward_places-is refl refl w.keys-is w.deadlines-is) (w.progress-is ∙ w.either-progress-then-due-2.ensures) (chunks_due c.args.plan (given c.args.file.now c.args.forward_rolls.now c.args.reverse_rolls.now) c.args.arrived (run_of c.args.state (lent c.args.sender_store.now c.args.receiver_store.now c.args.output.now c.args.rows.now c.args.events.now c.args.forward_records.now c.args.forward_places.now c.args.reverse_records.now c.args.reverse_places.now c.args.keys.now c.args.deadlines.now)) timers c.if-resends.false w.pump_sends_unchecked-pumped.ensures w.is_going-on-then-due-2.ensures (ap not w.if-not-on-2.false))
  | else-due-2 w ↦ same_both c.args.plan (given c.args.file.now c.args.forward_rolls.now c.args.reverse_rolls.now) c.args.arrived (run_of c.args.state (lent c.args.sender_store.now c.args.receiver_store.now c.args.output.now c.args.rows.now c.args.events.now c.args.forward_records.now c.args.forward_places.now c.args.reverse_records.now c.args.reverse_places.now c.args.keys.now c.args.deadlines.now)) (same_run w.state-is w.sender_store-is refl refl w.rows-is w.events-is w.forward_records-is w.forward_places-is refl refl w.keys-is w.deadlines-is) w.progress-is (chunks_not_due c.args.plan (given c.args.file.now c.args.forward_rolls.now c.args.reverse_rolls.now) c.args.arrived (run_of c.args.state (lent c.args.sender_store.now c.args.receiver_store.now c.args.output.now c.args.rows.now c.args.events.now c.args.forward_records.now c.args.forward_places.now c.args.reverse_records.now c.args.reverse_places.now c.args.keys.now c.args.deadlines.now)) timers c.if-resends.false c.requires.good_plan c.requires.good_run (sym c.can_pump_unchecked-due.ensures ∙ w.if-due-2.false))
]

pub timers_due_unchecked-due-requires : goal.timers_due_unchecked-due-requires
timers_due_unchecked-due-requires c = record { held = fire_due_asks (can_fire c.args.plan (given c.args.file.now c.args.forward_rolls.now c.args.reverse_rolls.now) c.args.arrived (run_of c.args.state (lent c.args.sender_store.now c.args.receiver_store.now c.args.output.now c.args.rows.now c.args.events.now c.args.forward_records.now c.args.forward_places.now c.args.reverse_records.now c.args.reverse_places.now c.args.keys.now c.args.deadlines.now)) c.requires.good_plan c.requires.good_run); sender_value = fire_numbers_sound (can_fire c.args.plan (given c.args.file.now c.args.forward_rolls.now c.args.reverse_rolls.now) c.args.arrived (run_of c.args.state (lent c.args.sender_store.now c.args.receiver_store.now c.args.output.now c.args.rows.now c.args.events.now c.args.forward_records.now c.args.forward_places.now c.args.reverse_records.now c.args.reverse_places.now c.args.keys.now c.args.deadlines.now)) c.requires.good_plan c.requires.good_run) }

pub fire_timers_unchecked-fired-requires : goal.fire_timers_unchecked-fired-requires
fire_timers_unchecked-fired-requires c = can_fire c.args.plan (given c.args.file.now c.args.forward_rolls.now c.args.reverse_rolls.now) c.args.arrived (run_of c.args.state (lent c.args.sender_store.now c.args.receiver_store.now c.args.output.now c.args.rows.now c.args.events.now c.args.forward_records.now c.args.forward_places.now c.args.reverse_records.now c.args.reverse_places.now c.args.keys.now c.args.deadlines.now)) c.requires.good_plan c.requires.good_run

pub returns-then-not-on : goal.returns-then-not-on
returns-then-not-on c = timers_stop c.args.plan (given c.args.file.now c.args.forward_rolls.now c.args.reverse_rolls.now) c.args.arrived (run_of c.args.state (lent c.args.sender_store.now c.args.receiver_store.now c.args.output.now c.args.rows.now c.args.events.now c.args.forward_records.now c.args.forward_places.now c.args.reverse_records.now c.args.reverse_places.now c.args.keys.now c.args.deadlines.now)) c.fire_timers_unchecked-fired.ensures c.is_going-on.ensures (ap not c.if-not-on.true) (stops_at c.with_fired-state.ensures (lent c.fire_timers_unchecked-fired.new.store c.args.receiver_store.now c.args.output.now c.fire_timers_unchecked-fired.new.rows c.fire_timers_unchecked-fired.new.events c.fire_timers_unchecked-fired.new.records c.fire_timers_unchecked-fired.new.places c.args.reverse_records.now c.args.reverse_places.now c.fire_timers_unchecked-fired.new.keys c.fire_timers_unchecked-fired.new.deadlines) c.fire_timers_unchecked-fired.result.stop (λ rest h. c.stopped.ensures (lent c.fire_timers_unchecked-fired.new.store c.args.receiver_store.now c.args.output.now c.fire_timers_unchecked-fired.new.rows c.fire_timers_unchecked-fired.new.events c.fire_timers_unchecked-fired.new.records c.fire_timers_unchecked-fired.new.places c.args.reverse_records.now c.args.reverse_places.now c.fire_timers_unchecked-fired.new.keys c.fire_timers_unchecked-fired.new.deadlines) rest h))

pub returns-then-resends : goal.returns-then-resends
returns-then-resends c = exhausted_end c.args.plan (given c.args.file.now c.args.forward_rolls.now c.args.reverse_rolls.now) c.args.arrived (run_of c.args.state (lent c.args.sender_store.now c.args.receiver_store.now c.args.output.now c.args.rows.now c.args.events.now c.args.forward_records.now c.args.forward_places.now c.args.reverse_records.now c.args.reverse_places.now c.args.keys.now c.args.deadlines.now)) (after_timers (goal.at.returns-then-resends c).Joined-due) c.if-resends.true (c.over.ensures (lent c.if-due.sender_store c.args.receiver_store.now c.args.output.now c.if-due.rows c.if-due.events c.if-due.forward_records c.if-due.forward_places c.args.reverse_records.now c.args.reverse_places.now c.if-due.keys c.if-due.deadlines))

pub can_pump_unchecked-due-requires : goal.can_pump_unchecked-due-requires
can_pump_unchecked-due-requires c = unbroken_numbers (run_of c.if-due.state (lent c.if-due.sender_store c.args.receiver_store.now c.args.output.now c.if-due.rows c.if-due.events c.if-due.forward_records c.if-due.forward_places c.args.reverse_records.now c.args.reverse_places.now c.if-due.keys c.if-due.deadlines)).arrivals.sender (can_pump_then c.args.plan (given c.args.file.now c.args.forward_rolls.now c.args.reverse_rolls.now) c.args.arrived (run_of c.args.state (lent c.args.sender_store.now c.args.receiver_store.now c.args.output.now c.args.rows.now c.args.events.now c.args.forward_records.now c.args.forward_places.now c.args.reverse_records.now c.args.reverse_places.now c.args.keys.now c.args.deadlines.now)) (after_timers (goal.at.can_pump_unchecked-due-requires c).Joined-due) c.if-resends.false c.requires.good_plan c.requires.good_run).good.sender.state

pub pump_sends_unchecked-pumped-requires : goal.pump_sends_unchecked-pumped-requires
pump_sends_unchecked-pumped-requires c = can_pump_then c.args.plan (given c.args.file.now c.args.forward_rolls.now c.args.reverse_rolls.now) c.args.arrived (run_of c.args.state (lent c.args.sender_store.now c.args.receiver_store.now c.args.output.now c.args.rows.now c.args.events.now c.args.forward_records.now c.args.forward_places.now c.args.reverse_records.now c.args.reverse_places.now c.args.keys.now c.args.deadlines.now)) (after_timers (goal.at.pump_sends_unchecked-pumped-requires c).Joined-due) c.if-resends.false c.requires.good_plan c.requires.good_run

pub returns-then-not-on-2 : goal.returns-then-not-on-2
returns-then-not-on-2 c = chunks_stop c.args.plan (given c.args.file.now c.args.forward_rolls.now c.args.reverse_rolls.now) c.args.arrived (run_of c.args.state (lent c.args.sender_store.now c.args.receiver_store.now c.args.output.now c.args.rows.now c.args.events.now c.args.forward_records.now c.args.forward_places.now c.args.reverse_records.now c.args.reverse_places.now c.args.keys.now c.args.deadlines.now)) (after_timers (goal.at.returns-then-not-on-2 c).Joined-due) c.if-resends.false c.pump_sends_unchecked-pumped.ensures c.is_going-on-then-due-2.ensures (ap not c.if-not-on-2.true) (stops_at c.with_pumped-state.ensures (lent c.pump_sends_unchecked-pumped.new.store c.args.receiver_store.now c.args.output.now c.pump_sends_unchecked-pumped.new.rows c.pump_sends_unchecked-pumped.new.events c.pump_sends_unchecked-pumped.new.records c.pump_sends_unchecked-pumped.new.places c.args.reverse_records.now c.args.reverse_places.now c.pump_sends_unchecked-pumped.new.keys c.pump_sends_unchecked-pumped.new.deadlines) c.pump_sends_unchecked-pumped.result.stop (λ rest h. c.stopped-then-not-on-2.ensures (lent c.pump_sends_unchecked-pumped.new.store c.args.receiver_store.now c.args.output.now c.pump_sends_unchecked-pumped.new.rows c.pump_sends_unchecked-pumped.new.events c.pump_sends_unchecked-pumped.new.records c.pump_sends_unchecked-pumped.new.places c.args.reverse_records.now c.args.reverse_places.now c.pump_sends_unchecked-pumped.new.keys c.pump_sends_unchecked-pumped.new.deadlines) rest h))

pub returns-then-progress : goal.returns-then-progress
returns-then-progress c = goes_on c.args.plan (given c.args.file.now c.args.forward_rolls.now c.args.reverse_rolls.now) c.args.arrived (run_of c.args.state (lent c.args.sender_store.now c.args.receiver_store.now c.args.output.now c.args.rows.now c.args.events.now c.args.forward_records.now c.args.forward_places.now c.args.reverse_records.now c.args.reverse_places.now c.args.keys.now c.args.deadlines.now)) (after_both (goal.at.returns-then-progress c).Joined-due-2 (after_timers (goal.at.returns-then-progress c).Joined-due)) c.if-progress.true (c.going.ensures (lent c.if-due-2.sender_store c.args.receiver_store.now c.args.output.now c.if-due-2.rows c.if-due-2.events c.if-due-2.forward_records c.if-due-2.forward_places c.args.reverse_records.now c.args.reverse_places.now c.if-due-2.keys c.if-due-2.deadlines))

pub settle-requires : goal.settle-requires
settle-requires c = let both = can_settle (good_both c.args.plan (given c.args.file.now c.args.forward_rolls.now c.args.reverse_rolls.now) c.args.arrived (run_of c.args.state (lent c.args.sender_store.now c.args.receiver_store.now c.args.output.now c.args.rows.now c.args.events.now c.args.forward_records.now c.args.forward_places.now c.args.reverse_records.now c.args.reverse_places.now c.args.keys.now c.args.deadlines.now)) (after_both (goal.at.settle-requires c).Joined-due-2 (after_timers (goal.at.settle-requires c).Joined-due)) c.requires.good_plan c.requires.good_run) in record { count_in_bounds = both.0; held = both.1 }

pub returns : goal.returns
returns c = settles c.args.plan (given c.args.file.now c.args.forward_rolls.now c.args.reverse_rolls.now) c.args.arrived (run_of c.args.state (lent c.args.sender_store.now c.args.receiver_store.now c.args.output.now c.args.rows.now c.args.events.now c.args.forward_records.now c.args.forward_places.now c.args.reverse_records.now c.args.reverse_places.now c.args.keys.now c.args.deadlines.now)) (after_both (goal.at.returns c).Joined-due-2 (after_timers (goal.at.returns c).Joined-due)) c.if-progress.false (c.settle.ensures c.if-due-2.sender_store c.args.receiver_store.now c.args.output.now c.if-due-2.rows c.if-due-2.events c.if-due-2.forward_places c.args.reverse_places.now)
