use mathlib.Core.Bool.{not}
use mathlib.Core.Path.{refl, sym, ap, ◌∙◌}
use borrow.Author.Tests.{ne_eqb}
use Rattle.path.proofs.Laws.{records_within}
use Rattle.step.specs.State.{given, lent, run_of, forward_state}
use Rattle.step.specs.declared.State.{State}
use Rattle.step.proofs.Good.{can_arrive, can_settle}
use Rattle.step.proofs.RoundParts.{AfterForward, forward_due, forward_not_due, AfterReverse, reverse_due, reverse_not_due, can_reverse, good_arrived, same_forward, same_reverse, forward_stops, finishes}
use Rattle.step.proofs.Returns.{some_round, no_round_is, stops_at, same_run}
use Rattle.step.proofs.step_unchecked.Goals as goal
use Rattle.step.proofs.step_unchecked.Goals.{Joined-due, Joined-due-2, then-due+else-not-on, else-due, then-due-2, else-due-2}

after_forward : (c : Joined-due) → AfterForward c.args.plan (given c.args.file.now c.args.forward_rolls.now c.args.reverse_rolls.now) (run_of c.args.state (lent c.args.sender_store.now c.args.receiver_store.now c.args.output.now c.args.rows.now c.args.events.now c.args.forward_records.now c.args.forward_places.now c.args.reverse_records.now c.args.reverse_places.now c.args.keys.now c.args.deadlines.now)) (run_of c.if-due.state (lent c.args.sender_store.now c.if-due.receiver_store c.if-due.output c.if-due.rows c.args.events.now c.if-due.forward_records c.if-due.forward_places c.if-due.reverse_records c.if-due.reverse_places c.args.keys.now c.args.deadlines.now)) c.if-due.progress
after_forward c = elim c.if-due.branch [
  | then-due+else-not-on w ↦ same_forward c.args.plan (given c.args.file.now c.args.forward_rolls.now c.args.reverse_rolls.now) (run_of c.args.state (lent c.args.sender_store.now c.args.receiver_store.now c.args.output.now c.args.rows.now c.args.events.now c.args.forward_records.now c.args.forward_places.now c.args.reverse_records.now c.args.reverse_places.now c.args.keys.now c.args.deadlines.now)) (same_run (w.state-is ∙ w.with_forward-state.ensures ∙ ap (λ (z : State). forward_state z w.serve_forward_unchecked-served.result) c.round_less-state.ensures) refl w.receiver_store-is w.output-is w.rows-is refl w.forward_records-is w.forward_places-is w.reverse_records-is w.reverse_places-is refl refl) w.progress-is (forward_due c.args.plan (given c.args.file.now c.args.forward_rolls.now c.args.reverse_rolls.now) (run_of c.args.state (lent c.args.sender_store.now c.args.receiver_store.now c.args.output.now c.args.rows.now c.args.events.now c.args.forward_records.now c.args.forward_places.now c.args.reverse_records.now c.args.reverse_places.now c.args.keys.now c.args.deadlines.now)) w.serve_forward_unchecked-served.ensures w.is_going-on.ensures (ap not w.if-not-on.false))
  | else-due w ↦ same_forward c.args.plan (given c.args.file.now c.args.forward_rolls.now c.args.reverse_rolls.now) (run_of c.args.state (lent c.args.sender_store.now c.args.receiver_store.now c.args.output.now c.args.rows.now c.args.events.now c.args.forward_records.now c.args.forward_places.now c.args.reverse_records.now c.args.reverse_places.now c.args.keys.now c.args.deadlines.now)) (same_run (w.state-is ∙ c.round_less-state.ensures) refl w.receiver_store-is w.output-is w.rows-is refl w.forward_records-is w.forward_places-is w.reverse_records-is w.reverse_places-is refl refl) w.progress-is (forward_not_due c.args.plan (given c.args.file.now c.args.forward_rolls.now c.args.reverse_rolls.now) (run_of c.args.state (lent c.args.sender_store.now c.args.receiver_store.now c.args.output.now c.args.rows.now c.args.events.now c.args.forward_records.now c.args.forward_places.now c.args.reverse_records.now c.args.reverse_places.now c.args.keys.now c.args.deadlines.now)) (sym c.is_due_unchecked-due.ensures ∙ w.if-due.false))
]

after_reverse : (c : Joined-due-2) → AfterForward c.args.plan (given c.args.file.now c.args.forward_rolls.now c.args.reverse_rolls.now) (run_of c.args.state (lent c.args.sender_store.now c.args.receiver_store.now c.args.output.now c.args.rows.now c.args.events.now c.args.forward_records.now c.args.forward_places.now c.args.reverse_records.now c.args.reverse_places.now c.args.keys.now c.args.deadlines.now)) (run_of c.if-due.state (lent c.args.sender_store.now c.if-due.receiver_store c.if-due.output c.if-due.rows c.args.events.now c.if-due.forward_records c.if-due.forward_places c.if-due.reverse_records c.if-due.reverse_places c.args.keys.now c.args.deadlines.now)) c.if-due.progress → AfterReverse c.args.plan (given c.args.file.now c.args.forward_rolls.now c.args.reverse_rolls.now) (run_of c.args.state (lent c.args.sender_store.now c.args.receiver_store.now c.args.output.now c.args.rows.now c.args.events.now c.args.forward_records.now c.args.forward_places.now c.args.reverse_records.now c.args.reverse_places.now c.args.keys.now c.args.deadlines.now)) (run_of c.if-due-2.state (lent c.if-due-2.sender_store c.if-due.receiver_store c.if-due.output c.if-due-2.rows c.args.events.now c.if-due.forward_records c.if-due.forward_places c.if-due-2.reverse_records c.if-due-2.reverse_places c.if-due-2.keys c.if-due-2.deadlines)) c.if-due-2.progress
after_reverse c forward = elim c.if-due-2.branch [
  | then-due-2 w ↦ same_reverse c.args.plan (given c.args.file.now c.args.forward_rolls.now c.args.reverse_rolls.now) (run_of c.args.state (lent c.args.sender_store.now c.args.receiver_store.now c.args.output.now c.args.rows.now c.args.events.now c.args.forward_records.now c.args.forward_places.now c.args.reverse_records.now c.args.reverse_places.now c.args.keys.now c.args.deadlines.now)) (same_run (w.state-is ∙ w.with_reverse-state.ensures) w.sender_store-is refl refl w.rows-is refl refl refl w.reverse_records-is w.reverse_places-is w.keys-is w.deadlines-is) (w.progress-is ∙ w.either-progress.ensures) (reverse_due c.args.plan (given c.args.file.now c.args.forward_rolls.now c.args.reverse_rolls.now) (run_of c.args.state (lent c.args.sender_store.now c.args.receiver_store.now c.args.output.now c.args.rows.now c.args.events.now c.args.forward_records.now c.args.forward_places.now c.args.reverse_records.now c.args.reverse_places.now c.args.keys.now c.args.deadlines.now)) forward w.serve_reverse_unchecked-served.ensures)
  | else-due-2 w ↦ same_reverse c.args.plan (given c.args.file.now c.args.forward_rolls.now c.args.reverse_rolls.now) (run_of c.args.state (lent c.args.sender_store.now c.args.receiver_store.now c.args.output.now c.args.rows.now c.args.events.now c.args.forward_records.now c.args.forward_places.now c.args.reverse_records.now c.args.reverse_places.now c.args.keys.now c.args.deadlines.now)) (same_run w.state-is w.sender_store-is refl refl w.rows-is refl refl refl w.reverse_records-is w.reverse_places-is w.keys-is w.deadlines-is) w.progress-is (reverse_not_due c.args.plan (given c.args.file.now c.args.forward_rolls.now c.args.reverse_rolls.now) (run_of c.args.state (lent c.args.sender_store.now c.args.receiver_store.now c.args.output.now c.args.rows.now c.args.events.now c.args.forward_records.now c.args.forward_places.now c.args.reverse_records.now c.args.reverse_places.now c.args.keys.now c.args.deadlines.now)) forward (sym c.is_due_unchecked-due-2.ensures ∙ w.if-due-2.false))
]

pub returns-then-state-eq0 : goal.returns-then-state-eq0
returns-then-state-eq0 c = no_round_is c.args.plan (given c.args.file.now c.args.forward_rolls.now c.args.reverse_rolls.now) c.args.state (lent c.args.sender_store.now c.args.receiver_store.now c.args.output.now c.args.rows.now c.args.events.now c.args.forward_records.now c.args.forward_places.now c.args.reverse_records.now c.args.reverse_places.now c.args.keys.now c.args.deadlines.now) c.if-state-eq0.true c.exhausted.ensures (c.over.ensures _)

pub round_less-state-requires : goal.round_less-state-requires
round_less-state-requires c = some_round _ c.if-state-eq0.false

pub is_due_unchecked-due-requires : goal.is_due_unchecked-due-requires
is_due_unchecked-due-requires c = (can_settle c.requires.good_run).0.0

pub serve_forward_unchecked-served-requires : goal.serve_forward_unchecked-served-requires
serve_forward_unchecked-served-requires c = (can_arrive c.requires.good_run).forward

pub returns-then-not-on : goal.returns-then-not-on
returns-then-not-on c = forward_stops c.args.plan (given c.args.file.now c.args.forward_rolls.now c.args.reverse_rolls.now) (run_of c.args.state (lent c.args.sender_store.now c.args.receiver_store.now c.args.output.now c.args.rows.now c.args.events.now c.args.forward_records.now c.args.forward_places.now c.args.reverse_records.now c.args.reverse_places.now c.args.keys.now c.args.deadlines.now)) (ne_eqb _ _ c.if-state-eq0.false) c.serve_forward_unchecked-served.ensures c.is_going-on.ensures (ap not c.if-not-on.true) (stops_at (c.with_forward-state.ensures ∙ ap (λ (z : State). forward_state z c.serve_forward_unchecked-served.result) c.round_less-state.ensures) (lent c.args.sender_store.now c.serve_forward_unchecked-served.new.store c.serve_forward_unchecked-served.new.output c.serve_forward_unchecked-served.new.rows c.args.events.now c.serve_forward_unchecked-served.new.forward_records c.serve_forward_unchecked-served.new.forward_places c.serve_forward_unchecked-served.new.reverse_records c.serve_forward_unchecked-served.new.reverse_places c.args.keys.now c.args.deadlines.now) c.serve_forward_unchecked-served.result.stop (λ rest h. c.stopped.ensures (lent c.args.sender_store.now c.serve_forward_unchecked-served.new.store c.serve_forward_unchecked-served.new.output c.serve_forward_unchecked-served.new.rows c.args.events.now c.serve_forward_unchecked-served.new.forward_records c.serve_forward_unchecked-served.new.forward_places c.serve_forward_unchecked-served.new.reverse_records c.serve_forward_unchecked-served.new.reverse_places c.args.keys.now c.args.deadlines.now) rest h))

pub is_due_unchecked-due-requires-2 : goal.is_due_unchecked-due-requires-2
is_due_unchecked-due-requires-2 c = records_within (run_of c.if-due.state (lent c.args.sender_store.now c.if-due.receiver_store c.if-due.output c.if-due.rows c.args.events.now c.if-due.forward_records c.if-due.forward_places c.if-due.reverse_records c.if-due.reverse_places c.args.keys.now c.args.deadlines.now)).arrivals.inbound.reverse (can_reverse c.args.plan (given c.args.file.now c.args.forward_rolls.now c.args.reverse_rolls.now) (run_of c.args.state (lent c.args.sender_store.now c.args.receiver_store.now c.args.output.now c.args.rows.now c.args.events.now c.args.forward_records.now c.args.forward_places.now c.args.reverse_records.now c.args.reverse_places.now c.args.keys.now c.args.deadlines.now)) (after_forward (goal.at.is_due_unchecked-due-requires-2 c).Joined-due) c.requires.good_run).sound

pub serve_reverse_unchecked-served-requires : goal.serve_reverse_unchecked-served-requires
serve_reverse_unchecked-served-requires c = can_reverse c.args.plan (given c.args.file.now c.args.forward_rolls.now c.args.reverse_rolls.now) (run_of c.args.state (lent c.args.sender_store.now c.args.receiver_store.now c.args.output.now c.args.rows.now c.args.events.now c.args.forward_records.now c.args.forward_places.now c.args.reverse_records.now c.args.reverse_places.now c.args.keys.now c.args.deadlines.now)) (after_forward (goal.at.serve_reverse_unchecked-served-requires c).Joined-due) c.requires.good_run

pub finish_round-requires : goal.finish_round-requires
finish_round-requires c = record { good_plan = c.requires.good_plan; good_run = good_arrived c.args.plan (given c.args.file.now c.args.forward_rolls.now c.args.reverse_rolls.now) (run_of c.args.state (lent c.args.sender_store.now c.args.receiver_store.now c.args.output.now c.args.rows.now c.args.events.now c.args.forward_records.now c.args.forward_places.now c.args.reverse_records.now c.args.reverse_places.now c.args.keys.now c.args.deadlines.now)) (after_reverse (goal.at.finish_round-requires c).Joined-due-2 (after_forward (goal.at.finish_round-requires c).Joined-due)) c.requires.good_run }

pub returns : goal.returns
returns c = finishes c.args.plan (given c.args.file.now c.args.forward_rolls.now c.args.reverse_rolls.now) (run_of c.args.state (lent c.args.sender_store.now c.args.receiver_store.now c.args.output.now c.args.rows.now c.args.events.now c.args.forward_records.now c.args.forward_places.now c.args.reverse_records.now c.args.reverse_places.now c.args.keys.now c.args.deadlines.now)) (ne_eqb _ _ c.if-state-eq0.false) (after_reverse (goal.at.returns c).Joined-due-2 (after_forward (goal.at.returns c).Joined-due)) c.finish_round.ensures
