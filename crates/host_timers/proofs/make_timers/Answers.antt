use mathlib.Core.Path.{ap}
use borrow.Author.Tests.{lt-ltb, le-ltb, eq-eqb, ne_eqb}
use Rattle.refusal.specs.Order.{order, or_else, numbered, first_of, verdict, decide}
use Rattle.multi_timer.specs.MultiTimer.{answering}
use Rattle.host_timers.specs.Timers.{made, make_timers}
use Rattle.host_timers.proofs.make_timers.Goals as goal

pub returns-then-keys-deadlines : goal.returns-then-keys-deadlines
unfolding make_timers verdict first_of numbered or_else order decide
returns-then-keys-deadlines c = simp (ne_eqb _ _ c.if-keys-deadlines.true, c.refusal_answer.ensures)

pub returns-then-state-lt-TIMERS_WORDS : goal.returns-then-state-lt-TIMERS_WORDS
unfolding make_timers verdict first_of numbered or_else order decide
returns-then-state-lt-TIMERS_WORDS c = simp (eq-eqb _ _ c.if-keys-deadlines.false, lt-ltb _ _ c.if-state-lt-TIMERS_WORDS.true, c.refusal_answer-then-state-lt-TIMERS_WORDS.ensures)

pub returns : goal.returns
unfolding make_timers verdict first_of numbered or_else order decide
returns c = simp (eq-eqb _ _ c.if-keys-deadlines.false, le-ltb _ _ c.if-state-lt-TIMERS_WORDS.false) (rw (c.pack_unchecked.ensures, c.put_timers.ensures) (ap (answering (made c.args.state.now)) c.new_unchecked-t.ensures))
