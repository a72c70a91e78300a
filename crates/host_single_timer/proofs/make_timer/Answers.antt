use borrow.Author.Tests.{lt-ltb, le-ltb}
use Rattle.refusal.specs.Order.{order, or_else, numbered, first_of, verdict, decide}
use Rattle.host_single_timer.specs.SingleTimer.{make_timer}
use Rattle.host_single_timer.proofs.make_timer.Goals as goal

pub returns-then-state-lt-TIMER_WORDS : goal.returns-then-state-lt-TIMER_WORDS
unfolding make_timer verdict first_of numbered or_else order decide
returns-then-state-lt-TIMER_WORDS c = simp (lt-ltb _ _ c.if-state-lt-TIMER_WORDS.true, c.refusal_answer.ensures)

pub returns : goal.returns
unfolding make_timer verdict first_of numbered or_else order decide
returns c = simp (le-ltb _ _ c.if-state-lt-TIMER_WORDS.false) (rw (c.pack_unchecked.ensures, c.put_timer.ensures, c.new.ensures))
