use borrow.Author.Tests.{lt-ltb, le-ltb, eq-eqb, ne_eqb}
use Rattle.refusal.specs.Clauses.{any_of}
use Rattle.host_timers.specs.Timers.{unreadable, held_timers}
use Rattle.host_timers.proofs.held_timers.Goals as goal

pub returns-then-state-lt-TIMERS_WORDS : goal.returns-then-state-lt-TIMERS_WORDS
unfolding held_timers unreadable any_of
returns-then-state-lt-TIMERS_WORDS c = simp (lt-ltb _ _ c.if-state-lt-TIMERS_WORDS.true)

pub returns-then-state-ne-TIMERS : goal.returns-then-state-ne-TIMERS
unfolding held_timers unreadable any_of
returns-then-state-ne-TIMERS c = simp (le-ltb _ _ c.if-state-lt-TIMERS_WORDS.false, ne_eqb _ _ c.if-state-ne-TIMERS.true)

pub returns : goal.returns
unfolding held_timers unreadable any_of
returns c = simp (le-ltb _ _ c.if-state-lt-TIMERS_WORDS.false, eq-eqb _ _ c.if-state-ne-TIMERS.false)
