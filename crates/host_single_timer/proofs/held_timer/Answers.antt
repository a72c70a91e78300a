use borrow.Author.Tests.{lt-ltb, le-ltb, eq-eqb, ne_eqb}
use Rattle.refusal.specs.Clauses.{any_of}
use Rattle.host_single_timer.specs.SingleTimer.{unreadable, not_unset, held_timer}
use Rattle.host_single_timer.proofs.held_timer.Goals as goal

pub returns-then-state-lt-TIMER_WORDS : goal.returns-then-state-lt-TIMER_WORDS
unfolding held_timer unreadable not_unset any_of
returns-then-state-lt-TIMER_WORDS c = simp (lt-ltb _ _ c.if-state-lt-TIMER_WORDS.true)

pub returns-then-state-ne-TIMER : goal.returns-then-state-ne-TIMER
unfolding held_timer unreadable not_unset any_of
returns-then-state-ne-TIMER c = simp (le-ltb _ _ c.if-state-lt-TIMER_WORDS.false, ne_eqb _ _ c.if-state-ne-TIMER.true)

pub returns-then-state-eq1 : goal.returns-then-state-eq1
unfolding held_timer unreadable not_unset any_of
returns-then-state-eq1 c = simp (le-ltb _ _ c.if-state-lt-TIMER_WORDS.false, eq-eqb _ _ c.if-state-ne-TIMER.false, eq-eqb _ _ c.if-state-eq1.true)

pub returns-then-state-ne0 : goal.returns-then-state-ne0
unfolding held_timer unreadable not_unset any_of
returns-then-state-ne0 c = simp (le-ltb _ _ c.if-state-lt-TIMER_WORDS.false, eq-eqb _ _ c.if-state-ne-TIMER.false, ne_eqb _ _ c.if-state-eq1.false, ne_eqb _ _ c.if-state-ne0.true)

pub returns-then-state-ne0-2 : goal.returns-then-state-ne0-2
unfolding held_timer unreadable not_unset any_of
returns-then-state-ne0-2 c = simp (le-ltb _ _ c.if-state-lt-TIMER_WORDS.false, eq-eqb _ _ c.if-state-ne-TIMER.false, ne_eqb _ _ c.if-state-eq1.false, eq-eqb _ _ c.if-state-ne0.false, ne_eqb _ _ c.if-state-ne0-2.true)

pub returns : goal.returns
unfolding held_timer unreadable not_unset any_of
returns c = simp (le-ltb _ _ c.if-state-lt-TIMER_WORDS.false, eq-eqb _ _ c.if-state-ne-TIMER.false, ne_eqb _ _ c.if-state-eq1.false, eq-eqb _ _ c.if-state-ne0.false, eq-eqb _ _ c.if-state-ne0-2.false)
