use mathlib.Core.Path.{sym, ◌∙◌}
use native.Mathlib.Omega.{arith}
use Rattle.refusal.specs.Clauses.{any_of}
use Rattle.window.specs.State.{state_broken}
use Rattle.window.proofs.Sound.{numbers, store_fits, or_false_right}
use Rattle.window.proofs.SendWindow.state_broken.Goals as goal

pub returns-then-numbers_broken : goal.returns-then-numbers_broken
unfolding state_broken any_of
returns-then-numbers_broken c = simp (sym c.numbers_broken.ensures ∙ c.if-numbers_broken.true)

pub returns-then-store_short : goal.returns-then-store_short
unfolding state_broken any_of
returns-then-store_short c = simp ((sym c.numbers_broken.ensures ∙ c.if-numbers_broken.false), sym c.store_short.ensures ∙ c.if-store_short.true)

pub overflow_sub-count : goal.overflow_sub-count
overflow_sub-count c = let n = numbers c.args.self (sym c.numbers_broken.ensures ∙ c.if-numbers_broken.false) in let ordered = n.ordered in omega arith

pub sender_slots_broken_unchecked-requires : goal.sender_slots_broken_unchecked-requires
sender_slots_broken_unchecked-requires c = ((numbers c.args.self (sym c.numbers_broken.ensures ∙ c.if-numbers_broken.false)).positive, store_fits _ _ (sym c.store_short.ensures ∙ c.if-store_short.false))

pub returns : goal.returns
unfolding state_broken any_of
returns c = simp ((sym c.numbers_broken.ensures ∙ c.if-numbers_broken.false), sym c.store_short.ensures ∙ c.if-store_short.false) (c.sender_slots_broken_unchecked.ensures ∙ sym (or_false_right _))
