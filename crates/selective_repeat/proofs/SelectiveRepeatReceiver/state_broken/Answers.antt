use mathlib.Core.Path.{sym, ◌∙◌}
use borrow.Author.Tests.{lt-ltb, le-ltb}
use Rattle.refusal.specs.Clauses.{any_of}
use Rattle.window.proofs.Laws.{or_false_right, windows_fit}
use Rattle.selective_repeat.specs.Receiver.{state_broken}
use Rattle.selective_repeat.proofs.SelectiveRepeatReceiver.state_broken.Goals as goal

pub returns-then-window_broken : goal.returns-then-window_broken
unfolding state_broken any_of
returns-then-window_broken c = simp (sym c.window_broken.ensures ∙ c.if-window_broken.true)

pub returns-then-store_short : goal.returns-then-store_short
unfolding state_broken any_of
returns-then-store_short c = simp (sym c.window_broken.ensures ∙ c.if-window_broken.false, sym c.store_short.ensures ∙ c.if-store_short.true)

pub returns-then-base-gt-SEQ_NUM_LIMIT : goal.returns-then-base-gt-SEQ_NUM_LIMIT
unfolding state_broken any_of
returns-then-base-gt-SEQ_NUM_LIMIT c = simp (sym c.window_broken.ensures ∙ c.if-window_broken.false, sym c.store_short.ensures ∙ c.if-store_short.false, lt-ltb _ _ c.if-base-gt-SEQ_NUM_LIMIT.true)

pub receiver_slots_broken_unchecked-requires : goal.receiver_slots_broken_unchecked-requires
receiver_slots_broken_unchecked-requires c = windows_fit _ _ (sym c.window_broken.ensures ∙ c.if-window_broken.false) (sym c.store_short.ensures ∙ c.if-store_short.false)

pub returns : goal.returns
unfolding state_broken any_of
returns c = simp (sym c.window_broken.ensures ∙ c.if-window_broken.false, sym c.store_short.ensures ∙ c.if-store_short.false, le-ltb _ _ c.if-base-gt-SEQ_NUM_LIMIT.false) (c.receiver_slots_broken_unchecked.ensures ∙ sym (or_false_right _))
