use Rattle.window.proofs.Laws.{windows_fit}
use mathlib.Core.Path.{sym, ◌∙◌}
use Rattle.refusal.specs.Order.{order, or_else, numbered, first_of, verdict, decide}
use Rattle.selective_repeat.specs.Receiver.{make_receiver}
use Rattle.selective_repeat.proofs.SelectiveRepeatReceiver.new.Goals as goal

pub returns-then-store_short : goal.returns-then-store_short
unfolding make_receiver verdict first_of numbered or_else order decide
returns-then-store_short c = simp (sym c.store_short.ensures ∙ c.if-store_short.true)

pub returns-then-window_broken : goal.returns-then-window_broken
unfolding make_receiver verdict first_of numbered or_else order decide
returns-then-window_broken c = simp (sym c.store_short.ensures ∙ c.if-store_short.false, sym c.window_broken.ensures ∙ c.if-window_broken.true)

pub empty_all_unchecked-requires : goal.empty_all_unchecked-requires
empty_all_unchecked-requires c = (windows_fit c.args.store.now c.args.window_size (sym c.window_broken.ensures ∙ c.if-window_broken.false) (sym c.store_short.ensures ∙ c.if-store_short.false)).1

pub returns : goal.returns
unfolding make_receiver verdict first_of numbered or_else order decide
returns c = simp (sym c.store_short.ensures ∙ c.if-store_short.false, sym c.window_broken.ensures ∙ c.if-window_broken.false, c.empty_all_unchecked.ensures)
