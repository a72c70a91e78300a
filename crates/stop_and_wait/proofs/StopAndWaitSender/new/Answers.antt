use mathlib.Core.Path.{sym, ◌∙◌}
use Rattle.refusal.specs.Order.{order, or_else, numbered, first_of, verdict, decide}
use Rattle.window.specs.Slots.{fresh}
use Rattle.window.proofs.Laws.{store_fits}
use Rattle.stop_and_wait.specs.Sender.{new_sender}
use Rattle.stop_and_wait.proofs.StopAndWaitSender.new.Goals as goal

pub returns-then-store_short : goal.returns-then-store_short
unfolding new_sender verdict first_of numbered or_else order decide
returns-then-store_short c = simp (sym c.store_short.ensures ∙ c.if-store_short.true)

pub empty_all_unchecked-requires : goal.empty_all_unchecked-requires
empty_all_unchecked-requires c = store_fits c.args.store.now 1 (sym c.store_short.ensures ∙ c.if-store_short.false)

pub returns : goal.returns
unfolding new_sender fresh verdict first_of numbered or_else order decide
returns c = simp (sym c.store_short.ensures ∙ c.if-store_short.false, c.empty_all_unchecked.ensures)
