use Rattle.std.specs.Prelude.{Ok}
use mathlib.Core.Path.{sym, ap, ◌∙◌}
use Rattle.refusal.specs.Order.{order, or_else, numbered, first_of, verdict, decide}
use Rattle.window.specs.Slots.{Sender}
use Rattle.window.specs.Sending.{make_exit, make_window}
use Rattle.window.proofs.Sound.{windows_fit}
use Rattle.window.proofs.SendWindow.new.Goals as goal

pub returns-then-store_short : goal.returns-then-store_short
unfolding make_window verdict first_of numbered or_else order decide
returns-then-store_short c = simp (sym c.store_short.ensures ∙ c.if-store_short.true)

pub returns-then-window_broken : goal.returns-then-window_broken
unfolding make_window verdict first_of numbered or_else order decide
returns-then-window_broken c = simp (sym c.store_short.ensures ∙ c.if-store_short.false, sym c.window_broken.ensures ∙ c.if-window_broken.true)

pub new_unchecked-requires : goal.new_unchecked-requires
new_unchecked-requires c = (windows_fit c.args.store.now c.args.window (sym c.window_broken.ensures ∙ c.if-window_broken.false) (sym c.store_short.ensures ∙ c.if-store_short.false)).1

pub returns : goal.returns
unfolding make_window verdict first_of numbered or_else order decide
returns c = simp (sym c.store_short.ensures ∙ c.if-store_short.false, sym c.window_broken.ensures ∙ c.if-window_broken.false)
    (ap (λ (v : Sender). make_exit (Ok v.window) v.store) c.new_unchecked.ensures)
