use Rattle.std.specs.Prelude.{Err, Ok}
use mathlib.Core.Path.{sym, ap, ◌∙◌}
use Rattle.window.specs.State.{counts_broken}
use Rattle.window.proofs.Laws.{numbers_refused, counts_refused, numbers_accepted}
use Rattle.stop_and_wait.specs.Sender.{window_of}
use Rattle.stop_and_wait.proofs.StopAndWaitSender.unless_broken.Goals as goal

pub returns-then-numbers_broken : goal.returns-then-numbers_broken
returns-then-numbers_broken c = numbers_refused (window_of c.args.self) Err (Ok c.args.answer) (sym c.numbers_broken.ensures ∙ c.if-numbers_broken.true)

pub window_unchecked-window-requires : goal.window_unchecked-window-requires
window_unchecked-window-requires c = sym c.numbers_broken.ensures ∙ c.if-numbers_broken.false

pub returns-then-counts_broken : goal.returns-then-counts_broken
returns-then-counts_broken c = counts_refused (window_of c.args.self) Err (Ok c.args.answer) (sym c.numbers_broken.ensures ∙ c.if-numbers_broken.false) (sym (c.counts_broken.ensures ∙ ap counts_broken c.window_unchecked-window.ensures) ∙ c.if-counts_broken.true)

pub returns : goal.returns
returns c = numbers_accepted (window_of c.args.self) Err (Ok c.args.answer) (sym c.numbers_broken.ensures ∙ c.if-numbers_broken.false) (sym (c.counts_broken.ensures ∙ ap counts_broken c.window_unchecked-window.ensures) ∙ c.if-counts_broken.false)
