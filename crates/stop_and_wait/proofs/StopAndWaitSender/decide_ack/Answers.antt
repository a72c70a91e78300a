use mathlib.Core.Bool.{false}
use mathlib.Core.Path.{sym, ap, ◌∙◌}
use Rattle.window.specs.Acknowledgement.{ack_decision}
use Rattle.window.specs.declared.SendWindow.{SendWindow}
use Rattle.window.proofs.Laws.{numbers_state, ack_state}
use Rattle.stop_and_wait.specs.Sender.{window_of}
use Rattle.stop_and_wait.proofs.StopAndWaitSender.decide_ack.Goals as goal

pub returns-then-numbers_broken : goal.returns-then-numbers_broken
returns-then-numbers_broken c = sym (ack_state false (window_of c.args.self) c.args.store.now c.args.raw.now (numbers_state false (window_of c.args.self) c.args.store.now (sym c.numbers_broken.ensures ∙ c.if-numbers_broken.true)))

pub window_unchecked-window-requires : goal.window_unchecked-window-requires
window_unchecked-window-requires c = sym c.numbers_broken.ensures ∙ c.if-numbers_broken.false

pub returns : goal.returns
returns c = c.decide_ack.ensures ∙ ap (λ (w : SendWindow). ack_decision false w c.args.store.now c.args.raw.now) c.window_unchecked-window.ensures
