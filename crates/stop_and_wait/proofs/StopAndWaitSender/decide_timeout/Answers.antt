use Prim.Native.Nat.{min}
use mathlib.Core.Path.{sym, ap, ◌∙◌}
use mathlib.Core.Bool.{false}
use Rattle.window.specs.State.{outstanding, state_broken, counts_broken}
use Rattle.window.specs.Resending.{outstanding_decision}
use Rattle.window.specs.declared.SendWindow.{SendWindow}
use Rattle.window.proofs.Laws.{numbers_state, decision_state}
use Rattle.stop_and_wait.specs.Sender.{window_of, retries_left}
use Rattle.stop_and_wait.proofs.StopAndWaitSender.decide_timeout.Goals as goal

pub returns-then-numbers_broken : goal.returns-then-numbers_broken
returns-then-numbers_broken c = sym (decision_state (state_broken false (window_of c.args.self) c.args.store.now) (counts_broken (window_of c.args.self)) c.args.self.current_seq (min (retries_left c.args.self) (outstanding (window_of c.args.self))) (numbers_state false (window_of c.args.self) c.args.store.now (sym c.numbers_broken.ensures ∙ c.if-numbers_broken.true)))

pub window_unchecked-window-requires : goal.window_unchecked-window-requires
window_unchecked-window-requires c = sym c.numbers_broken.ensures ∙ c.if-numbers_broken.false

pub returns : goal.returns
returns c = c.decide_timeout.ensures
    ∙ ap (λ (w : SendWindow). outstanding_decision w c.args.store.now c.retries_left.result) c.window_unchecked-window.ensures
    ∙ ap (outstanding_decision (window_of c.args.self) c.args.store.now) c.retries_left.ensures
