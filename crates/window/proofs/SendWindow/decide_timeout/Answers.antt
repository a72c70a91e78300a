use Rattle.std.specs.Prelude.{Ok}
use mathlib.Core.Bool.{false}
use Prim.Native.Nat.{min}
use mathlib.Core.Path.{sym, ap, ◌∙◌}
use native.Mathlib.Omega.{arith}
use Rattle.window.specs.State.{outstanding, state_broken, counts_broken}
use Rattle.window.specs.declared.TimeoutDecision.TheVariants as decision
use Rattle.window.proofs.Sound.{sound}
use Rattle.window.proofs.Timeouts.{decision_state, decision_counts, decision_nothing, decision_resend}
use Rattle.window.proofs.SendWindow.decide_timeout.Goals as goal

pub returns-then-state_broken : goal.returns-then-state_broken
returns-then-state_broken c = sym (decision_state (state_broken false c.args.self c.args.store.now) (counts_broken c.args.self) c.args.self.send_base (min c.args.most (outstanding c.args.self)) (sym c.state_broken.ensures ∙ c.if-state_broken.true))

pub returns-then-counts_broken : goal.returns-then-counts_broken
returns-then-counts_broken c = sym (decision_counts (state_broken false c.args.self c.args.store.now) (counts_broken c.args.self) c.args.self.send_base (min c.args.most (outstanding c.args.self)) (sym c.state_broken.ensures ∙ c.if-state_broken.false) (sym c.counts_broken.ensures ∙ c.if-counts_broken.true))

pub overflow_sub-self : goal.overflow_sub-self
overflow_sub-self c = let s = sound false c.args.self c.args.store.now (sym c.state_broken.ensures ∙ c.if-state_broken.false) in let ordered = s.ordered in omega arith

pub returns-then-count-eq0 : goal.returns-then-count-eq0
returns-then-count-eq0 c = sym (decision_nothing (state_broken false c.args.self c.args.store.now) (counts_broken c.args.self) c.args.self.send_base (min c.args.most (outstanding c.args.self)) (sym c.state_broken.ensures ∙ c.if-state_broken.false) (sym c.counts_broken.ensures ∙ c.if-counts_broken.false) (sym c.min-count.ensures ∙ c.if-count-eq0.true))

pub returns : goal.returns
returns c = ap ((λ x. Ok (decision.Resend c.args.self.send_base x))) c.min-count.ensures ∙ sym (decision_resend (state_broken false c.args.self c.args.store.now) (counts_broken c.args.self) c.args.self.send_base (min c.args.most (outstanding c.args.self)) (sym c.state_broken.ensures ∙ c.if-state_broken.false) (sym c.counts_broken.ensures ∙ c.if-counts_broken.false) (λ e. c.if-count-eq0.false (c.min-count.ensures ∙ e)))
