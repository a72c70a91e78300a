use Rattle.std.specs.Prelude.{Ok}
use Prim.Native.Nat.{ℕ}
use mathlib.Core.Path.{◌≡◌, sym, ap, ◌∙◌}
use mathlib.Core.Bool.{Bool, true, cond}
use native.Mathlib.Omega.{arith}
use Rattle.window.specs.State.{state_broken, counts_broken}
use Rattle.window.specs.Slots.{sender}
use Rattle.window.specs.declared.TimeoutDecision.TheVariants as decision
use Rattle.window.proofs.Laws.{sound, decision_state, decision_counts, decision_nothing, decision_resend}
use Rattle.selective_repeat.specs.Sender.{due}
use Rattle.selective_repeat.proofs.SelectiveRepeatSender.decide_timeout.Goals as goal

pub returns-then-state_broken : goal.returns-then-state_broken
returns-then-state_broken c = sym (decision_state (state_broken true c.args.self.window c.args.store.now) (counts_broken c.args.self.window) c.args.seq_num (cond (due (sender c.args.self.window c.args.store.now) c.args.seq_num) 1 0) (sym c.state_broken.ensures ∙ c.if-state_broken.true))

pub returns-then-counts_broken : goal.returns-then-counts_broken
returns-then-counts_broken c = sym (decision_counts (state_broken true c.args.self.window c.args.store.now) (counts_broken c.args.self.window) c.args.seq_num (cond (due (sender c.args.self.window c.args.store.now) c.args.seq_num) 1 0) (sym c.state_broken.ensures ∙ c.if-state_broken.false) (sym c.counts_broken.ensures ∙ c.if-counts_broken.true))

pub is_due_unchecked-requires : goal.is_due_unchecked-requires
is_due_unchecked-requires c = let s = sound true c.args.self.window c.args.store.now (sym c.state_broken.ensures ∙ c.if-state_broken.false) in record { window_size_nonzero = s.positive; slot_size_in_bounds = s.room }

pub returns-then-not-is_due_unchecked : goal.returns-then-not-is_due_unchecked
returns-then-not-is_due_unchecked c = sym (decision_nothing (state_broken true c.args.self.window c.args.store.now) (counts_broken c.args.self.window) c.args.seq_num (cond (due (sender c.args.self.window c.args.store.now) c.args.seq_num) 1 0) (sym c.state_broken.ensures ∙ c.if-state_broken.false) (sym c.counts_broken.ensures ∙ c.if-counts_broken.false) (ap (λ (b : Bool). cond b 1 0) (sym c.is_due_unchecked.ensures ∙ c.if-not-is_due_unchecked.true)))

pub returns : goal.returns
returns c = let one : ◌≡◌ {A = ℕ} (cond (due (sender c.args.self.window c.args.store.now) c.args.seq_num) 1 0) 1 = ap (λ (b : Bool). cond b 1 0) (sym c.is_due_unchecked.ensures ∙ c.if-not-is_due_unchecked.false) in
    ap ((λ x. Ok (decision.Resend c.args.seq_num x))) (sym one) ∙ sym (decision_resend (state_broken true c.args.self.window c.args.store.now) (counts_broken c.args.self.window) c.args.seq_num (cond (due (sender c.args.self.window c.args.store.now) c.args.seq_num) 1 0) (sym c.state_broken.ensures ∙ c.if-state_broken.false) (sym c.counts_broken.ensures ∙ c.if-counts_broken.false) (λ e. omega (arith, one)))
