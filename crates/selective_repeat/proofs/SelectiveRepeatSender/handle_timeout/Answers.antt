use mathlib.Core.Path.{refl, sym, ◌∙◌}
use mathlib.Core.Bool.{true, cond}
use native.Mathlib.Omega.{arith}
use Rattle.window.specs.State.{state_broken, counts_broken}
use Rattle.window.specs.Slots.{sender}
use Rattle.window.specs.Resending.{by_timeout_decision}
use Rattle.window.proofs.Laws.{sound, counts_low, resendable, by_decision_lem, decided}
use Rattle.selective_repeat.specs.Sender.{due}
use Rattle.selective_repeat.proofs.Due.{due_range}
use Rattle.refusal.proofs.Laws.{ok_is}
use Rattle.selective_repeat.proofs.SelectiveRepeatSender.handle_timeout.Goals as goal

pub resend_unchecked-result-requires : goal.resend_unchecked-result-requires
resend_unchecked-result-requires c = let d = decided (state_broken true c.args.self.window c.args.store.now) (counts_broken c.args.self.window) c.args.seq_num (cond (due (sender c.args.self.window c.args.store.now) c.args.seq_num) 1 0) _ _ (sym c.decide_timeout.ensures ∙ (ok_is c.in-Ok-Resend.is c.in-Ok-Resend.field-0-is)) in
    let s = sound true c.args.self.window c.args.store.now d.state_sound in
    let range = due_range (sender c.args.self.window c.args.store.now) c.args.seq_num d.some in
    let from = range.0 in
    let below = range.1 in
    let first = d.first in
    let count = d.count in record { resendable = resendable true c.args.self.window c.args.store.now _ _ s (omega arith) (omega arith); total_sent_bound = counts_low c.args.self.window d.counts_low }

pub returns-in-Ok-Resend : goal.returns-in-Ok-Resend
unfolding by_timeout_decision
returns-in-Ok-Resend c = by_decision_lem (state_broken true c.args.self.window c.args.store.now) (counts_broken c.args.self.window) (sender c.args.self.window c.args.store.now) c.args.seq_num (cond (due (sender c.args.self.window c.args.store.now) c.args.seq_num) 1 0) c.args.out.now _ (sym c.decide_timeout.ensures ∙ (ok_is c.in-Ok-Resend.is c.in-Ok-Resend.field-0-is)) c.resend_unchecked-result.ensures

pub returns-in-Ok-Nothing : goal.returns-in-Ok-Nothing
unfolding by_timeout_decision
returns-in-Ok-Nothing c = by_decision_lem (state_broken true c.args.self.window c.args.store.now) (counts_broken c.args.self.window) (sender c.args.self.window c.args.store.now) c.args.seq_num (cond (due (sender c.args.self.window c.args.store.now) c.args.seq_num) 1 0) c.args.out.now _ (sym c.decide_timeout.ensures ∙ (ok_is c.in-Ok-Nothing.is c.in-Ok-Nothing.field-0-is)) refl

pub returns-in-Err : goal.returns-in-Err
unfolding by_timeout_decision
returns-in-Err c = by_decision_lem (state_broken true c.args.self.window c.args.store.now) (counts_broken c.args.self.window) (sender c.args.self.window c.args.store.now) c.args.seq_num (cond (due (sender c.args.self.window c.args.store.now) c.args.seq_num) 1 0) c.args.out.now _ (sym c.decide_timeout.ensures ∙ c.in-Err.is) refl
