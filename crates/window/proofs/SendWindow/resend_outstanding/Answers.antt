use mathlib.Core.Bool.{false}
use Prim.Native.Nat.{min}
use mathlib.Core.Path.{refl, sym, ◌∙◌}
use native.Mathlib.Omega.{arith}
use Rattle.window.specs.State.{outstanding, state_broken, counts_broken}
use Rattle.window.specs.Slots.{sender}
use Rattle.window.specs.Resending.{by_timeout_decision}
use Rattle.window.proofs.Sound.{sound, counts_low}
use Rattle.window.proofs.Resending.{resendable}
use Rattle.window.proofs.Timeouts.{by_decision_lem, decided}
use Rattle.refusal.proofs.Laws.{ok_is}
use Rattle.window.proofs.SendWindow.resend_outstanding.Goals as goal

pub resend_unchecked-requires : goal.resend_unchecked-requires
resend_unchecked-requires c = let d = decided (state_broken false c.args.self c.args.store.now) (counts_broken c.args.self) c.args.self.send_base (min c.args.most (outstanding c.args.self)) _ _ (sym c.decide_timeout.ensures ∙ (ok_is c.in-Ok-Resend.is c.in-Ok-Resend.field-0-is)) in
    let s = sound false c.args.self c.args.store.now d.state_sound in
    let ordered = s.ordered in
    let first = d.first in
    let count = d.count in record { resendable = resendable false c.args.self c.args.store.now _ _ s (omega arith) (omega arith); total_sent_bound = counts_low c.args.self d.counts_low }

pub returns-in-Ok-Resend : goal.returns-in-Ok-Resend
unfolding by_timeout_decision
returns-in-Ok-Resend c = by_decision_lem (state_broken false c.args.self c.args.store.now) (counts_broken c.args.self) (sender c.args.self c.args.store.now) c.args.self.send_base (min c.args.most (outstanding c.args.self)) c.args.out.now _ (sym c.decide_timeout.ensures ∙ (ok_is c.in-Ok-Resend.is c.in-Ok-Resend.field-0-is)) c.resend_unchecked.ensures

pub returns-in-Ok-Nothing : goal.returns-in-Ok-Nothing
unfolding by_timeout_decision
returns-in-Ok-Nothing c = by_decision_lem (state_broken false c.args.self c.args.store.now) (counts_broken c.args.self) (sender c.args.self c.args.store.now) c.args.self.send_base (min c.args.most (outstanding c.args.self)) c.args.out.now _ (sym c.decide_timeout.ensures ∙ (ok_is c.in-Ok-Nothing.is c.in-Ok-Nothing.field-0-is)) refl

pub returns-in-Err : goal.returns-in-Err
unfolding by_timeout_decision
returns-in-Err c = by_decision_lem (state_broken false c.args.self c.args.store.now) (counts_broken c.args.self) (sender c.args.self c.args.store.now) c.args.self.send_base (min c.args.most (outstanding c.args.self)) c.args.out.now _ (sym c.decide_timeout.ensures ∙ c.in-Err.is) refl
