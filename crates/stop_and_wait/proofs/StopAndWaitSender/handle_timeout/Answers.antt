use Prim.Native.Nat.{◌<◌, min}
use mathlib.Core.Path.{refl, sym, ap, subst, ◌∙◌}
use mathlib.Core.Bool.{false}
use native.Mathlib.Omega.{arith}
use Rattle.bounds.specs.Bounds.{count_limit}
use Rattle.window.specs.State.{outstanding, state_broken, counts_broken}
use Rattle.window.specs.Slots.{sender}
use Rattle.window.specs.Resending.{resend, by_timeout_decision, Resendable}
use Rattle.window.specs.declared.SendWindow.{SendWindow}
use Rattle.window.proofs.Laws.{sound, sound_numbers, numbers_not_broken, counts_low, resendable, by_decision_lem, decided}
use Rattle.stop_and_wait.specs.Sender.{window_of, end_of, window_end, retries_left, timed_out}
use Rattle.stop_and_wait.proofs.Senders.{timed_out_is, retry_left}
use Rattle.refusal.proofs.Laws.{ok_is}
use Rattle.stop_and_wait.proofs.StopAndWaitSender.handle_timeout.Goals as goal

pub window_unchecked-window-requires : goal.window_unchecked-window-requires
window_unchecked-window-requires c = let d = decided (state_broken false (window_of c.args.self) c.args.store.now) (counts_broken (window_of c.args.self)) c.args.self.current_seq (min (retries_left c.args.self) (outstanding (window_of c.args.self))) _ _ (sym c.decide_timeout.ensures ∙ (ok_is c.in-Ok-Resend.is c.in-Ok-Resend.field-0-is)) in numbers_not_broken (window_of c.args.self) (sound_numbers (sound false (window_of c.args.self) c.args.store.now d.state_sound))

pub resend_unchecked-result-requires : goal.resend_unchecked-result-requires
resend_unchecked-result-requires c = let d = decided (state_broken false (window_of c.args.self) c.args.store.now) (counts_broken (window_of c.args.self)) c.args.self.current_seq (min (retries_left c.args.self) (outstanding (window_of c.args.self))) _ _ (sym c.decide_timeout.ensures ∙ (ok_is c.in-Ok-Resend.is c.in-Ok-Resend.field-0-is)) in
    let s = sound false (window_of c.args.self) c.args.store.now d.state_sound in
    let ordered = s.ordered in
    let first = d.first in
    let count = d.count in
    let both = subst (λ (w : SendWindow). Resendable w c.args.store.now c.in-Ok-Resend.first c.in-Ok-Resend.count × ((w.total_sent < count_limit) × (w.retransmissions < count_limit)))
    (sym c.window_unchecked-window.ensures) (resendable false (window_of c.args.self) c.args.store.now c.in-Ok-Resend.first c.in-Ok-Resend.count s (omega arith) (omega arith), counts_low (window_of c.args.self) d.counts_low) in
    record { resendable = both.0; total_sent_bound = both.1 }

pub after_timeout_unchecked-requires : goal.after_timeout_unchecked-requires
after_timeout_unchecked-requires c = λ n g. let d = decided (state_broken false (window_of c.args.self) c.args.store.now) (counts_broken (window_of c.args.self)) c.args.self.current_seq (min (retries_left c.args.self) (outstanding (window_of c.args.self))) _ _ (sym c.decide_timeout.ensures ∙ (ok_is c.in-Ok-Resend.is c.in-Ok-Resend.field-0-is)) in retry_left c.args.self (outstanding (window_of c.args.self)) d.some

pub returns-in-Ok-Resend : goal.returns-in-Ok-Resend
unfolding by_timeout_decision
returns-in-Ok-Resend c = timed_out_is c.args.self _ _ _ _ c.after_timeout_unchecked.ensures
    (by_decision_lem (state_broken false (window_of c.args.self) c.args.store.now) (counts_broken (window_of c.args.self)) (window_end (end_of c.args.self c.args.store.now)) c.args.self.current_seq (min (retries_left c.args.self) (outstanding (window_of c.args.self))) c.args.out.now _ (sym c.decide_timeout.ensures ∙ (ok_is c.in-Ok-Resend.is c.in-Ok-Resend.field-0-is)) (c.resend_unchecked-result.ensures ∙ ap (λ (w : SendWindow). resend false false (sender w c.args.store.now) c.in-Ok-Resend.first c.in-Ok-Resend.count c.args.out.now) c.window_unchecked-window.ensures))

pub returns-in-Ok-Nothing : goal.returns-in-Ok-Nothing
unfolding by_timeout_decision
returns-in-Ok-Nothing c = ap (timed_out c.args.self) (by_decision_lem (state_broken false (window_of c.args.self) c.args.store.now) (counts_broken (window_of c.args.self)) (window_end (end_of c.args.self c.args.store.now)) c.args.self.current_seq (min (retries_left c.args.self) (outstanding (window_of c.args.self))) c.args.out.now _ (sym c.decide_timeout.ensures ∙ (ok_is c.in-Ok-Nothing.is c.in-Ok-Nothing.field-0-is)) refl)

pub returns-in-Err : goal.returns-in-Err
unfolding by_timeout_decision
returns-in-Err c = ap (timed_out c.args.self) (by_decision_lem (state_broken false (window_of c.args.self) c.args.store.now) (counts_broken (window_of c.args.self)) (window_end (end_of c.args.self c.args.store.now)) c.args.self.current_seq (min (retries_left c.args.self) (outstanding (window_of c.args.self))) c.args.out.now _ (sym c.decide_timeout.ensures ∙ c.in-Err.is) refl)
