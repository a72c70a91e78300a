use mathlib.Core.Path.{sym, ap, ◌∙◌}
use native.Mathlib.Nat.{le_refl}
use Rattle.bounds.specs.Bounds.{max_duration}
use Rattle.timer.specs.declared.RetransmissionTimer.{RetransmissionTimer}
use Rattle.timer.proofs.Laws.{start_too_late_within}
use Rattle.notes.specs.Notes.{seg_metas}
use Rattle.notes.proofs.Laws.{timely_later, expiry_within}
use Rattle.clock.specs.Clock.{clock}
use Rattle.clock.proofs.Calls.{arm_none, arm_missing, arm_until}
use Rattle.clock.proofs.Clock.arm_oldest.Goals as goal

pub expiry_unchecked-requires : goal.expiry_unchecked-requires
expiry_unchecked-requires c = timely_later c.requires.1.within (le_refl max_duration) c.requires.1

pub started_at_unchecked-requires : goal.started_at_unchecked-requires
started_at_unchecked-requires c = rw c.saturating_sub.ensures (start_too_late_within c.args.self.timer c.args.now _ c.requires.0 c.requires.1.within (expiry_within (seg_metas c.args.notes c.args.rows.now) _ c.args.now _ c.requires.1 (sym c.expiry_unchecked.ensures ∙ c.in-Some-expiry_unchecked.is)).ahead)

pub returns-in-None : goal.returns-in-None
returns-in-None c = c.with_timer.ensures ∙ ap (λ (t : RetransmissionTimer). clock t c.args.self.timers) (c.cancelled_unchecked.ensures ∙ arm_none c.args.self.timer (seg_metas c.args.notes c.args.rows.now) c.args.now c.in-None.is)

pub returns-in-None-expiry_unchecked : goal.returns-in-None-expiry_unchecked
returns-in-None-expiry_unchecked c = c.with_timer-in-None-expiry_unchecked.ensures ∙ ap (λ (t : RetransmissionTimer). clock t c.args.self.timers) (c.cancelled_unchecked-in-None-expiry_unchecked.ensures ∙ arm_missing c.args.self.timer (seg_metas c.args.notes c.args.rows.now) c.args.now c.in-Some.is c.expiry_unchecked.ensures c.in-None-expiry_unchecked.is)

pub returns-in-Some-expiry_unchecked : goal.returns-in-Some-expiry_unchecked
returns-in-Some-expiry_unchecked c = c.with_timer-in-Some-expiry_unchecked.ensures ∙ ap (λ (t : RetransmissionTimer). clock t c.args.self.timers) (c.started_at_unchecked.ensures ∙ arm_until c.args.self.timer (seg_metas c.args.notes c.args.rows.now) c.args.now c.in-Some.is c.expiry_unchecked.ensures c.in-Some-expiry_unchecked.is c.saturating_sub.ensures)
