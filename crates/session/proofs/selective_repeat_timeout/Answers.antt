use mathlib.Core.Path.{sym, ◌∙◌}
use mathlib.Core.Bool.{true}
use native.Mathlib.Omega.{arith}
use Rattle.window.specs.Slots.{sender}
use Rattle.window.proofs.Laws.{sound, counts_low, resendable}
use Rattle.session.proofs.Resends.{due_number, within_marked, selective_repeat_resent, selective_repeat_nothing}
use Rattle.session.proofs.selective_repeat_timeout.Goals as goal

pub is_due_unchecked-requires : goal.is_due_unchecked-requires
is_due_unchecked-requires c = let h = sound true _ _ c.requires.state in record { window_size_nonzero = h.positive; slot_size_in_bounds = h.room }

pub mark_retransmitted_from_unchecked-window-requires : goal.mark_retransmitted_from_unchecked-window-requires
mark_retransmitted_from_unchecked-window-requires c = let low = counts_low _ c.requires.counts in let w = due_number (sender c.args.s.window c.args.store.now) c.requires c.args.timeout c.timeout_number-n.ensures (sym c.is_due_unchecked.ensures ∙ c.if-is_due_unchecked.true) in record { resendable = resendable true _ _ _ _ (sound true _ _ c.requires.state) w.from w.below; total_sent_bound = (low.0, low.1) }

pub returns-then-is_due_unchecked : goal.returns-then-is_due_unchecked
returns-then-is_due_unchecked c = record { count_after = selective_repeat_resent (sender c.args.s.window c.args.store.now) c.requires c.args.timeout c.timeout_number-n.ensures (sym c.is_due_unchecked.ensures ∙ c.if-is_due_unchecked.true) c.mark_retransmitted_from_unchecked-window.ensures; within = within_marked (sender c.args.s.window c.args.store.now) _ _ _ _ c.mark_retransmitted_from_unchecked-window.ensures (due_number (sender c.args.s.window c.args.store.now) c.requires c.args.timeout c.timeout_number-n.ensures (sym c.is_due_unchecked.ensures ∙ c.if-is_due_unchecked.true)) }

pub returns : goal.returns
returns c = let o = (sound true _ _ c.requires.state).ordered in record { count_after = selective_repeat_nothing (sender c.args.s.window c.args.store.now) c.requires c.args.timeout c.timeout_number-n.ensures c.args.s.window.send_base (sym c.is_due_unchecked.ensures ∙ c.if-is_due_unchecked.false); within = record { from = omega arith; below = omega arith } }
