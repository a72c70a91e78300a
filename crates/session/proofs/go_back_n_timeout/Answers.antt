use mathlib.Core.Bool.{false}
use Rattle.window.specs.Slots.{sender}
use Rattle.window.proofs.Laws.{sound, counts_low, resendable}
use Rattle.session.proofs.Resends.{count_within, within_marked, go_back_n_resent}
use Rattle.session.proofs.go_back_n_timeout.Goals as goal

pub overflow_sub-window : goal.overflow_sub-window
overflow_sub-window c = (sound false _ _ c.requires.state).ordered

pub mark_retransmitted_from_unchecked-window-requires : goal.mark_retransmitted_from_unchecked-window-requires
mark_retransmitted_from_unchecked-window-requires c = let low = counts_low _ c.requires.counts in let w = count_within false c.args.s.window c.args.store.now c.args.timeout c.requires.state in record { resendable = rw c.resend_count-count.ensures (resendable false _ _ _ _ (sound false _ _ c.requires.state) w.from w.below); total_sent_bound = (low.0, low.1) }

pub returns : goal.returns
returns c = record { count_after = go_back_n_resent (sender c.args.s.window c.args.store.now) c.requires c.args.timeout c.resend_count-count.ensures c.mark_retransmitted_from_unchecked-window.ensures; within = within_marked (sender c.args.s.window c.args.store.now) _ _ _ _ c.mark_retransmitted_from_unchecked-window.ensures (rw c.resend_count-count.ensures (count_within false c.args.s.window c.args.store.now c.args.timeout c.requires.state)) }
