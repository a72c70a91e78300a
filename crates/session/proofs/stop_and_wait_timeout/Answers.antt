use native.Mathlib.Omega.{arith}
use Rattle.window.proofs.Laws.{sound, counts_low}
use mathlib.Core.Bool.{false}
use Rattle.session.specs.declared.SenderState.TheVariants as senderState
use Rattle.session.specs.Sending.{sender_in}
use Rattle.session.proofs.Windows.{unbroken_numbers}
use Rattle.session.proofs.Resends.{idle_within, stop_and_wait_nothing, stop_and_wait_resent, marked_within, retry_left}
use Rattle.session.proofs.stop_and_wait_timeout.Goals as goal

pub returns-then-count-eq0 : goal.returns-then-count-eq0
returns-then-count-eq0 c = record { count_after = stop_and_wait_nothing _ _ c.requires _ c.stop_and_wait_count-count.ensures c.if-count-eq0.true; within = idle_within _ _ c.requires c.args.timeout c.stop_and_wait_count-count.ensures }

pub mark_retransmitted_unchecked-s-requires : goal.mark_retransmitted_unchecked-s-requires
mark_retransmitted_unchecked-s-requires c = let room = (sound false _ _ c.requires.state).room in let low = counts_low _ c.requires.counts in record { self_value = (unbroken_numbers (sender_in (senderState.StopAndWait c.args.s) c.args.store.now) c.requires.state, omega arith); total_sent_bound = (low.0, low.1); current_retries_bound = retry_left _ _ c.requires c.args.timeout c.stop_and_wait_count-count.ensures c.if-count-eq0.false }

pub returns : goal.returns
returns c = record { count_after = stop_and_wait_resent _ _ c.requires _ c.stop_and_wait_count-count.ensures c.if-count-eq0.false c.mark_retransmitted_unchecked-s.ensures; within = marked_within _ _ c.requires c.args.timeout c.stop_and_wait_count-count.ensures c.mark_retransmitted_unchecked-s.ensures }
