use mathlib.Core.Path.{sym}
use lib.ListN.{replicate}
use Rattle.bounds.specs.Bounds.{max_datagram}
use Rattle.window.specs.Slots.{datagram_for}
use Rattle.path.specs.Direction.{direction}
use Rattle.notes.specs.Notes.{seg_metas}
use Rattle.multi_timer.specs.MultiTimer.{timers_exit}
use Rattle.session.specs.Sending.{sender_end, window_end}
use Rattle.submission.specs.Submission.{outgoing}
use Rattle.sending.proofs.Calls.{ample}
use Rattle.sending.proofs.Retransmits.{packet_fits, packet_is, packet_short, packet_cut, resend_numbers, can_count, can_write, can_resubmit, resends}
use Rattle.sending.proofs.retransmit_unchecked.Goals as goal

pub oldest_outstanding_unchecked-oldest-requires : goal.oldest_outstanding_unchecked-oldest-requires
oldest_outstanding_unchecked-oldest-requires c = resend_numbers c.requires

pub is_premature_unchecked-premature-requires : goal.is_premature_unchecked-premature-requires
is_premature_unchecked-premature-requires c = c.requires.good.notes.fits

pub counted_again-resends-requires : goal.counted_again-resends-requires
counted_again-resends-requires c = can_count c.requires c.is_premature_unchecked-premature.result

pub write_datagram_unchecked-len-requires : goal.write_datagram_unchecked-len-requires
write_datagram_unchecked-len-requires c = can_write c.requires (replicate max_datagram 0) ample

pub slice_bounds-wire-end : goal.slice_bounds-wire-end
slice_bounds-wire-end c = packet_fits (datagram_for (window_end (sender_end c.args.sender c.args.store.now)) c.args.seq) _ c.write_datagram_unchecked-len.ensures.value c.write_datagram_unchecked-len.ensures.out_after c.write_datagram_unchecked-len.auto.out

pub slice_bounds-submit_unchecked-end : goal.slice_bounds-submit_unchecked-end
slice_bounds-submit_unchecked-end c = sym (packet_cut (datagram_for (window_end (sender_end c.args.sender c.args.store.now)) c.args.seq) _ c.write_datagram_unchecked-len.ensures.value c.write_datagram_unchecked-len.ensures.out_after c.write_datagram_unchecked-len.auto.out)

pub submit_unchecked-submitted-requires : goal.submit_unchecked-submitted-requires
submit_unchecked-submitted-requires c = can_resubmit c.requires _ _ (packet_short (datagram_for (window_end (sender_end c.args.sender c.args.store.now)) c.args.seq) _ c.write_datagram_unchecked-len.ensures.value c.write_datagram_unchecked-len.ensures.out_after c.write_datagram_unchecked-len.auto.out)

pub returns : goal.returns
returns c = resends c.args.timing c.args.rolls.now c.args.rto c.args.now (sender_end c.args.sender c.args.store.now) c.args.seq c.args.resends (outgoing (direction c.args.records.now c.args.places.now c.args.outbound.forward) (seg_metas c.args.outbound.notes c.args.rows.now) c.args.outbound.events c.args.events.now (timers_exit c.args.outbound.clock c.args.keys.now c.args.deadlines.now)) c.oldest_outstanding_unchecked-oldest.ensures c.is_premature_unchecked-premature.ensures c.counted_again-resends.ensures (packet_is (datagram_for (window_end (sender_end c.args.sender c.args.store.now)) c.args.seq) _ c.write_datagram_unchecked-len.ensures.value c.write_datagram_unchecked-len.ensures.out_after c.write_datagram_unchecked-len.auto.out) c.submit_unchecked-submitted.ensures.stop_after
