use mathlib.Core.Path.{ap}
use mathlib.Core.Bool.{not}
use Rattle.step.proofs.Settling.{idle_unsent, idle_forward, idle_reverse, idle_waiting, idle_timers}
use Rattle.step.proofs.ends.sender_idle.Goals as goal

pub returns-then-seq-total_chunks : goal.returns-then-seq-total_chunks
returns-then-seq-total_chunks c = idle_unsent c.args.total_chunks c.args.sender c.args.forward c.args.reverse c.args.clock c.next_seq_num_unchecked-seq.ensures c.if-seq-total_chunks.true

pub returns-then-not-forward_empty : goal.returns-then-not-forward_empty
returns-then-not-forward_empty c = idle_forward c.args.total_chunks c.args.sender c.args.forward c.args.reverse c.args.clock c.next_seq_num_unchecked-seq.ensures c.if-seq-total_chunks.false c.is_empty-forward_empty.ensures (ap not c.if-not-forward_empty.true)

pub returns-then-not-reverse_empty : goal.returns-then-not-reverse_empty
returns-then-not-reverse_empty c = idle_reverse c.args.total_chunks c.args.sender c.args.forward c.args.reverse c.args.clock c.next_seq_num_unchecked-seq.ensures c.if-seq-total_chunks.false c.is_empty-forward_empty.ensures (ap not c.if-not-forward_empty.false) c.is_empty-reverse_empty.ensures (ap not c.if-not-reverse_empty.true)

pub returns-then-outstanding : goal.returns-then-outstanding
returns-then-outstanding c = idle_waiting c.args.total_chunks c.args.sender c.args.forward c.args.reverse c.args.clock c.next_seq_num_unchecked-seq.ensures c.if-seq-total_chunks.false c.is_empty-forward_empty.ensures (ap not c.if-not-forward_empty.false) c.is_empty-reverse_empty.ensures (ap not c.if-not-reverse_empty.false) c.has_outstanding_unchecked-outstanding.ensures c.if-outstanding.true

pub returns : goal.returns
returns c = idle_timers c.args.total_chunks c.args.sender c.args.forward c.args.reverse c.args.clock c.next_seq_num_unchecked-seq.ensures c.if-seq-total_chunks.false c.is_empty-forward_empty.ensures (ap not c.if-not-forward_empty.false) c.is_empty-reverse_empty.ensures (ap not c.if-not-reverse_empty.false) c.has_outstanding_unchecked-outstanding.ensures c.if-outstanding.false
