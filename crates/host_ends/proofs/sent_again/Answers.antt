use borrow.Author.Tests.{lt-leb, le-leb, lt-ltb, le-ltb}
use Rattle.store.proofs.Laws.{slot_in}
use Rattle.host_ends.specs.Sender.{sent_again}
use Rattle.host_ends.proofs.sent_again.Goals as goal

pub returns-then-seq_num-window : goal.returns-then-seq_num-window
unfolding sent_again
returns-then-seq_num-window c = rw (lt-leb _ _ c.if-seq_num-window.true) c.pack_unchecked.ensures

pub returns-then-window-seq_num : goal.returns-then-window-seq_num
unfolding sent_again
returns-then-window-seq_num c = rw (le-leb _ _ c.if-seq_num-window.false, le-ltb _ _ c.if-window-seq_num.true) c.pack_unchecked-then-window-seq_num.ensures

pub flags_unchecked-requires : goal.flags_unchecked-requires
flags_unchecked-requires c = slot_in c.args.store.now c.args.seq_num c.args.window.window_size c.requires.window_size_nonzero c.requires.slot_size_in_bounds

pub returns : goal.returns
unfolding sent_again
returns c = rw (le-leb _ _ c.if-seq_num-window.false, lt-ltb _ _ c.if-window-seq_num.false, c.test_answer.ensures, c.flags_unchecked.ensures)
