use Rattle.host_ends.specs.Receiver.{buffered_count_in}
use Rattle.host_ends.proofs.buffered_count_in.Goals as goal

pub returns-in-StopAndWait : goal.returns-in-StopAndWait
unfolding buffered_count_in
returns-in-StopAndWait c = rw (c.in-StopAndWait.is, c.none_held.ensures, c.counts_broken.ensures)

pub returns-in-GoBackN : goal.returns-in-GoBackN
unfolding buffered_count_in
returns-in-GoBackN c = rw (c.in-GoBackN.is, c.none_held-in-GoBackN.ensures, c.counts_broken-in-GoBackN.ensures)

pub returns-in-SelectiveRepeat : goal.returns-in-SelectiveRepeat
unfolding buffered_count_in
returns-in-SelectiveRepeat c = rw c.in-SelectiveRepeat.is c.buffered_count.ensures
