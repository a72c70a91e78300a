use Rattle.host_words.specs.Words.{with_sender}
use Rattle.host_words.proofs.put_sender_unchecked.Goals as goal

pub returns-in-StopAndWait : goal.returns-in-StopAndWait
unfolding with_sender
returns-in-StopAndWait c = rw c.in-StopAndWait.is c.put_stop_and_wait_unchecked.ensures

pub returns-in-GoBackN : goal.returns-in-GoBackN
unfolding with_sender
returns-in-GoBackN c = rw c.in-GoBackN.is c.put_window_unchecked.ensures

pub returns-in-SelectiveRepeat : goal.returns-in-SelectiveRepeat
unfolding with_sender
returns-in-SelectiveRepeat c = rw c.in-SelectiveRepeat.is c.put_window_unchecked-in-SelectiveRepeat.ensures
