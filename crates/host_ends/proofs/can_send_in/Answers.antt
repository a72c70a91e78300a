use Rattle.host_ends.specs.Sender.{can_send_in}
use Rattle.host_ends.proofs.can_send_in.Goals as goal

pub returns-in-StopAndWait : goal.returns-in-StopAndWait
unfolding can_send_in
returns-in-StopAndWait c = rw c.in-StopAndWait.is c.can_send.ensures

pub returns-in-GoBackN : goal.returns-in-GoBackN
unfolding can_send_in
returns-in-GoBackN c = rw c.in-GoBackN.is c.can_send-in-GoBackN.ensures

pub returns-in-SelectiveRepeat : goal.returns-in-SelectiveRepeat
unfolding can_send_in
returns-in-SelectiveRepeat c = rw c.in-SelectiveRepeat.is c.can_send-in-SelectiveRepeat.ensures
