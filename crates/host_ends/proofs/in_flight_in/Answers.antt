use Rattle.host_ends.specs.Sender.{in_flight_in}
use Rattle.host_ends.proofs.in_flight_in.Goals as goal

pub returns-in-StopAndWait : goal.returns-in-StopAndWait
unfolding in_flight_in
returns-in-StopAndWait c = rw (c.unless_refused.ensures, c.check_sender.ensures, c.test_answer-answer.ensures, c.is_waiting_for_ack.ensures, c.in-StopAndWait.is)

pub returns-in-GoBackN : goal.returns-in-GoBackN
unfolding in_flight_in
returns-in-GoBackN c = rw (c.unless_refused-in-GoBackN.ensures, c.check_sender-in-GoBackN.ensures, c.count_answer-answer.ensures, c.in_flight_count.ensures, c.in-GoBackN.is)

pub returns-in-SelectiveRepeat : goal.returns-in-SelectiveRepeat
unfolding in_flight_in
returns-in-SelectiveRepeat c = rw (c.in-SelectiveRepeat.is, c.count_answer.ensures, c.in_flight_count-in-SelectiveRepeat.ensures)
