use mathlib.Core.Path.{ap}
use Rattle.host_session.proofs.Cases.{timed_out_in, number_timed_out}
use Rattle.session.specs.Sending.{stop_and_wait_end, go_back_nEnd, timed_out_as}
use Rattle.window.specs.Slots.{sender}
use Rattle.host_session.proofs.handle_timeout.Goals as goal

pub returns-in-StopAndWait : goal.returns-in-StopAndWait
returns-in-StopAndWait c = timed_out_in c.args.sender.state c.args.store.now c.in-StopAndWait.is c.args.timeout c.args.out.now (ap (timed_out_as stop_and_wait_end) c.handle_timeout-result.ensures)

pub returns-in-GoBackN : goal.returns-in-GoBackN
returns-in-GoBackN c = timed_out_in c.args.sender.state c.args.store.now c.in-GoBackN.is c.args.timeout c.args.out.now (ap (timed_out_as go_back_nEnd) c.go_back_n_timeout-result.ensures)

pub returns-in-SelectiveRepeat : goal.returns-in-SelectiveRepeat
returns-in-SelectiveRepeat c = timed_out_in c.args.sender.state c.args.store.now c.in-SelectiveRepeat.is c.args.timeout c.args.out.now (number_timed_out c.in-SelectiveRepeat.s.window c.args.store.now c.args.timeout c.args.out.now c.handle_timeout-result-in-SelectiveRepeat.ensures c.timeout_number-n.ensures)
