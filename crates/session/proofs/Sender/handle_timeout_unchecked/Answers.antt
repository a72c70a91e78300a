use Rattle.session.proofs.Resends.{unbroken_in, resent_in}
use Rattle.session.proofs.Sender.handle_timeout_unchecked.Goals as goal

pub stop_and_wait_timeout-requires : goal.stop_and_wait_timeout-requires
stop_and_wait_timeout-requires c = unbroken_in c.args.self.state _ c.args.store.now c.in-StopAndWait.is c.requires

pub go_back_n_timeout-requires : goal.go_back_n_timeout-requires
go_back_n_timeout-requires c = unbroken_in c.args.self.state _ c.args.store.now c.in-GoBackN.is c.requires

pub selective_repeat_timeout-requires : goal.selective_repeat_timeout-requires
selective_repeat_timeout-requires c = unbroken_in c.args.self.state _ c.args.store.now c.in-SelectiveRepeat.is c.requires

pub returns-in-StopAndWait : goal.returns-in-StopAndWait
returns-in-StopAndWait c = record { count_after = resent_in c.args.self.state _ c.args.store.now c.in-StopAndWait.is _ c.stop_and_wait_timeout.ensures.count_after; within = c.stop_and_wait_timeout.ensures.within }

pub returns-in-GoBackN : goal.returns-in-GoBackN
returns-in-GoBackN c = record { count_after = resent_in c.args.self.state _ c.args.store.now c.in-GoBackN.is _ c.go_back_n_timeout.ensures.count_after; within = c.go_back_n_timeout.ensures.within }

pub returns-in-SelectiveRepeat : goal.returns-in-SelectiveRepeat
returns-in-SelectiveRepeat c = record { count_after = resent_in c.args.self.state _ c.args.store.now c.in-SelectiveRepeat.is _ c.selective_repeat_timeout.ensures.count_after; within = c.selective_repeat_timeout.ensures.within }
