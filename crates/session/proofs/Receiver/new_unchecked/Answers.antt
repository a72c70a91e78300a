use Rattle.session.proofs.Receives.{receiver_slots_in, receiver_made_in, stop_and_wait_receiver_made, go_back_n_receiver_made, selective_repeat_receiver_made}
use Rattle.session.proofs.Receiver.new_unchecked.Goals as goal

pub empty_all_unchecked-requires : goal.empty_all_unchecked-requires
empty_all_unchecked-requires c = receiver_slots_in _ _ c.args.window_size c.args.store.now c.in-SelectiveRepeat.is c.requires

pub returns-in-StopAndWait : goal.returns-in-StopAndWait
returns-in-StopAndWait c = receiver_made_in _ _ _ _ c.in-StopAndWait.is (stop_and_wait_receiver_made _ _ c.new.ensures)

pub returns-in-GoBackN : goal.returns-in-GoBackN
returns-in-GoBackN c = receiver_made_in _ _ _ _ c.in-GoBackN.is (go_back_n_receiver_made _ _ c.new-in-GoBackN.ensures)

pub returns-in-SelectiveRepeat : goal.returns-in-SelectiveRepeat
returns-in-SelectiveRepeat c = receiver_made_in _ _ _ _ c.in-SelectiveRepeat.is (selective_repeat_receiver_made _ _ c.empty_all_unchecked.ensures)
