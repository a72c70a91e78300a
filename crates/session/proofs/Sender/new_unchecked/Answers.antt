use native.Mathlib.Omega.{arith}
use Rattle.session.proofs.Sends.{slots_in, made_in, stop_and_wait_made, go_back_n_made, selective_repeat_made}
use Rattle.session.proofs.Sender.new_unchecked.Goals as goal

pub new_unchecked-window-requires : goal.new_unchecked-window-requires
new_unchecked-window-requires c = let room = slots_in _ _ c.args.window_size c.args.store.now c.in-StopAndWait.is c.requires in omega arith

pub new_unchecked-window-requires-in-GoBackN : goal.new_unchecked-window-requires-in-GoBackN
new_unchecked-window-requires-in-GoBackN c = slots_in _ _ c.args.window_size c.args.store.now c.in-GoBackN.is c.requires

pub new_unchecked-window-requires-in-SelectiveRepeat : goal.new_unchecked-window-requires-in-SelectiveRepeat
new_unchecked-window-requires-in-SelectiveRepeat c = slots_in _ _ c.args.window_size c.args.store.now c.in-SelectiveRepeat.is c.requires

pub returns-in-StopAndWait : goal.returns-in-StopAndWait
returns-in-StopAndWait c = made_in _ _ _ _ _ c.in-StopAndWait.is (stop_and_wait_made _ _ _ c.new_unchecked-window.ensures)

pub returns-in-GoBackN : goal.returns-in-GoBackN
returns-in-GoBackN c = made_in _ _ _ _ _ c.in-GoBackN.is (go_back_n_made _ _ _ c.new_unchecked-window-in-GoBackN.ensures)

pub returns-in-SelectiveRepeat : goal.returns-in-SelectiveRepeat
returns-in-SelectiveRepeat c = made_in _ _ _ _ _ c.in-SelectiveRepeat.is (selective_repeat_made _ _ _ c.new_unchecked-window-in-SelectiveRepeat.ensures)
