use mathlib.Core.Path.{sym}
use Rattle.host_words.proofs.Words.{sender_as}
use Rattle.host_words.proofs.held_sender.Goals as goal

pub stop_and_wait_in_unchecked-sender-requires : goal.stop_and_wait_in_unchecked-sender-requires
stop_and_wait_in_unchecked-sender-requires c = let k = sender_as c.args.state.now c.in-StopAndWait.is c.sender_kind.ensures in (k.0, k.1)

pub window_in_unchecked-window-requires : goal.window_in_unchecked-window-requires
window_in_unchecked-window-requires c = (sender_as c.args.state.now c.in-GoBackN.is c.sender_kind.ensures).0

pub window_in_unchecked-window-requires-in-SelectiveRepeat : goal.window_in_unchecked-window-requires-in-SelectiveRepeat
window_in_unchecked-window-requires-in-SelectiveRepeat c = (sender_as c.args.state.now c.in-SelectiveRepeat.is c.sender_kind.ensures).0

pub returns-in-StopAndWait : goal.returns-in-StopAndWait
returns-in-StopAndWait c = rw c.stop_and_wait_in_unchecked-sender.ensures (sym (sender_as c.args.state.now c.in-StopAndWait.is c.sender_kind.ensures).2)

pub returns-in-GoBackN : goal.returns-in-GoBackN
returns-in-GoBackN c = rw c.window_in_unchecked-window.ensures (sym (sender_as c.args.state.now c.in-GoBackN.is c.sender_kind.ensures).1)

pub returns-in-SelectiveRepeat : goal.returns-in-SelectiveRepeat
returns-in-SelectiveRepeat c = rw c.window_in_unchecked-window-in-SelectiveRepeat.ensures (sym (sender_as c.args.state.now c.in-SelectiveRepeat.is c.sender_kind.ensures).1)

pub returns-in-Broken : goal.returns-in-Broken
returns-in-Broken c = sym (sender_as c.args.state.now c.in-Broken.is c.sender_kind.ensures)
