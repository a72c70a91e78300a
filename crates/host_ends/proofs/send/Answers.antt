use mathlib.Core.Path.{ap}
use Rattle.window.specs.declared.SendWindow.{SendWindow}
use Rattle.session.specs.declared.SenderState.TheVariants as senderState
use Rattle.session.specs.Sending.{sent_as, stop_and_wait_end, go_back_nEnd, selective_repeat_end}
use Rattle.host_words.specs.Words.{with_sender}
use Rattle.host_words.proofs.Words.{sender_as}
use Rattle.host_ends.specs.Answers.{send_code}
use Rattle.host_ends.proofs.Calls.{sent_of, on_send_broken}
use Rattle.host_ends.proofs.send.Goals as goal

pub stop_and_wait_in_unchecked-sender-requires : goal.stop_and_wait_in_unchecked-sender-requires
stop_and_wait_in_unchecked-sender-requires c = let k = sender_as c.args.state.now c.in-StopAndWait.is c.sender_kind.ensures in (k.0, k.1)

pub put_stop_and_wait_unchecked-requires : goal.put_stop_and_wait_unchecked-requires
put_stop_and_wait_unchecked-requires c = (sender_as c.args.state.now c.in-StopAndWait.is c.sender_kind.ensures).0.long

pub window_in_unchecked-window-requires : goal.window_in_unchecked-window-requires
window_in_unchecked-window-requires c = (sender_as c.args.state.now c.in-GoBackN.is c.sender_kind.ensures).0

pub put_window_unchecked-requires : goal.put_window_unchecked-requires
put_window_unchecked-requires c = (sender_as c.args.state.now c.in-GoBackN.is c.sender_kind.ensures).0.long

pub window_in_unchecked-window-requires-in-SelectiveRepeat : goal.window_in_unchecked-window-requires-in-SelectiveRepeat
window_in_unchecked-window-requires-in-SelectiveRepeat c = (sender_as c.args.state.now c.in-SelectiveRepeat.is c.sender_kind.ensures).0

pub put_window_unchecked-requires-in-SelectiveRepeat : goal.put_window_unchecked-requires-in-SelectiveRepeat
put_window_unchecked-requires-in-SelectiveRepeat c = (sender_as c.args.state.now c.in-SelectiveRepeat.is c.sender_kind.ensures).0.long

pub returns-in-StopAndWait : goal.returns-in-StopAndWait
unfolding with_sender send_code
returns-in-StopAndWait c = sent_of c.args.state.now c.args.store.now c.args.payload.now c.args.out.now (sender_as c.args.state.now c.in-StopAndWait.is c.sender_kind.ensures).2 (ap senderState.StopAndWait c.stop_and_wait_in_unchecked-sender.ensures) (ap (sent_as stop_and_wait_end) c.send_chunk-result.ensures) c.put_stop_and_wait_unchecked.ensures (rw c.widened.ensures at c.optional_answer.ensures)

pub returns-in-GoBackN : goal.returns-in-GoBackN
unfolding with_sender send_code
returns-in-GoBackN c = sent_of c.args.state.now c.args.store.now c.args.payload.now c.args.out.now (sender_as c.args.state.now c.in-GoBackN.is c.sender_kind.ensures).1 (ap (λ (w : SendWindow). senderState.GoBackN (record { window = w })) c.window_in_unchecked-window.ensures) (ap (sent_as go_back_nEnd) c.send_chunk-result-in-GoBackN.ensures) c.put_window_unchecked.ensures (rw c.widened-in-GoBackN.ensures at c.optional_answer-in-GoBackN.ensures)

pub returns-in-SelectiveRepeat : goal.returns-in-SelectiveRepeat
unfolding with_sender send_code
returns-in-SelectiveRepeat c = sent_of c.args.state.now c.args.store.now c.args.payload.now c.args.out.now (sender_as c.args.state.now c.in-SelectiveRepeat.is c.sender_kind.ensures).1 (ap (λ (w : SendWindow). senderState.SelectiveRepeat (record { window = w })) c.window_in_unchecked-window-in-SelectiveRepeat.ensures) (ap (sent_as selective_repeat_end) c.send_chunk-result-in-SelectiveRepeat.ensures) c.put_window_unchecked-in-SelectiveRepeat.ensures (rw c.widened-in-SelectiveRepeat.ensures at c.optional_answer-in-SelectiveRepeat.ensures)

pub returns-in-Broken : goal.returns-in-Broken
returns-in-Broken c = on_send_broken c.args.state.now c.args.store.now c.args.payload.now c.args.out.now (sender_as c.args.state.now c.in-Broken.is c.sender_kind.ensures) c.refusal_answer.ensures
