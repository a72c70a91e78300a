use Rattle.session.specs.declared.SenderState.TheVariants as senderState
use Rattle.session.specs.Sending.{sender_in}
use Rattle.session.proofs.Windows.{unbroken_numbers}
use Rattle.session.proofs.Sends.{can_send_in, can_send_chunk, sent_in, stop_and_wait_sent, go_back_n_sent, selective_repeat_sent}
use Rattle.session.proofs.Sender.send_chunk_unchecked.Goals as goal

pub send_chunk_unchecked-s-requires : goal.send_chunk_unchecked-s-requires
send_chunk_unchecked-s-requires c = let h = can_send_in c.args.self.state _ c.args.store.now c.args.payload.now c.args.out.now c.in-StopAndWait.is c.requires in record { self_value = unbroken_numbers (sender_in (senderState.StopAndWait c.in-StopAndWait.s) c.args.store.now) h.unbroken.state; can_send_chunk = can_send_chunk _ _ _ h; clean = λ e. h.unbroken.clean }

pub send_chunk_unchecked-window-requires : goal.send_chunk_unchecked-window-requires
send_chunk_unchecked-window-requires c = let h = can_send_in c.args.self.state _ c.args.store.now c.args.payload.now c.args.out.now c.in-GoBackN.is c.requires in record { can_send_chunk = can_send_chunk _ _ _ h; clean = λ e. h.unbroken.clean }

pub send_chunk_unchecked-window-requires-in-SelectiveRepeat : goal.send_chunk_unchecked-window-requires-in-SelectiveRepeat
send_chunk_unchecked-window-requires-in-SelectiveRepeat c = let h = can_send_in c.args.self.state _ c.args.store.now c.args.payload.now c.args.out.now c.in-SelectiveRepeat.is c.requires in record { can_send_chunk = can_send_chunk _ _ _ h; clean = λ e. h.unbroken.clean }

pub returns-in-StopAndWait : goal.returns-in-StopAndWait
returns-in-StopAndWait c = sent_in c.args.self.state _ c.args.store.now c.args.payload.now c.args.out.now c.in-StopAndWait.is (stop_and_wait_sent _ _ _ _ (can_send_in c.args.self.state _ c.args.store.now c.args.payload.now c.args.out.now c.in-StopAndWait.is c.requires) c.send_chunk_unchecked-s.ensures)

pub returns-in-GoBackN : goal.returns-in-GoBackN
returns-in-GoBackN c = sent_in c.args.self.state _ c.args.store.now c.args.payload.now c.args.out.now c.in-GoBackN.is (go_back_n_sent _ _ _ _ (can_send_in c.args.self.state _ c.args.store.now c.args.payload.now c.args.out.now c.in-GoBackN.is c.requires) c.send_chunk_unchecked-window.ensures)

pub returns-in-SelectiveRepeat : goal.returns-in-SelectiveRepeat
returns-in-SelectiveRepeat c = sent_in c.args.self.state _ c.args.store.now c.args.payload.now c.args.out.now c.in-SelectiveRepeat.is (selective_repeat_sent _ _ _ _ (can_send_in c.args.self.state _ c.args.store.now c.args.payload.now c.args.out.now c.in-SelectiveRepeat.is c.requires) c.send_chunk_unchecked-window-in-SelectiveRepeat.ensures)
