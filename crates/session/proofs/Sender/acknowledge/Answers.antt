use mathlib.Core.Path.{◌≡◌, ap, subst}
use mathlib.Core.Bool.{true, false}
use native.Mathlib.Omega.{arith}
use Rattle.window.specs.Acknowledgement.{is_in_window}
use Rattle.session.specs.declared.SenderState.{SenderState}
use Rattle.session.specs.Sending.{sender_in, window_in, stop_and_wait_end, go_back_nEnd, selective_repeat_end}
use Rattle.session.specs.GoodSender.{CleanSender}
use Rattle.session.proofs.Windows.{outstanding_number}
use Rattle.session.proofs.Sends.{acknowledged_in_lem}
use Rattle.session.proofs.Sender.acknowledge.Goals as goal

pub acknowledge_unchecked-s-requires : goal.acknowledge_unchecked-s-requires
acknowledge_unchecked-s-requires c = let h = subst (λ (x : SenderState). CleanSender (sender_in x c.args.store.now)) c.in-StopAndWait.is c.requires.clean_sender in
    let i = subst (λ (x : SenderState). is_in_window (window_in x) c.args.seq_num ≡ true) c.in-StopAndWait.is c.requires.seq_num_value in
    let o = outstanding_number false _ _ _ h.state i in
    let room = o.room in record { self_value = o.numbers; current_seq_bound = (o.from, o.low, omega arith); clean = λ e. h.clean }

pub acknowledge_unchecked-s-requires-in-GoBackN : goal.acknowledge_unchecked-s-requires-in-GoBackN
acknowledge_unchecked-s-requires-in-GoBackN c = let h = subst (λ (x : SenderState). CleanSender (sender_in x c.args.store.now)) c.in-GoBackN.is c.requires.clean_sender in
    let i = subst (λ (x : SenderState). is_in_window (window_in x) c.args.seq_num ≡ true) c.in-GoBackN.is c.requires.seq_num_value in
    let o = outstanding_number false _ _ _ h.state i in record { window_size_nonzero = (o.positive, o.room); send_base_bound = (o.from, o.low); clean = λ e. h.clean }

pub acknowledge_unchecked-s-requires-in-SelectiveRepeat : goal.acknowledge_unchecked-s-requires-in-SelectiveRepeat
acknowledge_unchecked-s-requires-in-SelectiveRepeat c = let h = subst (λ (x : SenderState). CleanSender (sender_in x c.args.store.now)) c.in-SelectiveRepeat.is c.requires.clean_sender in
    let i = subst (λ (x : SenderState). is_in_window (window_in x) c.args.seq_num ≡ true) c.in-SelectiveRepeat.is c.requires.seq_num_value in record { store_value = h.state; seq_num_value = i; clean = λ e. h.clean }

pub returns-in-StopAndWait : goal.returns-in-StopAndWait
returns-in-StopAndWait c = acknowledged_in_lem _ _ _ _ c.in-StopAndWait.is (ap stop_and_wait_end c.acknowledge_unchecked-s.ensures)

pub returns-in-GoBackN : goal.returns-in-GoBackN
returns-in-GoBackN c = acknowledged_in_lem _ _ _ _ c.in-GoBackN.is (ap go_back_nEnd c.acknowledge_unchecked-s-in-GoBackN.ensures)

pub returns-in-SelectiveRepeat : goal.returns-in-SelectiveRepeat
returns-in-SelectiveRepeat c = acknowledged_in_lem _ _ _ _ c.in-SelectiveRepeat.is (ap selective_repeat_end c.acknowledge_unchecked-s-in-SelectiveRepeat.ensures)
