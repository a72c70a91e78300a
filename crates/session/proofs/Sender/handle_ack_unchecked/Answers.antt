use mathlib.Core.Path.{sym, ap, ◌∙◌}
use Rattle.window.specs.Acknowledgement.{is_in_window}
use Rattle.window.specs.declared.SendWindow.{SendWindow}
use Rattle.session.specs.Sending.{sender_end}
use Rattle.session.proofs.Windows.{unbroken_numbers}
use Rattle.session.proofs.Sends.{ack_accepted, ack_not_accepted}
use Rattle.session.proofs.Sender.handle_ack_unchecked.Goals as goal

pub window_unchecked-window-requires : goal.window_unchecked-window-requires
window_unchecked-window-requires c = unbroken_numbers (sender_end c.args.self c.args.store.now) c.requires.state

pub acknowledge-requires : goal.acknowledge-requires
acknowledge-requires c = record { clean_sender = c.requires; seq_num_value = sym (ap (λ (w : SendWindow). is_in_window w c.args.seq_num) c.window_unchecked-window.ensures) ∙ sym c.is_outstanding.ensures ∙ c.if-is_outstanding.true }

pub returns-then-is_outstanding : goal.returns-then-is_outstanding
returns-then-is_outstanding c = ack_accepted _ _ (sym (ap (λ (w : SendWindow). is_in_window w c.args.seq_num) c.window_unchecked-window.ensures) ∙ sym c.is_outstanding.ensures ∙ c.if-is_outstanding.true) c.acknowledge.ensures

pub returns : goal.returns
returns c = ack_not_accepted (sender_end c.args.self c.args.store.now) c.args.seq_num (sym (ap (λ (w : SendWindow). is_in_window w c.args.seq_num) c.window_unchecked-window.ensures) ∙ sym c.is_outstanding.ensures ∙ c.if-is_outstanding.false)
