use mathlib.Core.Path.{sym, ◌∙◌}
use Rattle.window.specs.Slots.{sender}
use Rattle.selective_repeat.specs.Sender.{decide_ack}
use Rattle.selective_repeat.proofs.Acknowledging.{accepted_within}
use Rattle.refusal.proofs.Laws.{ok_is, err_returned}
use Rattle.selective_repeat.proofs.SelectiveRepeatSender.decide_ack.Goals as goal

pub base_after-requires : goal.base_after-requires
base_after-requires c = let k = accepted_within (sender c.args.self.window c.args.store.now) c.args.raw.now _ _ (sym c.decide_ack.ensures ∙ (ok_is c.in_ok-seq_num.was c.in-Accept.is)) in record { store_value = k.state_sound; n_value = k.within }

pub returns-in-Accept : goal.returns-in-Accept
unfolding decide_ack
returns-in-Accept c = rw (sym c.decide_ack.ensures ∙ (ok_is c.in_ok-seq_num.was c.in-Accept.is), c.base_after.ensures)

pub returns-in-NotAccepted : goal.returns-in-NotAccepted
unfolding decide_ack
returns-in-NotAccepted c = rw (sym c.decide_ack.ensures ∙ (ok_is c.in_ok-seq_num.was c.in-NotAccepted.is))

pub returns-in_err-seq_num : goal.returns-in_err-seq_num
unfolding decide_ack
returns-in_err-seq_num c = err_returned _ c.from_residual.ensures.1 (rw (sym c.decide_ack.ensures ∙ c.in_err-seq_num.was))
