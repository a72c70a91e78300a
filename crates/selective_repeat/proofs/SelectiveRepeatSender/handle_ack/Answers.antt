use mathlib.Core.Bool.{false≢true}
use mathlib.Core.Path.{sym, ◌∙◌}
use Rattle.window.specs.Slots.{sender}
use Rattle.window.proofs.Laws.{on_accept, on_not_accepted, on_ack_refused}
use Rattle.selective_repeat.specs.Sender.{acknowledge_one}
use Rattle.selective_repeat.proofs.Acknowledging.{decide_ack_within, handle_ack_decided}
use Rattle.refusal.proofs.Laws.{ok_is}
use Rattle.selective_repeat.proofs.SelectiveRepeatSender.handle_ack.Goals as goal

pub acknowledge_one-window-requires : goal.acknowledge_one-window-requires
acknowledge_one-window-requires c = let k = decide_ack_within (sender c.args.self.window c.args.store.now) c.args.raw.now _ _ (sym c.decide_ack.ensures ∙ (ok_is c.in-Ok-Accept.is c.in-Ok-Accept.field-0-is)) in record { store_value = (k.0.state_sound, k.0.within); base_value = k.1; clean = λ e. absurd (false≢true e) }

pub returns-in-Ok-Accept : goal.returns-in-Ok-Accept
returns-in-Ok-Accept c = on_accept (sender c.args.self.window c.args.store.now) (acknowledge_one (sender c.args.self.window c.args.store.now)) _ _ (sym c.decide_ack.ensures ∙ (ok_is c.in-Ok-Accept.is c.in-Ok-Accept.field-0-is)) c.acknowledge_one-window.ensures ∙ handle_ack_decided (sender c.args.self.window c.args.store.now) c.args.raw.now

pub returns-in-Ok-NotAccepted : goal.returns-in-Ok-NotAccepted
returns-in-Ok-NotAccepted c = on_not_accepted (sender c.args.self.window c.args.store.now) (acknowledge_one (sender c.args.self.window c.args.store.now)) (sym c.decide_ack.ensures ∙ (ok_is c.in-Ok-NotAccepted.is c.in-Ok-NotAccepted.field-0-is)) ∙ handle_ack_decided (sender c.args.self.window c.args.store.now) c.args.raw.now

pub returns-in-Err : goal.returns-in-Err
returns-in-Err c = on_ack_refused (sender c.args.self.window c.args.store.now) (acknowledge_one (sender c.args.self.window c.args.store.now)) _ (sym c.decide_ack.ensures ∙ c.in-Err.is) ∙ handle_ack_decided (sender c.args.self.window c.args.store.now) c.args.raw.now
