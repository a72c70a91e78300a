use mathlib.Core.Bool.{false, false≢true}
use mathlib.Core.Path.{sym, ◌∙◌}
use native.Mathlib.Omega.{arith}
use Rattle.window.specs.Slots.{sender}
use Rattle.window.proofs.Laws.{ack_accepted, on_accept, on_not_accepted, on_ack_refused}
use Rattle.go_back_n.specs.Sender.{acknowledged}
use Rattle.refusal.proofs.Laws.{ok_is}
use Rattle.go_back_n.proofs.GoBackNSender.handle_ack.Goals as goal

pub acknowledge_unchecked-requires : goal.acknowledge_unchecked-requires
acknowledge_unchecked-requires c = let a = ack_accepted false c.args.self.window c.args.store.now c.args.raw.now _ _ (sym c.decide_ack.ensures ∙ (ok_is c.in-Ok-Accept.is c.in-Ok-Accept.field-0-is)) in let low = a.state.low in let below = a.below in record { window_size_nonzero = (a.state.positive, a.state.room); send_base_bound = (a.from, omega arith); clean = λ k. absurd (false≢true k) }

pub returns-in-Ok-Accept : goal.returns-in-Ok-Accept
returns-in-Ok-Accept c = on_accept (sender c.args.self.window c.args.store.now) (acknowledged (sender c.args.self.window c.args.store.now)) _ _ (sym c.decide_ack.ensures ∙ (ok_is c.in-Ok-Accept.is c.in-Ok-Accept.field-0-is)) c.acknowledge_unchecked.ensures

pub returns-in-Ok-NotAccepted : goal.returns-in-Ok-NotAccepted
returns-in-Ok-NotAccepted c = on_not_accepted (sender c.args.self.window c.args.store.now) (acknowledged (sender c.args.self.window c.args.store.now)) (sym c.decide_ack.ensures ∙ (ok_is c.in-Ok-NotAccepted.is c.in-Ok-NotAccepted.field-0-is))

pub returns-in-Err : goal.returns-in-Err
returns-in-Err c = on_ack_refused (sender c.args.self.window c.args.store.now) (acknowledged (sender c.args.self.window c.args.store.now)) _ (sym c.decide_ack.ensures ∙ c.in-Err.is)
