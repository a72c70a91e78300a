use mathlib.Core.Bool.{false, false≢true}
use mathlib.Core.Path.{sym, ◌∙◌}
use native.Mathlib.Omega.{arith}
use Rattle.window.proofs.Laws.{ack_accepted, sound_numbers, numbers_not_broken, on_accept, on_not_accepted, on_ack_refused}
use Rattle.stop_and_wait.specs.Sender.{window_of, end_of, acknowledged}
use Rattle.refusal.proofs.Laws.{ok_is}
use Rattle.stop_and_wait.proofs.StopAndWaitSender.handle_ack.Goals as goal

pub acknowledge_unchecked-requires : goal.acknowledge_unchecked-requires
acknowledge_unchecked-requires c = let a = ack_accepted false (window_of c.args.self) c.args.store.now c.args.raw.now _ _ (sym c.decide_ack.ensures ∙ (ok_is c.in-Ok-Accept.is c.in-Ok-Accept.field-0-is)) in let low = a.state.low in let below = a.below in let room = a.state.room in record { self_value = numbers_not_broken _ (sound_numbers a.state); current_seq_bound = (a.from, omega arith, omega arith); clean = λ k. absurd (false≢true k) }

pub returns-in-Ok-Accept : goal.returns-in-Ok-Accept
returns-in-Ok-Accept c = on_accept (end_of c.args.self c.args.store.now) (acknowledged (end_of c.args.self c.args.store.now)) _ _ (sym c.decide_ack.ensures ∙ (ok_is c.in-Ok-Accept.is c.in-Ok-Accept.field-0-is)) c.acknowledge_unchecked.ensures

pub returns-in-Ok-NotAccepted : goal.returns-in-Ok-NotAccepted
returns-in-Ok-NotAccepted c = on_not_accepted (end_of c.args.self c.args.store.now) (acknowledged (end_of c.args.self c.args.store.now)) (sym c.decide_ack.ensures ∙ (ok_is c.in-Ok-NotAccepted.is c.in-Ok-NotAccepted.field-0-is))

pub returns-in-Err : goal.returns-in-Err
returns-in-Err c = on_ack_refused (end_of c.args.self c.args.store.now) (acknowledged (end_of c.args.self c.args.store.now)) _ (sym c.decide_ack.ensures ∙ c.in-Err.is)
