use Rattle.std.specs.Prelude.{Option, Result, ℕ}
use mathlib.Core.Path.{sym, ap}
use Rattle.stop_and_wait.specs.Sender.{by_send}
use Rattle.refusal.proofs.Laws.{ok_is}
use Rattle.stop_and_wait.proofs.StopAndWaitSender.after_send.Goals as goal
use Rattle.refusal.specs.declared.Refusal.{Refusal}

pub returns-in-Ok-Some : goal.returns-in-Ok-Some
returns-in-Ok-Some c = ap (λ (a : Result (Option ℕ) Refusal). by_send c.args.self a c.args.window) (sym (ok_is c.in-Ok-Some.is (rw c.in-Ok-Some.is at c.in-Ok-Some.field-0-is)))
