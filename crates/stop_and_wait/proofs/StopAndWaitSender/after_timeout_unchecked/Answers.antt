use Rattle.std.specs.Prelude.{Option, Result, ℕ}
use mathlib.Core.Path.{sym, ap}
use native.Mathlib.Omega.{arith}
use Rattle.stop_and_wait.specs.Sender.{by_timeout}
use Rattle.refusal.proofs.Laws.{ok_is}
use Rattle.stop_and_wait.proofs.StopAndWaitSender.after_timeout_unchecked.Goals as goal
use Rattle.refusal.specs.declared.Refusal.{Refusal}

pub overflow_add-self : goal.overflow_add-self
overflow_add-self c = let below = c.requires _ (ok_is c.in-Ok-Some.is (rw c.in-Ok-Some.is at c.in-Ok-Some.field-0-is)) in omega arith

pub returns-in-Ok-Some : goal.returns-in-Ok-Some
returns-in-Ok-Some c = ap (λ (a : Result (Option ℕ) Refusal). by_timeout c.args.self a c.args.window) (sym (ok_is c.in-Ok-Some.is (rw c.in-Ok-Some.is at c.in-Ok-Some.field-0-is)))
