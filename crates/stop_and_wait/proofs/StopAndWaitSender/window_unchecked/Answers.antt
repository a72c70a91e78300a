use native.Mathlib.Omega.{arith}
use mathlib.Core.Bool.{true, false}
use Rattle.window.proofs.Laws.{numbers}
use Rattle.stop_and_wait.specs.Sender.{window_of}
use Rattle.stop_and_wait.proofs.Senders.{window_is}
use Rattle.stop_and_wait.proofs.StopAndWaitSender.window_unchecked.Goals as goal

pub overflow_add-window : goal.overflow_add-window
overflow_add-window c = let n = numbers (window_of c.args.self) c.requires in let ordered = n.ordered in let low = n.low in omega arith

pub returns-then-self : goal.returns-then-self
returns-then-self c = window_is c.args.self true c.if-self.true

pub returns : goal.returns
returns c = window_is c.args.self false c.if-self.false
