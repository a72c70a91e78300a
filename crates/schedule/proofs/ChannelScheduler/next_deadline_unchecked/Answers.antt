use Rattle.std.specs.Prelude.{Ok, Some}
use mathlib.Core.Path.{◌∙◌, ap}
use native.Mathlib.Omega.{arith}
use borrow.Author.Tests.{lt-ltb, le-ltb}
use Rattle.schedule.specs.declared.Scheduled.{Scheduled}
use Rattle.schedule.proofs.Calls.{positive}
use Rattle.schedule.proofs.ChannelScheduler.next_deadline_unchecked.Goals as goal

pub returns-then-count-eq0 : goal.returns-then-count-eq0
returns-then-count-eq0 c = simp (le-ltb 0 c.args.self.count (omega arith))

pub returns : goal.returns
returns c = ap (λ (r : Scheduled). Ok (Some r.time)) c.unpacked-first.ensures ∙ simp (lt-ltb 0 c.args.self.count (positive _ c.if-count-eq0.false))
