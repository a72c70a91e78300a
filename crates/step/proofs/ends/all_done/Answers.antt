use mathlib.Core.Path.{ap}
use mathlib.Core.Bool.{not}
use Rattle.step.specs.Settle.{sender_idle}
use Rattle.step.proofs.Settling.{done_open, done_idle}
use Rattle.step.proofs.ends.all_done.Goals as goal

pub returns-then-not-completed : goal.returns-then-not-completed
returns-then-not-completed c = done_open c.args.completed (sender_idle c.args.total_chunks c.args.sender c.args.forward c.args.reverse c.args.clock) (ap not c.if-not-completed.true)

pub returns : goal.returns
returns c = done_idle c.args.completed (sender_idle c.args.total_chunks c.args.sender c.args.forward c.args.reverse c.args.clock) (ap not c.if-not-completed.false) c.sender_idle.ensures
