use Rattle.std.specs.Prelude.{Err}
use mathlib.Core.Path.{sym}
use Rattle.refusal.proofs.Laws.{on_accepted, on_refused}
use Rattle.host_drain.specs.Drain.{drain_result, drain_receiver}
use Rattle.host_drain.proofs.drain_receiver.Goals as goal

pub returns-in-Ok : goal.returns-in-Ok
unfolding drain_receiver
returns-in-Ok c = rw (← c.state_broken.ensures, ← c.counts_broken.ensures, ← c.held_verdict.ensures, c.emptied.ensures, c.filled.ensures) (sym (on_accepted (λ s. drain_result c.args.receiver (Err s)) _ c.in-Ok.is))

pub returns-in-Err : goal.returns-in-Err
unfolding drain_receiver
returns-in-Err c = rw (← c.state_broken.ensures, ← c.counts_broken.ensures, ← c.held_verdict.ensures) (sym (on_refused (λ s. drain_result c.args.receiver (Err s)) _ c.in-Err.is))
