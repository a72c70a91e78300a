use Rattle.timer.proofs.Laws.{start_too_late_within}
use Rattle.clock.proofs.Clock.started.Goals as goal

pub started_at_unchecked-requires : goal.started_at_unchecked-requires
started_at_unchecked-requires c = start_too_late_within c.args.self.timer c.args.now c.args.rto c.requires.0 c.requires.1 c.requires.2

pub returns : goal.returns
returns c = rw (c.with_timer.ensures, c.started_at_unchecked.ensures)
