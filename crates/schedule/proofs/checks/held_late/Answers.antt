use mathlib.Core.Path.{sym, ◌∙◌, ap}
use lib.Dec.{ltb}
use Rattle.bounds.specs.Bounds.{max_time}
use Rattle.schedule.specs.declared.Scheduled.{Scheduled}
use Rattle.schedule.proofs.Times.{held_none, held_last}
use Rattle.schedule.proofs.checks.held_late.Goals as goal

pub returns-then-count-eq0 : goal.returns-then-count-eq0
returns-then-count-eq0 c = sym (held_none c.args.s.now c.args.count c.if-count-eq0.true)

pub returns : goal.returns
returns c = ap (λ (r : Scheduled). ltb max_time r.time) c.unpacked-r.ensures ∙ sym (held_last c.args.s.now c.args.count c.if-count-eq0.false c.requires.0 c.requires.1)
