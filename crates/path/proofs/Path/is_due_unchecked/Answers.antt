use mathlib.Core.Path.{sym, ◌∙◌}
use Rattle.path.proofs.NotDue.{due_reached}
use Rattle.path.proofs.Path.is_due_unchecked.Goals as goal

pub returns-in-Some : goal.returns-in-Some
returns-in-Some c = due_reached c.args.self.scheduler.count c.args.records.now c.args.now (sym c.in-Some.is ∙ c.next_deadline_unchecked.ensures)

pub returns-in-None : goal.returns-in-None
returns-in-None c = due_reached c.args.self.scheduler.count c.args.records.now c.args.now (sym c.in-None.is ∙ c.next_deadline_unchecked.ensures)
