use Rattle.events.specs.Events.{row_of}
use Rattle.events.proofs.event_row.Goals as goal

pub returns-in-Lost : goal.returns-in-Lost
unfolding row_of
returns-in-Lost c = rw (c.in-Lost.is, c.flag-again.ensures)

pub returns-in-One : goal.returns-in-One
unfolding row_of
returns-in-One c = rw (c.in-One.is, c.flag-again.ensures)

pub returns-in-Two : goal.returns-in-Two
unfolding row_of
returns-in-Two c = rw (c.in-Two.is, c.flag-again.ensures)
