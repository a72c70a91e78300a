use borrow.Author.Tests.{eq-eqb, ne_eqb}
use Rattle.schedule.specs.State.{delay_at}
use Rattle.schedule.proofs.delay_of.Goals as goal

pub returns-then-k-eq0 : goal.returns-then-k-eq0
unfolding delay_at
returns-then-k-eq0 c = rw (c.in-Two.is, eq-eqb c.args.k 0 c.if-k-eq0.true)

pub returns-in-Lost : goal.returns-in-Lost
unfolding delay_at
returns-in-Lost c = rw c.in-Lost.is

pub returns-in-One : goal.returns-in-One
unfolding delay_at
returns-in-One c = rw c.in-One.is

pub returns-else-k-eq0 : goal.returns-else-k-eq0
unfolding delay_at
returns-else-k-eq0 c = rw (c.in-Two.is, ne_eqb c.args.k 0 c.if-k-eq0.false)
