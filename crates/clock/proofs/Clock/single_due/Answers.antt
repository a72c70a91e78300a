use Rattle.timer.proofs.Laws.{read_too_late_within}
use Rattle.clock.proofs.Clock.single_due.Goals as goal

pub is_expired_at_unchecked-requires : goal.is_expired_at_unchecked-requires
is_expired_at_unchecked-requires c = read_too_late_within c.args.self.timer c.args.now c.requires.0 c.requires.1

pub returns-then-outstanding : goal.returns-then-outstanding
returns-then-outstanding c = rw (← c.is_expired_at_unchecked.ensures, c.if-is_expired_at_unchecked.true, c.if-outstanding.true)

pub returns-then-is_expired_at_unchecked : goal.returns-then-is_expired_at_unchecked
returns-then-is_expired_at_unchecked c = rw (← c.is_expired_at_unchecked.ensures, c.if-is_expired_at_unchecked.true, c.if-outstanding.false)

pub returns : goal.returns
returns c = rw (← c.is_expired_at_unchecked.ensures, c.if-is_expired_at_unchecked.false)
