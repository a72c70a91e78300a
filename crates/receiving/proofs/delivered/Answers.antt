use Rattle.receiving.proofs.delivered.Goals as goal

pub returns : goal.returns
returns c = rw (c.flag.ensures, c.saturating_sub.ensures, c.duplicate_count.ensures, c.duplicate_count-2.ensures)
