use Rattle.multi_timer.proofs.Verdicts.{broken_length, broken_count, broken_order}
use Rattle.multi_timer.proofs.checks.is_broken.Goals as goal

pub returns-then-keys-deadlines : goal.returns-then-keys-deadlines
returns-then-keys-deadlines c = let s = c.args in broken_length s.count s.keys.now s.deadlines.now c.if-keys-deadlines.true

pub returns-then-count-keys : goal.returns-then-count-keys
returns-then-count-keys c = let s = c.args in broken_count s.count s.keys.now s.deadlines.now c.if-keys-deadlines.false c.if-count-keys.true

pub returns : goal.returns
returns c = let s = c.args in broken_order s.count s.keys.now s.deadlines.now _ c.if-keys-deadlines.false c.if-count-keys.false c.is_ascending.ensures
