use Rattle.std.specs.Prelude.{Err}
use Rattle.std.proofs.Common.{ap, ◌∙◌, le_antisymm, rules}
use Rattle.multi_timer.proofs.Loops.{search_at, search_absent, search_step, search_end}
use Rattle.multi_timer.proofs.entries.search.Goals as goal

pub loop-i-init : goal.loop-i-init
loop-i-init c = c.skip_below-start.ensures

pub returns-then-k-key-2 : goal.returns-then-k-key-2
returns-then-k-key-2 c = search_at c.args.count c.loop-i.i c.args.keys.now c.args.key c.loop-i-test.true c.requires.0 c.if-k-key-2.true ∙ c.loop-i.invariant.1

pub returns-then-k-key : goal.returns-then-k-key
returns-then-k-key c = search_absent c.args.count c.loop-i.i c.args.keys.now c.args.key c.loop-i-test.true c.requires.0 c.if-k-key.true c.if-k-key-2.false ∙ c.loop-i.invariant.1

pub loop-i-preserved : goal.loop-i-preserved
loop-i-preserved c = (search rules, search_step c.args.count c.loop-i.i c.args.keys.now c.args.key c.loop-i-test.true c.requires.0 c.if-k-key.false ∙ c.loop-i.invariant.1)

pub returns : goal.returns
returns c = ap Err (le_antisymm c.loop-i-test.false c.loop-i.invariant.0) ∙ search_end c.args.count c.loop-i.i c.args.keys.now c.args.key c.loop-i-test.false c.requires.0 ∙ c.loop-i.invariant.1
