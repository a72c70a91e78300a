use borrow.Author.Tests.{lt-ltb, le-ltb}
use Rattle.receiving.proofs.Calls.{absorb_before, absorb_below, absorb_all}
use Rattle.receiving.proofs.absorb.Goals as goal

pub returns-then-side : goal.returns-then-side
returns-then-side c = absorb_before c.args.total_chunks c.args.now c.args.side c.if-side.true

pub returns-then-base-total_chunks : goal.returns-then-base-total_chunks
returns-then-base-total_chunks c = absorb_below c.args.total_chunks c.args.now c.args.side c.if-side.false c.base.ensures (lt-ltb _ _ c.if-base-total_chunks.true)

pub returns : goal.returns
returns c = absorb_all c.args.total_chunks c.args.now c.args.side c.if-side.false c.base.ensures (le-ltb _ _ c.if-base-total_chunks.false)
