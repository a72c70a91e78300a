use borrow.Author.Tests.{le-ltb, lt-ltb}
use Rattle.notes.specs.Notes.{expiry}
use native.Mathlib.Omega.{arith}
use Rattle.notes.proofs.Notes.expiry_unchecked.Goals as goal

pub returns-then-self-at : goal.returns-then-self-at
unfolding expiry
returns-then-self-at c = rw (le-ltb _ _ c.if-self-at.true)

pub overflow_add-result : goal.overflow_add-result
overflow_add-result c = let t = c.requires.at c.args.seq (omega arith) in omega arith

pub returns : goal.returns
unfolding expiry
returns c = rw (lt-ltb _ _ c.if-self-at.false)
