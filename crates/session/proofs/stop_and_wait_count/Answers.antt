use mathlib.Core.Path.{refl}
use borrow.Author.Tests.{lt-ltb, le-ltb}
use mathlib.Core.Bool.{true, false}
use Rattle.session.proofs.Resends.{stop_and_wait_count}
use Rattle.session.proofs.stop_and_wait_count.Goals as goal

pub returns-then-s-2 : goal.returns-then-s-2
returns-then-s-2 c = stop_and_wait_count c.args.s true true c.if-s.true (lt-ltb _ _ c.if-s-2.true)

pub returns-then-s : goal.returns-then-s
returns-then-s c = stop_and_wait_count c.args.s true false c.if-s.true (le-ltb _ _ c.if-s-2.false)

pub returns : goal.returns
returns c = stop_and_wait_count c.args.s false _ c.if-s.false refl
