use native.Mathlib.Omega.{arith}
use Rattle.schedule.proofs.Laws.{test_is}
use Rattle.channel.proofs.Limits.{delays_within}
use Rattle.channel.proofs.faults.hold_of.Goals as goal

pub returns-then-is_reordered : goal.returns-then-is_reordered
returns-then-is_reordered c = (simp (test_is c.is_reordered.ensures c.if-is_reordered.true), (delays_within _ c.requires).hold)

pub returns : goal.returns
returns c = (simp (test_is c.is_reordered.ensures c.if-is_reordered.false), omega arith)
