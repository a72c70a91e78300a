use Rattle.std.proofs.Common.{sym, ◌∙◌, arith}
use Rattle.schedule.proofs.Structs.{inserts, sifts_on, sifts_here, sifts_first}
use Rattle.schedule.proofs.Scheduled.insert_unchecked.Goals as goal
use Rattle.schedule.proofs.Scheduled.insert_unchecked.Goals.{else-loop-i-test, then-loop-i-test+else-leaves_after}

pub loop-i-preserved : goal.loop-i-preserved
loop-i-preserved c = (omega arith, sifts_on c.args.r c.loop-i.i c.loop-i.s c.loop-i-test.true (sym c.leaves_after.ensures ∙ c.if-leaves_after.true) ∙ c.loop-i.invariant.1)

pub returns : goal.returns
returns c =
    inserts c.args.r c.args.count c.args.s.now _ c.requires.0 c.requires.1
    (elim c.loop-i-test.branch [
      | else-loop-i-test w ↦ sifts_first c.args.r c.loop-i.i c.loop-i.s w.loop-i-test.false
      | then-loop-i-test+else-leaves_after w ↦ sifts_here c.args.r c.loop-i.i c.loop-i.s w.loop-i-test.true (sym w.leaves_after.ensures ∙ w.if-leaves_after.false)
    ] ∙ c.loop-i.invariant.1)
