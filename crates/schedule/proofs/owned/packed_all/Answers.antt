use mathlib.Core.Path.{refl, ◌∙◌}
use native.Mathlib.Omega.{arith}
use lib.ListN.{length-set}
use Rattle.schedule.proofs.OwnedRecords.{packs_next, packs_all}
use Rattle.schedule.proofs.owned.packed_all.Goals as goal

pub loop-i-init : goal.loop-i-init
loop-i-init c = (refl, refl)

pub loop-i-preserved : goal.loop-i-preserved
loop-i-preserved c = (length-set c.loop-i.r c.loop-i.i c.packed.result ∙ c.loop-i.invariant.0, packs_next c.args.s _ c.loop-i.r c.loop-i.i (omega arith) (rw c.well_formed.0.1.0.1 (omega arith)) c.loop-i.invariant.1 c.packed.ensures)

pub returns : goal.returns
returns c = packs_all c.args.s c.loop-i.r c.loop-i.i 8 c.loop-i.invariant.0 c.well_formed.0.1.0.1 (omega arith) c.loop-i.invariant.1
