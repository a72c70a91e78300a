use mathlib.Core.Path.{refl}
use Rattle.path.proofs.Calls.{scan_step, scan_end}
use Rattle.path.proofs.rolls_broken.Goals as goal

pub loop-roll-init : goal.loop-roll-init
loop-roll-init c = refl

pub loop-roll-preserved : goal.loop-roll-preserved
loop-roll-preserved c = scan_step _ _ c.loop-roll.broken c.loop-roll-test.true c.loop-roll.invariant c.roll_in_bounds.ensures

pub returns : goal.returns
returns c = (scan_end _ _ c.loop-roll.broken c.loop-roll-test.false c.loop-roll.invariant, record { each = λ i l. c.type_inv.rolls i; size = c.well_formed.0.1 })
