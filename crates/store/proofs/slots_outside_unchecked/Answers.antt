use Prim.Native.Nat.{ℕ, ◌-◌}
use mathlib.Core.Path.{◌≡◌, ap, ◌∙◌}
use mathlib.Core.Bool.{or_comm}
use native.Mathlib.Omega.{arith}
use Rattle.store.specs.Slot.{slot_at}
use Rattle.store.specs.Scans.{slot_outside, slots_outside}
use Rattle.store.proofs.Scans.{outside_none, outside_more}
use Rattle.store.proofs.slots_outside_unchecked.Goals as goal

pub loop-slot-init : goal.loop-slot-init
loop-slot-init c = outside_none c.args.low c.args.high c.args.store.now c.args.from

pub loop-slot-preserved : goal.loop-slot-preserved
loop-slot-preserved c = let a = c.args in
    rw (c.slot_outside_unchecked-outside.ensures, c.loop-slot.invariant) (or_comm (slots_outside a.low a.high a.store.now a.from (c.loop-slot.slot - a.from)) (slot_outside a.low a.high (slot_at a.store.now c.loop-slot.slot)) ∙ outside_more a.low a.high a.store.now a.from c.loop-slot.slot (omega arith))

pub returns : goal.returns
returns c = let a = c.args in
    let end : c.loop-slot.slot ≡ a.to = omega (arith, c.requires.0) in
    c.loop-slot.invariant ∙ ap (λ (n : ℕ). slots_outside a.low a.high a.store.now a.from (n - a.from)) end
