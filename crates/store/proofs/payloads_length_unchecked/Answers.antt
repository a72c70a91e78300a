use Prim.Native.Nat.{◌+◌, ◌%◌, ℕ}
use mathlib.Core.Path.{ap, ◌∙◌}
use native.Mathlib.Omega.{arith}
use native.Mathlib.Nat.{add-zero, sub-zero, zero-add}
use lib.ListN.{length}
use Rattle.store.proofs.Tests.{slot_in, carried_in, carried_below, carried_on}
use Rattle.store.proofs.Laws.{slot_payload_length}
use Rattle.store.proofs.Numbers.{payloads_turn_length, payloads_end}
use Rattle.store.specs.Slot.{slot_length, slot_at}
use Rattle.store.proofs.payloads_length_unchecked.Goals as goal

pub nonzero_rem-slot : goal.nonzero_rem-slot
nonzero_rem-slot c = omega (arith, c.requires.0.positive)

pub loop-init : goal.loop-init
loop-init c = (omega arith, rw (add-zero, sub-zero, zero-add), ap (λ (n : ℕ). n % c.args.window) (omega arith))

pub length_unchecked-requires : goal.length_unchecked-requires
length_unchecked-requires c = carried_in c.args.store.now _ (c.args.first + c.loop.counter) c.args.window c.loop.invariant.2 c.requires.0.positive c.requires.0.room

pub overflow_add-total : goal.overflow_add-total
overflow_add-total c = let n = c.length_unchecked.ensures ∙ ap (λ (s : ℕ). slot_length (slot_at c.args.store.now s)) c.loop.invariant.2 in let short = c.requires.0.short c.loop.counter c.loop-test.true in let few = c.requires.1 in omega arith

pub next_slot_unchecked-slot-requires : goal.next_slot_unchecked-slot-requires
next_slot_unchecked-slot-requires c = carried_below _ (c.args.first + c.loop.counter) c.args.window c.loop.invariant.2 c.requires.0.positive

pub loop-preserved : goal.loop-preserved
loop-preserved c = let short = c.requires.0.short c.loop.counter c.loop-test.true in
    let n = (c.length_unchecked.ensures ∙ ap (λ (s : ℕ). slot_length (slot_at c.args.store.now s)) c.loop.invariant.2) in
    let size = slot_payload_length c.args.store.now ((c.args.first + c.loop.counter) % c.args.window) (slot_in c.args.store.now (c.args.first + c.loop.counter) c.args.window c.requires.0.positive c.requires.0.room) short in
    let turn = (payloads_turn_length c.args.store.now c.args.window c.args.first c.loop.counter c.args.count c.loop-test.true) in
    let inv = c.loop.invariant.1 in
    (omega arith, omega arith, carried_on _ _ c.args.first c.loop.counter c.args.window c.loop.invariant.2 c.next_slot_unchecked-slot.ensures)

pub returns : goal.returns
returns c = let inv = c.loop.invariant.1 in
    let stop = ap length (payloads_end c.args.store.now c.args.window (c.args.first + c.loop.counter) c.loop.counter c.args.count c.loop-test.false) in record { value = omega arith; upper_bound = omega arith }
