use Prim.Native.Nat.{ℕ, ◌+◌, ◌-◌, ◌≤◌, ◌%◌}
use mathlib.Core.Path.{refl, sym, ap, ◌∙◌}
use mathlib.Core.List.{List, ◌++◌}
use native.Mathlib.Omega.{arith}
use native.Mathlib.Nat.{add-zero, sub-zero}
use Rattle.octets.proofs.Laws.{part_written}
use lib.ListN.{length}
use Rattle.store.specs.Numbers.{payloads_from, written_at}
use Rattle.store.proofs.Tests.{carried_in, carried_below, carried_on}
use Rattle.store.proofs.Numbers.{payloads_turn, payloads_turn_length, written_length, payloads_end, written_on, written_none}
use Rattle.store.specs.Slot.{slot_length, slot_payload, slot_at}
use Rattle.store.proofs.copy_payloads_unchecked.Goals as goal

pub nonzero_rem-slot : goal.nonzero_rem-slot
nonzero_rem-slot c = omega (arith, c.requires.payloads_in.0.positive)

pub loop-init : goal.loop-init
loop-init c = (refl, rw (add-zero, sub-zero), rw (add-zero, sub-zero), ap (λ (n : ℕ). n % c.args.window) (omega arith))

pub payload_unchecked-payload-requires : goal.payload_unchecked-payload-requires
payload_unchecked-payload-requires c = let short = c.requires.payloads_in.0.short c.loop.counter c.loop-test.true in
    let same = ap (λ (s : ℕ). slot_length (slot_at c.args.store.now s)) c.loop.invariant.3 in
    (carried_in c.args.store.now _ (c.args.first + c.loop.counter) c.args.window c.loop.invariant.3 c.requires.payloads_in.0.positive c.requires.payloads_in.0.room, omega arith)

pub overflow_add-end : goal.overflow_add-end
overflow_add-end c = let size = ap length ((c.payload_unchecked-payload.ensures ∙ ap (λ (s : ℕ). slot_payload (slot_at c.args.store.now s)) c.loop.invariant.3)) in
    let turn = payloads_turn_length c.args.store.now c.args.window c.args.first c.loop.counter c.args.count c.loop-test.true in
    let same = c.loop.invariant.0 in
    let inv = c.loop.invariant.1 in
    let room = c.requires.count_in_bounds in
    omega arith

pub slice_bounds-copy_unchecked-end : goal.slice_bounds-copy_unchecked-end
slice_bounds-copy_unchecked-end c = let size = ap length ((c.payload_unchecked-payload.ensures ∙ ap (λ (s : ℕ). slot_payload (slot_at c.args.store.now s)) c.loop.invariant.3)) in
    let turn = payloads_turn_length c.args.store.now c.args.window c.args.first c.loop.counter c.args.count c.loop-test.true in
    let same = c.loop.invariant.0 in
    let inv = c.loop.invariant.1 in
    let room = c.requires.count_in_bounds in
    omega arith

pub next_slot_unchecked-slot-requires : goal.next_slot_unchecked-slot-requires
next_slot_unchecked-slot-requires c = carried_below _ (c.args.first + c.loop.counter) c.args.window c.loop.invariant.3 c.requires.payloads_in.0.positive

pub loop-preserved : goal.loop-preserved
loop-preserved c = let size = ap length ((c.payload_unchecked-payload.ensures ∙ ap (λ (s : ℕ). slot_payload (slot_at c.args.store.now s)) c.loop.invariant.3)) in
    let turn = payloads_turn_length c.args.store.now c.args.window c.args.first c.loop.counter c.args.count c.loop-test.true in
    let same = c.loop.invariant.0 in
    let inv = c.loop.invariant.1 in
    let room = c.requires.count_in_bounds in
    let p = c.payload_unchecked-payload.result.now in
    let fits : c.loop.start + length c.payload_unchecked-payload.result.now ≤ length c.loop.buffer = omega arith in
    let over = part_written c.loop.buffer c.copy_unchecked.new.dst p c.loop.start (length p) c.copy_unchecked.ensures in (
      ap length over ∙ written_length c.loop.buffer p c.loop.start fits ∙ same,
      omega arith,
      ap (λ (b : List ℕ). written_at b (c.loop.start + length p) (payloads_from c.args.store.now c.args.window (c.args.first + (c.loop.counter + 1)) (c.args.count - (c.loop.counter + 1)))) over
          ∙ written_on c.loop.buffer p _ c.loop.start (omega arith)
          ∙ ap (written_at c.loop.buffer c.loop.start) (ap (λ (l : List ℕ). l ++ payloads_from c.args.store.now c.args.window (c.args.first + (c.loop.counter + 1)) (c.args.count - (c.loop.counter + 1))) ((c.payload_unchecked-payload.ensures ∙ ap (λ (s : ℕ). slot_payload (slot_at c.args.store.now s)) c.loop.invariant.3)) ∙ payloads_turn c.args.store.now c.args.window c.args.first c.loop.counter c.args.count c.loop-test.true)
          ∙ c.loop.invariant.2,
      carried_on _ _ c.args.first c.loop.counter c.args.window c.loop.invariant.3 c.next_slot_unchecked-slot.ensures,
    )

pub shape_of-buffer : goal.shape_of-buffer
shape_of-buffer c = c.loop.invariant.0

pub returns : goal.returns
returns c = let stop = payloads_end c.args.store.now c.args.window (c.args.first + c.loop.counter) c.loop.counter c.args.count c.loop-test.false in
    let none = ap length stop in
    let inv = c.loop.invariant.1 in record { value = omega arith; buffer_after = sym (written_none c.loop.buffer c.loop.start _ stop) ∙ c.loop.invariant.2 }
