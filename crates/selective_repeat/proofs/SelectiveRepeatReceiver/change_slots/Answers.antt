use mathlib.Core.Bool.{false≢true}
use mathlib.Core.Path.{ap, ◌∙◌}
use Prim.Native.Nat.{◌+◌}
use native.Mathlib.Omega.{arith}
use Rattle.store.proofs.Laws.{slot_in}
use native.Mathlib.Nat.{add-sub_cancel_left}
use Rattle.window.specs.Slots.{empty_from}
use Rattle.selective_repeat.proofs.SelectiveRepeatReceiver.change_slots.Goals as goal

pub overflow_add-next : goal.overflow_add-next
overflow_add-next c = omega (arith, c.requires.ready.0.low)

pub nonzero_rem-n : goal.nonzero_rem-n
nonzero_rem-n c = c.requires.ready.0.positive

pub fill_unchecked-requires : goal.fill_unchecked-requires
fill_unchecked-requires c = record { slot_in = (slot_in c.args.store.now c.in-Hold.n c.args.self.window_size c.requires.ready.0.positive c.requires.ready.0.room, c.requires.payload_len_bound); clean_slot = λ k. absurd (false≢true k) }

pub overflow_cast-k : goal.overflow_cast-k
overflow_cast-k c = let few = rw c.in-Release.is at c.requires.ready.1 in
    let small = c.requires.ready.0.small in
    omega arith

pub overflow_add-next-in-Release : goal.overflow_add-next-in-Release
overflow_add-next-in-Release c = let few = rw c.in-Release.is at c.requires.ready.1 in
    let small = c.requires.ready.0.small in
    let low = c.requires.ready.0.low in
    omega arith

pub empty_slots_unchecked-requires : goal.empty_slots_unchecked-requires
empty_slots_unchecked-requires c = let ready = c.requires.ready.0 in record { window_nonzero = (ready.positive, ready.room, omega arith); clean_slots = λ k. absurd (false≢true k) }

pub returns-in-Unchanged : goal.returns-in-Unchanged
returns-in-Unchanged c = rw c.in-Unchanged.is

pub returns-in-Hold : goal.returns-in-Hold
returns-in-Hold c = rw c.in-Hold.is c.fill_unchecked.ensures

pub returns-in-Release : goal.returns-in-Release
returns-in-Release c = rw c.in-Release.is (c.empty_slots_unchecked.ensures
    ∙ ap (empty_from c.args.store.now c.args.self.window_size (c.args.self.recv_base + 1)) (add-sub_cancel_left (c.args.self.recv_base + 1) c.in-Release.k))
