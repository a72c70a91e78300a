use Prim.Native.Nat.{◌+◌, ◌-◌, ◌%◌}
use mathlib.Core.Path.{◌≡◌, refl, sym, ap, ◌∙◌}
use native.Mathlib.Omega.{arith}
use native.Mathlib.Nat.{mod-lt}
use lib.ListN.{length}
use Rattle.store.specs.Slot.{SlotIn}
use Rattle.store.proofs.Laws.{slot_in}
use Rattle.window.specs.Slots.{empty_from}
use Rattle.window.proofs.Slots.{empty_more, empty_done, empty_length}
use Rattle.window.proofs.Clean.{emptied_clean}
use Rattle.window.proofs.empty_slots_unchecked.Goals as goal

pub loop-n-init : goal.loop-n-init
loop-n-init c = (refl, refl, c.requires.clean_slots)

pub nonzero_rem-n : goal.nonzero_rem-n
nonzero_rem-n c = omega (arith, c.requires.window_nonzero.0)

pub empty_unchecked-requires : goal.empty_unchecked-requires
empty_unchecked-requires c = let room = c.requires.window_nonzero.1 in
    let same = c.loop-n.invariant.0 in
    let a = c.args in
    let some = c.requires.window_nonzero.0 in record { slot_in = slot_in c.loop-n.store c.loop-n.n a.window some (omega arith); clean_slot = λ k. (c.loop-n.invariant.2 k).each _ (mod-lt c.loop-n.n some) }

pub loop-n-preserved : goal.loop-n-preserved
loop-n-preserved c = let room = c.requires.window_nonzero.1 in
    let some = c.requires.window_nonzero.0 in
    let same = c.loop-n.invariant.0 in
    let n = c.loop-n.n in
    let e = c.empty_unchecked.ensures in
    let k : c.args.until - (n + 1) ≡ c.args.until - n - 1 = omega arith in
    let here : SlotIn c.loop-n.store (n % c.args.window) = slot_in c.loop-n.store n c.args.window some (omega arith) in (
      ap length e ∙ empty_length c.loop-n.store _ here ∙ same,
      rw (e, k) (empty_more c.loop-n.store c.args.window n (c.args.until - n) (omega arith) ∙ c.loop-n.invariant.1),
      λ c'. rw e (emptied_clean c.loop-n.store c.args.window n some (omega arith) (c.loop-n.invariant.2 c')),
    )

pub shape_of-store : goal.shape_of-store
shape_of-store c = c.loop-n.invariant.0

pub returns : goal.returns
returns c = let a = c.args in
    let k : a.until - c.loop-n.n ≡ 0 = omega arith in
    sym (empty_done c.loop-n.store a.window c.loop-n.n) ∙ ap (empty_from c.loop-n.store a.window c.loop-n.n) (sym k) ∙ c.loop-n.invariant.1
