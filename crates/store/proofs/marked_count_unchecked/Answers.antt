use Prim.Native.Nat.{◌+◌, ℕ, ◌%◌}
use mathlib.Core.Path.{◌≡◌, sym, ap, ◌∙◌}
use mathlib.Core.Bool.{Bool, cond}
use native.Mathlib.Omega.{arith}
use borrow.Author.Tests.{eq-eqb, ne_eqb}
use native.Mathlib.Nat.{add-zero, sub-zero, zero-add}
use Rattle.store.specs.Numbers.{marked}
use Rattle.store.proofs.Tests.{carried_in, carried_below, carried_on}
use Rattle.store.proofs.Numbers.{count_turn, count_end, count_within}
use Rattle.store.specs.Slot.{slot_mark, slot_at}
use Rattle.store.proofs.marked_count_unchecked.Goals as goal
use Rattle.store.proofs.marked_count_unchecked.Goals.{then-mark_unchecked-mark, else-mark_unchecked-mark}

pub nonzero_rem-slot : goal.nonzero_rem-slot
nonzero_rem-slot c = omega (arith, c.requires.0)

pub loop-init : goal.loop-init
loop-init c = (rw (add-zero, sub-zero, zero-add), ap (λ (n : ℕ). n % c.args.window) (omega arith))

pub mark_unchecked-requires : goal.mark_unchecked-requires
mark_unchecked-requires c = carried_in c.args.store.now _ (c.args.first + c.loop.counter) c.args.window c.loop.invariant.1 c.requires.0 c.requires.1

pub overflow_add-total : goal.overflow_add-total
overflow_add-total c = let inv = c.loop.invariant.0 in let few = count_within c.args.mark c.args.store.now c.args.window c.args.first c.args.count in let most = c.requires.2 in omega arith

pub next_slot_unchecked-slot-requires : goal.next_slot_unchecked-slot-requires
next_slot_unchecked-slot-requires c = carried_below _ (c.args.first + c.loop.counter) c.args.window c.loop.invariant.1 c.requires.0

pub loop-preserved : goal.loop-preserved
loop-preserved c = let here = marked c.args.mark c.args.store.now c.args.window (c.args.first + c.loop.counter) in
    let total : c.if-mark_unchecked-mark.total ≡ c.loop.total + cond here 1 0 = elim c.if-mark_unchecked-mark.branch [
      | then-mark_unchecked-mark w ↦ w.total-is ∙ sym (ap (λ (b : Bool). c.loop.total + cond b 1 0) (eq-eqb _ _ (sym ((c.mark_unchecked.ensures ∙ ap (λ (s : ℕ). slot_mark (slot_at c.args.store.now s)) c.loop.invariant.1)) ∙ w.if-mark_unchecked-mark.true)))
      | else-mark_unchecked-mark w ↦ w.total-is ∙ sym (ap (λ (b : Bool). c.loop.total + cond b 1 0) (ne_eqb _ _ (λ e. w.if-mark_unchecked-mark.false ((c.mark_unchecked.ensures ∙ ap (λ (s : ℕ). slot_mark (slot_at c.args.store.now s)) c.loop.invariant.1) ∙ e))) ∙ add-zero c.loop.total)
    ] in
    let turn = count_turn c.args.store.now c.args.window c.args.first c.loop.counter c.args.count c.loop-test.true c.args.mark in
    let inv = c.loop.invariant.0 in
    (omega arith, carried_on _ _ c.args.first c.loop.counter c.args.window c.loop.invariant.1 c.next_slot_unchecked-slot.ensures)

pub returns : goal.returns
returns c = let inv = c.loop.invariant.0 in
    let stop = count_end c.args.mark c.args.store.now c.args.window (c.args.first + c.loop.counter) c.loop.counter c.args.count c.loop-test.false in
    omega arith
