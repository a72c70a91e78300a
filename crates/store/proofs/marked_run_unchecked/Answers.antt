use Prim.Native.Nat.{◌+◌, ◌-◌, ℕ, ◌%◌}
use mathlib.Core.Path.{◌≡◌, sym, ◌∙◌, ap}
use mathlib.Core.Bool.{true, false}
use native.Mathlib.Omega.{arith}
use borrow.Author.Tests.{eq-eqb, ne_eqb}
use native.Mathlib.Nat.{add-zero, sub-zero, zero-add}
use Rattle.store.specs.Numbers.{marked}
use Rattle.store.proofs.Tests.{carried_in, carried_below, carried_on}
use Rattle.store.proofs.Numbers.{run_turn, run_stop, run_end}
use Rattle.store.specs.Slot.{slot_mark, slot_at}
use Rattle.store.proofs.marked_run_unchecked.Goals as goal

pub nonzero_rem-slot : goal.nonzero_rem-slot
nonzero_rem-slot c = omega (arith, c.requires.0)

pub loop-k-init : goal.loop-k-init
loop-k-init c = (rw (add-zero, sub-zero, zero-add), ap (λ (n : ℕ). n % c.args.window) (omega arith))

pub mark_unchecked-requires : goal.mark_unchecked-requires
mark_unchecked-requires c = carried_in c.args.store.now _ (c.args.first + c.loop-k.k) c.args.window c.loop-k.invariant.1 c.requires.0 c.requires.1

pub returns-then-mark_unchecked-mark : goal.returns-then-mark_unchecked-mark
returns-then-mark_unchecked-mark c = let other : marked c.args.mark c.args.store.now c.args.window (c.args.first + c.loop-k.k) ≡ false = ne_eqb _ _ (λ e. c.if-mark_unchecked-mark.true ((c.mark_unchecked.ensures ∙ ap (λ (s : ℕ). slot_mark (slot_at c.args.store.now s)) c.loop-k.invariant.1) ∙ e)) in
    let inv = c.loop-k.invariant.0 in
    let stop = run_stop c.args.mark c.args.store.now c.args.window (c.args.first + c.loop-k.k) (c.args.count - c.loop-k.k) other in
    omega arith

pub next_slot_unchecked-slot-requires : goal.next_slot_unchecked-slot-requires
next_slot_unchecked-slot-requires c = carried_below _ (c.args.first + c.loop-k.k) c.args.window c.loop-k.invariant.1 c.requires.0

pub loop-k-preserved : goal.loop-k-preserved
loop-k-preserved c = let same : marked c.args.mark c.args.store.now c.args.window (c.args.first + c.loop-k.k) ≡ true = eq-eqb _ _ (sym ((c.mark_unchecked.ensures ∙ ap (λ (s : ℕ). slot_mark (slot_at c.args.store.now s)) c.loop-k.invariant.1)) ∙ c.if-mark_unchecked-mark.false) in
    (run_turn c.args.store.now c.args.window c.args.first c.loop-k.k c.args.count c.loop-k-test.true c.args.mark same ∙ c.loop-k.invariant.0, carried_on _ _ c.args.first c.loop-k.k c.args.window c.loop-k.invariant.1 c.next_slot_unchecked-slot.ensures)

pub returns : goal.returns
returns c = let inv = c.loop-k.invariant.0 in
    let stop = run_end c.args.mark c.args.store.now c.args.window (c.args.first + c.loop-k.k) c.loop-k.k c.args.count c.loop-k-test.false in
    omega arith
