use mathlib.Core.Path.{◌≡◌, sym, ap, ◌∙◌}
use Prim.Native.Nat.{◌+◌, ◌-◌}
use native.Mathlib.Omega.{arith}
use borrow.Author.Tests.{eq-eqb, ne_eqb}
use Rattle.selective_repeat.specs.Receiver.{receiver, held, out_of_order, duplicate}
use Rattle.selective_repeat.proofs.Deciding.{data_in_order, data_above, data_below, data_ahead, data_behind}
use Rattle.store.proofs.Laws.{slot_in, run_within}
use mathlib.Core.Bool.{Bool, false, cond}
use Rattle.selective_repeat.proofs.SelectiveRepeatReceiver.decide_data.Goals as goal
use Rattle.selective_repeat.proofs.SelectiveRepeatReceiver.decide_data.Goals.{then-base-n+else-mark_unchecked-ne1, else-base-n}

pub overflow_cast-self : goal.overflow_cast-self
overflow_cast-self c = let run = run_within 1 c.args.store.now c.args.self.window_size (c.args.self.recv_base + 1) (c.args.self.window_size - 1) in
    let r = c.marked_run_unchecked-released.ensures in
    let small = c.requires.ready.small in
    omega arith

pub overflow_add-self-then-n-base : goal.overflow_add-self-then-n-base
overflow_add-self-then-n-base c = let run = run_within 1 c.args.store.now c.args.self.window_size (c.args.self.recv_base + 1) (c.args.self.window_size - 1) in
    let r = c.marked_run_unchecked-released.ensures in
    let small = c.requires.ready.small in
    let low = c.requires.ready.low in
    omega arith

pub returns-then-n-base : goal.returns-then-n-base
returns-then-n-base c = c.decided.ensures ∙ rw c.marked_run_unchecked-released.ensures (sym (data_in_order (receiver c.args.self c.args.store.now) c.args.n c.if-n-base.true))

pub returns-then-base-window : goal.returns-then-base-window
returns-then-base-window c = c.decided-then-base-window.ensures ∙ sym (data_above (receiver c.args.self c.args.store.now) c.args.n c.if-n-base.false c.if-base-window.true)

pub returns-then-n-window : goal.returns-then-n-window
returns-then-n-window c = c.decided-then-n-window.ensures ∙ sym (data_below (receiver c.args.self c.args.store.now) c.args.n c.if-n-window.true)

pub mark_unchecked-requires : goal.mark_unchecked-requires
mark_unchecked-requires c = slot_in c.args.store.now c.args.n c.args.self.window_size c.requires.ready.positive c.requires.ready.room

pub returns-then-mark_unchecked-ne1 : goal.returns-then-mark_unchecked-ne1
returns-then-mark_unchecked-ne1 c = let v = (receiver c.args.self c.args.store.now) in
    let other : held v c.args.n ≡ false = ne_eqb _ _ (λ e. c.if-mark_unchecked-ne1.true (c.mark_unchecked.ensures ∙ e)) in
    c.decided-then-mark_unchecked-ne1.ensures ∙ sym (data_ahead v c.args.n c.if-base-n.true c.if-base-window.false ∙ rw other)

pub returns : goal.returns
returns c = let v = (receiver c.args.self c.args.store.now) in
    c.decided-2.ensures ∙
    elim c.if-base-n.branch [
      | then-base-n+else-mark_unchecked-ne1 w ↦ sym (data_ahead v c.args.n w.if-base-n.true c.if-base-window.false ∙ ap (λ (b : Bool). cond b (duplicate v c.args.n) (out_of_order v c.args.n)) (eq-eqb _ _ (sym w.mark_unchecked.ensures ∙ w.if-mark_unchecked-ne1.false)))
      | else-base-n w ↦ let low = w.if-base-n.false in let other = c.if-n-base.false in sym (data_behind v c.args.n (omega arith) c.if-n-window.false)
    ]
