use Prim.Native.Nat.{ℕ, ◌+◌, ◌-◌, ◌≤◌}
use mathlib.Core.Path.{◌≡◌, refl, sym, ap, ◌∙◌}
use native.Mathlib.Omega.{arith}
use lib.ListN.{length, length-append, length-take, length-drop}
use Rattle.window.specs.Slots.{sender, datagram_for}
use Rattle.window.specs.Resending.{datagrams_from}
use Rattle.window.proofs.Resending.{placed, placed_none, placed_front, written_length, placed_more, datagrams_more, datagrams_done, length_low, datagram_length}
use Rattle.window.proofs.SendWindow.write_datagrams_unchecked.Goals as goal

pub overflow_add-n-end : goal.overflow_add-n-end
overflow_add-n-end c = let low = c.requires.resendable.low in omega arith

pub loop-n-init : goal.loop-n-init
loop-n-init c = let e : c.args.first + c.args.count - c.args.first ≡ c.args.count = omega arith in let fit = c.requires.count_in_bounds in let same = ap (λ (k : ℕ). length (datagrams_from (sender c.args.self c.args.store.now) c.args.first k)) e in (refl, omega arith, ap (λ (k : ℕ). placed c.args.out.now 0 (datagrams_from (sender c.args.self c.args.store.now) c.args.first k)) e)

pub slice_bounds-write_datagram_unchecked-count : goal.slice_bounds-write_datagram_unchecked-count
slice_bounds-write_datagram_unchecked-count c = let fit = c.loop-n.invariant.1 in omega arith

pub slice_bounds-write_datagram_unchecked-start : goal.slice_bounds-write_datagram_unchecked-start
slice_bounds-write_datagram_unchecked-start c = let fit = c.loop-n.invariant.1 in omega arith

pub slice_bounds-write_datagram_unchecked-end : goal.slice_bounds-write_datagram_unchecked-end
slice_bounds-write_datagram_unchecked-end c = let fit = c.loop-n.invariant.1 in omega arith

pub write_datagram_unchecked-at-requires : goal.write_datagram_unchecked-at-requires
write_datagram_unchecked-at-requires c = let one = datagram_length (sender c.args.self c.args.store.now) c.args.first c.args.count c.loop-n.n c.requires.resendable (omega arith) (omega arith) in let more = sym (length-append (datagram_for (sender c.args.self c.args.store.now) c.loop-n.n) (datagrams_from (sender c.args.self c.args.store.now) (c.loop-n.n + 1) (c.args.first + c.args.count - (c.loop-n.n + 1)))) ∙ ap length (datagrams_more (sender c.args.self c.args.store.now) c.loop-n.n (c.args.first + c.args.count) (omega arith)) in let fit = c.loop-n.invariant.1 in record { window_size_nonzero = (c.requires.resendable.positive, c.requires.resendable.room); seq_num_bound = (length_low c.args.self c.args.store.now c.args.first c.args.count c.loop-n.n c.requires.resendable (omega arith) (omega arith), simp (length-take, length-drop) (omega arith)) }

pub overflow_add-at : goal.overflow_add-at
overflow_add-at c = let one = datagram_length (sender c.args.self c.args.store.now) c.args.first c.args.count c.loop-n.n c.requires.resendable (omega arith) (omega arith) in let more = sym (length-append (datagram_for (sender c.args.self c.args.store.now) c.loop-n.n) (datagrams_from (sender c.args.self c.args.store.now) (c.loop-n.n + 1) (c.args.first + c.args.count - (c.loop-n.n + 1)))) ∙ ap length (datagrams_more (sender c.args.self c.args.store.now) c.loop-n.n (c.args.first + c.args.count) (omega arith)) in let fit = c.loop-n.invariant.1 in let written = c.write_datagram_unchecked-at.ensures.value in omega arith

pub loop-n-preserved : goal.loop-n-preserved
loop-n-preserved c = let one = datagram_length (sender c.args.self c.args.store.now) c.args.first c.args.count c.loop-n.n c.requires.resendable (omega arith) (omega arith) in let more = sym (length-append (datagram_for (sender c.args.self c.args.store.now) c.loop-n.n) (datagrams_from (sender c.args.self c.args.store.now) (c.loop-n.n + 1) (c.args.first + c.args.count - (c.loop-n.n + 1)))) ∙ ap length (datagrams_more (sender c.args.self c.args.store.now) c.loop-n.n (c.args.first + c.args.count) (omega arith)) in let fit = c.loop-n.invariant.1 in let written = c.write_datagram_unchecked-at.ensures in let d = datagram_for (sender c.args.self c.args.store.now) c.loop-n.n in let room : c.loop-n.at + length d ≤ length c.loop-n.out = omega arith in let same = written_length c.loop-n.out c.write_datagram_unchecked-at.new.out d c.loop-n.at room written.out_after in (same ∙ c.loop-n.invariant.0, omega arith, placed_more c.loop-n.out c.write_datagram_unchecked-at.new.out d c.loop-n.at room written.out_after (datagrams_from (sender c.args.self c.args.store.now) (c.loop-n.n + 1) (c.args.first + c.args.count - (c.loop-n.n + 1))) c.write_datagram_unchecked-at.result written.value ∙ ap (placed c.loop-n.out c.loop-n.at) (datagrams_more (sender c.args.self c.args.store.now) c.loop-n.n (c.args.first + c.args.count) (omega arith)) ∙ c.loop-n.invariant.2)

pub shape_of-out : goal.shape_of-out
shape_of-out c = c.loop-n.invariant.0

pub returns : goal.returns
returns c = let none = datagrams_done (sender c.args.self c.args.store.now) c.loop-n.n (c.args.first + c.args.count - c.loop-n.n) (omega arith) in sym (placed_none c.loop-n.out c.loop-n.at) ∙ ap (placed c.loop-n.out c.loop-n.at) (sym none) ∙ c.loop-n.invariant.2 ∙ placed_front c.args.out.now (datagrams_from (sender c.args.self c.args.store.now) c.args.first c.args.count)
