use Prim.Native.Nat.{ℕ, ◌+◌, ◌-◌}
use mathlib.Core.Path.{◌≡◌, sym, ap, ◌∙◌}
use native.Mathlib.Omega.{arith}
use lib.ListN.{length, length-append}
use Rattle.store.proofs.Laws.{slot_in}
use Rattle.window.specs.Slots.{sender, datagram_for}
use Rattle.window.specs.Resending.{datagrams_from}
use Rattle.window.proofs.Resending.{datagrams_more, datagrams_done, length_low, datagram_length}
use Rattle.window.proofs.SendWindow.datagrams_length_unchecked.Goals as goal

pub overflow_add-n-end : goal.overflow_add-n-end
overflow_add-n-end c = let low = c.requires.low in omega arith

pub loop-n-init : goal.loop-n-init
loop-n-init c = let e : c.args.first + c.args.count - c.args.first ≡ c.args.count = omega arith in let same = ap (λ (k : ℕ). length (datagrams_from (sender c.args.self c.args.store.now) c.args.first k)) e in (omega arith, omega arith)

pub nonzero_rem-slot : goal.nonzero_rem-slot
nonzero_rem-slot c = let p = c.requires.positive in omega arith

pub length_unchecked-requires : goal.length_unchecked-requires
length_unchecked-requires c = slot_in c.args.store.now c.loop-n.n c.args.self.window_size c.requires.positive c.requires.room

pub overflow_add-total : goal.overflow_add-total
overflow_add-total c = let slot = c.length_unchecked.ensures in let short = length_low c.args.self c.args.store.now c.args.first c.args.count c.loop-n.n c.requires (omega arith) (omega arith) in omega arith

pub overflow_add-total-in-loop-n : goal.overflow_add-total-in-loop-n
overflow_add-total-in-loop-n c = let few = c.requires.few in let slot = c.length_unchecked.ensures in let short = length_low c.args.self c.args.store.now c.args.first c.args.count c.loop-n.n c.requires (omega arith) (omega arith) in let before = c.loop-n.invariant.0 in omega arith

pub loop-n-preserved : goal.loop-n-preserved
loop-n-preserved c = let few = c.requires.few in let slot = c.length_unchecked.ensures in let short = length_low c.args.self c.args.store.now c.args.first c.args.count c.loop-n.n c.requires (omega arith) (omega arith) in let before = c.loop-n.invariant.0 in let all = c.loop-n.invariant.1 in let one = datagram_length (sender c.args.self c.args.store.now) c.args.first c.args.count c.loop-n.n c.requires (omega arith) (omega arith) in let more = sym (length-append (datagram_for (sender c.args.self c.args.store.now) c.loop-n.n) (datagrams_from (sender c.args.self c.args.store.now) (c.loop-n.n + 1) (c.args.first + c.args.count - (c.loop-n.n + 1)))) ∙ ap length (datagrams_more (sender c.args.self c.args.store.now) c.loop-n.n (c.args.first + c.args.count) (omega arith)) in (omega arith, omega arith)

pub returns : goal.returns
returns c = let all = c.loop-n.invariant.1 in let none = ap length (datagrams_done (sender c.args.self c.args.store.now) c.loop-n.n (c.args.first + c.args.count - c.loop-n.n) (omega arith)) in omega arith
