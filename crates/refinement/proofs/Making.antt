-- Fresh ends are the machine's, and no call turns them away.
use Rattle.std.specs.Prelude.{None}
use Prim.Native.Nat.{ℕ, ◌+◌, ◌-◌, ◌*◌, ◌<◌}
use mathlib.Core.Path.{◌≡◌, refl, sym, ◌∙◌}
use mathlib.Core.Bool.{false}
use mathlib.Core.List.{List, ◌++◌}
use native.Mathlib.Omega.{arith}
use borrow.Author.Tests.{ltb-false, le-ltb}
use lib.ListN.{length, drop, replicate, length-append, length-drop, length-replicate, get_or-replicate}
use lib.Dec.{eqb}
use Rattle.bounds.specs.Bounds.{slot_size, max_window}
use Rattle.protocol.specs.Machine.{new_sender, new_receiver}
use Rattle.protocol.specs.declared.ProtocolType.TheVariants.{SelectiveRepeat}
use Rattle.refusal.proofs.Laws.{none_of, any_of_none}
use Rattle.store.specs.Sound.{receiver_slots_broken, slot_of}
use Rattle.window.specs.State.{window_broken, store_short}
use Rattle.window.specs.Slots.{fresh}
use Rattle.selective_repeat.specs.Receiver.{receiver, receiving_broken, Ready}
use Rattle.selective_repeat.specs.Receiver as selective_repeat
use Rattle.selective_repeat.proofs.States.{not_broken}
use Rattle.refinement.specs.Follows.{held_in, slots_read, sender_of, receiver_of}
use Rattle.refinement.specs.Good.{GoodSelectiveReceiver}
use Rattle.refinement.proofs.Rows.{read_is}
use Rattle.refinement.proofs.Good.{none_below, fresh_byte, fresh_length}
use Rattle.refinement.proofs.Held.{empty_none}
use Rattle.refinement.proofs.GoodHeld.{empty_slot}

-- a sender
pub fresh_follows : (w : ℕ) (store : List ℕ) → sender_of (fresh w store) ≡ new_sender
unfolding fresh slots_read
fresh_follows w store = refl

-- a Selective Repeat receiver
abbrev pub zeroed : ℕ → List ℕ → List ℕ
zeroed w store = replicate (w * slot_size) 0 ++ drop (w * slot_size) store

pub fresh_receiver_follows : (w : ℕ) (store : List ℕ) → 0 < w → receiver_of w 0 (zeroed w store) ≡ new_receiver SelectiveRepeat w
fresh_receiver_follows w store p =
    let held : slots_read held_in (zeroed w store) w 0 w ≡ replicate w None = read_is held_in (zeroed w store) w 0 w None (replicate w None) (length-replicate w None)
    (λ i h. empty_none (slot_of (zeroed w store) w 0 i) (fresh_byte store w i 2 p (omega arith)) ∙ sym (get_or-replicate w i None None h)) in
    rw held

pub fresh_receiver_good : (w : ℕ) (store output : List ℕ) → window_broken w ≡ false → store_short store w ≡ false → GoodSelectiveReceiver (receiver (selective_repeat.new_receiver w) (zeroed w store)) output
unfolding receiving_broken window_broken store_short receiver_slots_broken
fresh_receiver_good w store output e f =
    let l = ltb-false w 1 (none_of _ e).0 in
    let r = ltb-false (length store) (w * slot_size) f in
    let p : 0 < w = omega arith in
    let sound : Ready (selective_repeat.new_receiver w) (zeroed w store) =
    record {
      positive = p;
      small = ltb-false max_window w (none_of _ e).1.0;
      room = simp (length-append, length-replicate, length-drop) (omega arith);
      low = omega arith;
      slots = none_below w _ (λ k h. empty_slot (eqb k 0) _ _ (fresh_length store w k p) (fresh_byte store w k 2 p (omega arith)));
    } in
    record {
      sound = any_of_none _ (not_broken (selective_repeat.new_receiver w) (zeroed w store) sound, (le-ltb (length output) 0 (omega arith), tt));
      none_high = λ k h high. fresh_byte store w k 2 p (omega arith);
    }
