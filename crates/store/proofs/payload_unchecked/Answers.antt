use mathlib.Core.Path.{sym}
use Prim.Native.Nat.{◌+◌, ◌*◌}
use native.Mathlib.Omega.{arith}
use native.Mathlib.Nat.{add-sub_cancel_left}
use Rattle.store.proofs.Laws.{slot_payload_lem}
use Rattle.store.proofs.payload_unchecked.Goals as goal

pub returns : goal.returns
returns c = let a = c.args in
    let n = c.length_unchecked.result in
    rw (add-sub_cancel_left (a.slot * 1404 + 4) n)
    (sym (slot_payload_lem a.store.now a.slot n c.length_unchecked.ensures (omega arith)))
