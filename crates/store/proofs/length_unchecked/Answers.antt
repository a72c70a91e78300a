use mathlib.Core.Path.{◌≡◌, sym, ◌∙◌}
use Prim.Native.Nat.{◌+◌, ◌*◌}
use native.Mathlib.Omega.{arith}
use lib.Dec.{lit<}
use Rattle.store.proofs.Laws.{slot_byte}
use Rattle.store.proofs.length_unchecked.Goals as goal

pub returns : goal.returns
returns c = let a = c.args in
    let high = slot_byte a.store.now a.slot 0 (lit< tt) in
    let low = slot_byte a.store.now a.slot 1 (lit< tt) in
    let start : a.slot * 1404 + 0 ≡ a.slot * 1404 = omega arith in
    c.be16.ensures ∙ sym (rw (high, low, start))
