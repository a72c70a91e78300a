use Prim.Native.Nat.{◌*◌}
use mathlib.Core.Path.{sym, ap, ◌∙◌}
use native.Mathlib.Omega.{arith}
use Rattle.octets.specs.Octets.{Octets}
use Rattle.checksum.specs.Rfc1071.{words, ones_add}
use Rattle.checksum.proofs.Carry.{add_carried, carried_add}
use Rattle.checksum.proofs.Words.{sum, words_below, ones_carried}
use Rattle.checksum.proofs.ones_sum_unchecked.Goals as goal

pub returns : goal.returns
returns c = let a = c.args in
    let s = a.octets.now in
    let octets : Octets s = record { at = λ i. (c.type_inv.octets i).fits } in
    c.fold_carries.ensures
    ∙ carried_add a.word (256 * c.swapped_sum.result) (sum s) (omega arith) c.swapped_sum.ensures.0
    ∙ sym (ap (ones_add a.word) (ones_carried (words s) (words_below s octets)) ∙ add_carried a.word (sum s) (omega arith))
