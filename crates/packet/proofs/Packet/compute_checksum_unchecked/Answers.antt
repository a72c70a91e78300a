use mathlib.Core.Path.{sym}
use native.Mathlib.Omega.{arith}
use Rattle.octets.specs.Octets.{Octets}
use Rattle.packet.proofs.Header.{Fits, checksum_is}
use Rattle.packet.proofs.Packet.compute_checksum_unchecked.Goals as goal

pub returns : goal.returns
returns c = let p = c.args.self in
    let l = c.args.payload.now in
    let fits : Fits p = record { seq_num = c.struct_known-1.given.0.fits; flags = c.struct_known-1.given.1.1.0.fits } in
    let octets : Octets l = record { at = λ i. (c.type_inv.payload i).fits } in
    simp (c.ones_sum_unchecked.ensures, c.ones_add-header.ensures, c.ones_add-2.ensures, c.ones_add.ensures, c.be16-kind_and_flags.ensures, c.to_byte.ensures)
    (sym (checksum_is p l fits (omega arith) octets))
