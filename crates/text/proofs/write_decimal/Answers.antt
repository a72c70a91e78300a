use native.Mathlib.Omega.{arith}
use Rattle.text.specs.Decimal.{digits}
use Rattle.text.proofs.Places.{place_full, place_written}
use Rattle.text.proofs.Digits.{digits_some}
use Rattle.text.proofs.write_decimal.Goals as goal

pub returns-then-room-decimal_length : goal.returns-then-room-decimal_length
returns-then-room-decimal_length c = let a = c.args in
    place_full a.out.now a.at _ (digits a.n) c.decimal_length.ensures (omega arith)

pub write_decimal_unchecked-next-requires : goal.write_decimal_unchecked-next-requires
write_decimal_unchecked-next-requires c = let s = digits_some c.args.n in omega arith

pub returns : goal.returns
returns c = let a = c.args in
    let s = digits_some a.n in
    let e = c.write_decimal_unchecked-next.ensures in
    place_written a.out.now (digits a.n) a.at (omega arith) e.0 e.1
