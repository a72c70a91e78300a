use native.Mathlib.Omega.{arith}
use Rattle.text.specs.Decimal.{digits, right_in}
use Rattle.text.proofs.Places.{place_full, place_written}
use Rattle.text.proofs.Numbers.{right_some}
use Rattle.text.proofs.write_right.Goals as goal

pub returns-then-room-right_length : goal.returns-then-room-right_length
returns-then-room-right_length c = let a = c.args in
    place_full a.out.now a.at _ (right_in a.width (digits a.n)) c.right_length.ensures (omega arith)

pub write_right_unchecked-next-requires : goal.write_right_unchecked-next-requires
write_right_unchecked-next-requires c = let a = c.args in
    let s = right_some a.width a.n in omega arith

pub returns : goal.returns
returns c = let a = c.args in
    let s = right_some a.width a.n in
    let e = c.write_right_unchecked-next.ensures in
    place_written a.out.now (right_in a.width (digits a.n)) a.at (omega arith) e.0 e.1
