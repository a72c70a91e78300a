use Rattle.std.proofs.Common.{◌≡◌, true, false, pos}
use lib.Ieee.{fin, le, lt, of_bits}
use lib.Ieee.Fits.{and_i}
use denote.Floats.{passes}
use Rattle.duration.proofs.from_secs_f64.Goals as goal

-- `duration::from_secs_f64` meets its contract: each return rewrites with the tests that led to it.

pub from_secs_f64_unchecked-requires : goal.from_secs_f64_unchecked-requires
unfolding of_bits
from_secs_f64_unchecked-requires c = let x = c.args.x in
    let a : le (fin false 0 (pos 0)) x ≡ true = c.if-x.true in
    let b : lt x (fin false 1 (pos 34)) ≡ true = c.if-x-2.true in
    and_i (le (fin false 0 (pos 0)) x) (lt x (fin false 1 (pos 34))) (passes _ a) (passes _ b)

pub returns-then-x-2 : goal.returns-then-x-2
unfolding of_bits
returns-then-x-2 c = let x = c.args.x in
    let a : le (fin false 0 (pos 0)) x ≡ true = c.if-x.true in
    let b : lt x (fin false 1 (pos 34)) ≡ true = c.if-x-2.true in
    simp (a, b, c.from_secs_f64_unchecked.ensures)

pub returns-else-x-2 : goal.returns-else-x-2
unfolding of_bits
returns-else-x-2 c = let x = c.args.x in
    let a : le (fin false 0 (pos 0)) x ≡ true = c.if-x.true in
    let b : lt x (fin false 1 (pos 34)) ≡ false = c.if-x-2.false in
    simp (a, b)

pub returns-else-x : goal.returns-else-x
unfolding of_bits
returns-else-x c = let x = c.args.x in
    let a : le (fin false 0 (pos 0)) x ≡ false = c.if-x.false in
    simp a
