use Rattle.std.proofs.Common.{◌≡◌, Bool, true, false, not, T, pos, negsuc, sym, subst}
use lib.Ieee.{fin, le, lt, of_bits}
use lib.Ieee.Fits.{and_i, and_l, and_r}
use denote.Floats.{passes}
use Rattle.duration.proofs.Significand.{small_none, lt_of_not_le_21}
use Rattle.duration.proofs.from_secs_f64_unchecked.Goals as goal

pub nanos_from_2_pow_21-requires : goal.nanos_from_2_pow_21-requires
unfolding of_bits
nanos_from_2_pow_21-requires c = let x = c.args.x in
    let d : le (fin false 1 (pos 21)) x ≡ true = c.if-x.true in
    and_i (le (fin false 1 (pos 21)) x) (lt x (fin false 1 (pos 34))) (passes _ d) (and_r (le (fin false 0 (pos 0)) x) (lt x (fin false 1 (pos 34))) c.requires)

pub nanos_below_2_pow_21-requires : goal.nanos_below_2_pow_21-requires
unfolding of_bits
nanos_below_2_pow_21-requires c = let x = c.args.x in
    let d : le (fin false 1 (negsuc 30)) x ≡ true = c.if-x-2.true in
    let l : le (fin false 1 (pos 21)) x ≡ false = c.if-x.false in
    and_i (le (fin false 1 (negsuc 30)) x) (lt x (fin false 1 (pos 21))) (passes _ d)
    (lt_of_not_le_21 x (and_l (le (fin false 0 (pos 0)) x) (lt x (fin false 1 (pos 34))) c.requires) (subst (λ (z : Bool). T (not z)) (sym l) tt))

pub returns : goal.returns
unfolding of_bits
returns c = let x = c.args.x in
    let d : le (fin false 1 (negsuc 30)) x ≡ false = c.if-x-2.false in
    let p = c.requires in
    sym (small_none x (and_l (le (fin false 0 (pos 0)) x) (lt x (fin false 1 (pos 34))) p) (and_r (le (fin false 0 (pos 0)) x) (lt x (fin false 1 (pos 34))) p) (subst (λ (z : Bool). T (not z)) (sym d) tt))
