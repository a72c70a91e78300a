-- Ties go to the even nanosecond, by computation.
use Rattle.std.proofs.Common.{◌≡◌, false, negsuc, refl}
use lib.Ieee.{nan, fin, le, lt}
use Rattle.duration.specs.Duration.{from_secs_f64, secs_in_bounds}

-- 1 / 1024 s is 976562.5 ns, 3 / 1024 s is 2929687.5 ns
pub tie_down : from_secs_f64 (fin false 1 (negsuc 9)) ≡ 976562
tie_down = refl

pub tie_up : from_secs_f64 (fin false 3 (negsuc 9)) ≡ 2929688
tie_up = refl

-- 2 ^ 21 + 1 / 1024 s
pub large_tie : from_secs_f64 (fin false 2147483649 (negsuc 9)) ≡ 2097152000976562
large_tie = refl

pub nan_out : secs_in_bounds nan ≡ false
unfolding le lt
nan_out = refl
