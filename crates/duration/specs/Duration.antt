-- Rust's std::time::Duration, `as_secs_f64` and `from_secs_f64`, on nanoseconds; document 01, `timing/rto.rs`.
use Rattle.std.specs.Prelude.{ℕ, ◌*◌, ◌/◌, ◌%◌, Bool, false, cond, ◌&&◌, pos, negsuc, Float, None, Option, Some}
use Rattle.std.specs.Float.{binary64, fin}
use Rattle.std.specs.Float.Ieee.{add, div, of_int, le, lt}
use Rattle.std.specs.Float.Ieee.Nearest.{closest}
use Rattle.std.specs.Float.Ieee.Positive.{num, den}

-- the whole seconds, plus the rest over 1e9
abbrev pub as_secs_f64 : ℕ → Float
as_secs_f64 ns =
    add binary64 (of_int binary64 (pos (ns / 1000000000)))
    (div binary64 (of_int binary64 (pos (ns % 1000000000))) (of_int binary64 (pos 1000000000)))

-- of a finite x that is not negative, num x / den x: the whole number nearest to x * 10 ^ 9, a tie to the even one
abbrev pub from_secs_f64 : Float → ℕ
from_secs_f64 x = closest (num x * 1000000000) (den x)

-- 0 <= x < 2 ^ 34; -0.0 is, a NaN is not
abbrev pub secs_in_bounds : Float → Bool
secs_in_bounds x = le (fin false 0 (pos 0)) x && lt x (fin false 1 (pos 34))

-- 2 ^ -31 <= x < 2 ^ 21
abbrev pub below21 : Float → Bool
below21 x = le (fin false 1 (negsuc 30)) x && lt x (fin false 1 (pos 21))

-- 2 ^ 21 <= x < 2 ^ 34
abbrev pub from21 : Float → Bool
from21 x = le (fin false 1 (pos 21)) x && lt x (fin false 1 (pos 34))

abbrev pub from_secs_checked : Float → Option ℕ
from_secs_checked x = cond (secs_in_bounds x) (Some (from_secs_f64 x)) None
