-- Document 01, "Bounds of a setup" and `channel/mod.rs`; the operations are those of IEEE 754.
use Rattle.std.specs.Prelude.{ℕ, Bool, false, ◌&&◌, pos, negsuc, Float}
use Rattle.std.specs.Float.{fin, binary64}
use Rattle.std.specs.Float.Ieee.{mul, of_int, to_unsigned, le, lt}

-- "Rolls at least 0 and below 1": -0.0 is, a NaN is not
abbrev pub roll_in_bounds : Float → Bool
roll_in_bounds x = le (fin false 0 (pos 0)) x && lt x (fin false 1 (pos 0))

-- "Chances 0 to 1": -0.0 is, a NaN is not
abbrev pub chance_in_bounds : Float → Bool
chance_in_bounds x = le (fin false 0 (pos 0)) x && le x (fin false 1 (pos 0))

-- the product of x and n, "rounded once as a double", without its fraction
abbrev pub scaled : Float → ℕ → ℕ
scaled x n = to_unsigned 64 (mul binary64 x (of_int binary64 (pos n)))

-- k * 2 ^ -53
abbrev pub roll_of : ℕ → Float
roll_of k = mul binary64 (of_int binary64 (pos k)) (fin false 1 (negsuc 52))
