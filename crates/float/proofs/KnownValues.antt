-- Document 01, J1, and the bounds' edges, by computation.
use Rattle.std.proofs.Common.{◌≡◌, true, false, pos, negsuc, refl}
use lib.Ieee.{nan, fin, binary64, mul, of_int, to_unsigned, le, lt, of_bits}
use Rattle.float.specs.Roll.{scaled, roll_in_bounds, chance_in_bounds}

-- J1: jitter 2, roll 6004799503160661 / 2 ^ 53; the exact product is below 2, the rounded one is 2
pub j1 : scaled (fin false 6004799503160661 (negsuc 52)) 3 ≡ 2
unfolding mul of_int to_unsigned
j1 = refl

-- the same roll by its bit pattern
pub j1_bits : scaled (of_bits binary64 0x3fe5555555555555) 3 ≡ 2
unfolding mul of_int to_unsigned of_bits
j1_bits = refl

pub j1_in_bounds : roll_in_bounds (fin false 6004799503160661 (negsuc 52)) ≡ true
unfolding le lt
j1_in_bounds = refl

pub one_is_no_roll : roll_in_bounds (fin false 1 (pos 0)) ≡ false
unfolding le lt
one_is_no_roll = refl

pub one_is_a_chance : chance_in_bounds (fin false 1 (pos 0)) ≡ true
unfolding le lt
one_is_a_chance = refl

pub nan_is_no_roll : roll_in_bounds nan ≡ false
unfolding le lt
nan_is_no_roll = refl

pub nan_is_no_chance : chance_in_bounds nan ≡ false
unfolding le lt
nan_is_no_chance = refl

pub minus_zero_is_a_roll : roll_in_bounds (fin true 0 (pos 0)) ≡ true
unfolding le lt
minus_zero_is_a_roll = refl

pub minus_zero_scaled : scaled (fin true 0 (pos 0)) 3 ≡ 0
unfolding mul of_int to_unsigned
minus_zero_scaled = refl
