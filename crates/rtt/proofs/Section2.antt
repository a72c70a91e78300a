-- RFC 6298, section 2, over exact numbers (specs/Rfc6298.antt), against the update in doubles, with alpha 1/8, beta 1/4, K 4 and multiplier 1,
-- for stored values and samples of at most a day and a second. SRTT and RTTVAR are at most half a nanosecond away from the exact values, and
-- the RTO before its limits at most 9 / 8 of one; of the first sample SRTT and the RTO are the exact values.
use mathlib.Core.Path.{◌≡◌, refl}
use Prim.Native.Nat.{ℕ, ◌+◌, ◌*◌, ◌^◌, ◌≤◌, max}
use native.Mathlib.Omega.{arith}
use mathlib.Core.Bool.{false}
use lib.IntN.{negsuc}
use lib.Dec.{lit≤, lit<}
use lib.Ieee.{fin, binary64, sub, mul}
use Rattle.bounds.specs.Bounds.{max_estimate}
use Rattle.rtt.specs.Rtt.{one64, eighth64, quarter64, four64, to_ms, from_ms, larger, distance, next_srtt_ms, next_rttvar_ms, first_rttvar_ms, rto_ms, unlimited_rto, first_estimate, next_estimate}
use Rattle.rtt.specs.Rfc6298 as Rfc
use Rattle.rtt.specs.Rfc6298.{Within, AllWithin, whole, fraction}
use Rattle.rtt.proofs.Near.{Near, apart, slack_ms, slack_apart, near_ms, near_mul, near_once, near_weighted, near_apart, near_add, near_larger, near_scale, near_weaken, near_nanos}
use Rattle.rtt.proofs.FirstSample.{same_sample, half_sample, near_half, slack_half}

-- ---- 1 - 1/8 and 1 - 1/4 are doubles
seven_eighths : sub binary64 one64 eighth64 ≡ fin false 7 (negsuc 2)
unfolding sub
seven_eighths = refl

three_quarters : sub binary64 one64 quarter64 ≡ fin false 3 (negsuc 1)
unfolding sub
three_quarters = refl

-- ---- the slack of each step, 2 ^ 53 times over
-- of a weighted sum of values up to 86,402,000 ms
abbrev mixed : ℕ → ℕ → ℕ → ℕ → ℕ → ℕ
mixed a c b s t = a * s + (a * (86402000 * 2 ^ 1074) + b * 2 ^ 52) * 1000000 + (c * t + (c * (86402000 * 2 ^ 1074) + b * 2 ^ 52) * 1000000) + (172804000 * 2 ^ 1074 + 2 ^ 52) * (1000000 * b)

abbrev slack_srtt : ℕ
slack_srtt = mixed 7 1 8 slack_ms slack_ms

abbrev slack_rttvar : ℕ
slack_rttvar = mixed 3 1 4 slack_ms slack_apart

module _ (s v r : ℕ) (hs : s ≤ max_estimate) (hv : v ≤ max_estimate) (hr : r ≤ max_estimate) where
  srtt_ms : Near (next_srtt_ms eighth64 s r) 8000000 (7 * s + 1 * r) 172804000 slack_srtt
  srtt_ms =
      near_weighted eighth64 (fin false 7 (negsuc 2)) (to_ms s) (to_ms r) 7 1 8 (7 * 2 ^ 1071) (2 ^ 1071) 1000000 s r 86402000 slack_ms slack_ms seven_eighths refl refl (lit≤ tt) refl refl (lit≤ tt) (lit≤ tt)
      (near_ms s hs) (near_ms r hr)

  rttvar_ms : Near (next_rttvar_ms quarter64 v s r) 4000000 (3 * v + 1 * apart s r) 172804000 slack_rttvar
  rttvar_ms =
      near_weighted quarter64 (fin false 3 (negsuc 1)) (to_ms v) (distance (to_ms s) (to_ms r)) 3 1 4 (3 * 2 ^ 1072) (2 ^ 1072) 1000000 v (apart s r) 86402000 slack_ms slack_apart three_quarters refl refl (lit≤ tt) refl refl (lit≤ tt) (lit≤ tt)
      (near_ms v hv) (near_apart s r hs hr)

  srtt_eighths : (8 * from_ms (next_srtt_ms eighth64 s r) ≤ 7 * s + 1 * r + 4) × (7 * s + 1 * r ≤ 8 * from_ms (next_srtt_ms eighth64 s r) + 4)
  srtt_eighths = near_nanos (next_srtt_ms eighth64 s r) 8 (7 * s + 1 * r) 4 172804000 slack_srtt (lit≤ tt) (lit< tt) srtt_ms

  rttvar_quarters : (4 * from_ms (next_rttvar_ms quarter64 v s r) ≤ 3 * v + 1 * apart s r + 2) × (3 * v + 1 * apart s r ≤ 4 * from_ms (next_rttvar_ms quarter64 v s r) + 2)
  rttvar_quarters = near_nanos (next_rttvar_ms quarter64 v s r) 4 (3 * v + 1 * apart s r) 2 172804000 slack_rttvar (lit≤ tt) (lit< tt) rttvar_ms

-- ---- the RTO, in eighths: four RTTVAR, the larger of it and the granularity, the sum, and times 1.0
abbrev slack_larger : ℕ
slack_larger = 2 * (4 * slack_rttvar + (4 * (172804000 * 2 ^ 1074) + 1 * 2 ^ 52) * 4000000)

abbrev slack_sum : ℕ
slack_sum = slack_srtt + slack_larger + (864020000 * 2 ^ 1074 + 2 ^ 52) * 8000000

abbrev slack_rto : ℕ
slack_rto = 1 * slack_sum + (1 * (864020000 * 2 ^ 1074) + 1 * 2 ^ 52) * 8000000

module _ (s v r g : ℕ) (hs : s ≤ max_estimate) (hv : v ≤ max_estimate) (hr : r ≤ max_estimate) (hg : g ≤ max_estimate) where
  abbrev eighths : ℕ
  eighths = 7 * s + 1 * r + max (8 * g) (2 * (4 * (3 * v + 1 * apart s r)))

  larger_ms : Near (larger (mul binary64 four64 (next_rttvar_ms quarter64 v s r)) (to_ms g)) 8000000 (max (8 * g) (2 * (4 * (3 * v + 1 * apart s r)))) 691216000 slack_larger
  larger_ms =
      near_larger (mul binary64 four64 (next_rttvar_ms quarter64 v s r)) (to_ms g) 8000000 (2 * (4 * (3 * v + 1 * apart s r))) (8 * g) 691216000 slack_larger
      (near_scale (mul binary64 four64 (next_rttvar_ms quarter64 v s r)) 2 4000000 (4 * (3 * v + 1 * apart s r)) 691216000 (4 * slack_rttvar + (4 * (172804000 * 2 ^ 1074) + 1 * 2 ^ 52) * 4000000)
      (near_mul four64 (next_rttvar_ms quarter64 v s r) 4 1 (4 * 2 ^ 1074) 4 4000000 (3 * v + 1 * apart s r) 172804000 slack_rttvar refl refl (lit≤ tt) (lit≤ tt) (rttvar_ms s v r hs hv hr)))
      (near_weaken (to_ms g) 8000000 (8 * g) 86402000 691216000 (8 * slack_ms) slack_larger (lit≤ tt) (lit≤ tt) (near_scale (to_ms g) 8 1000000 g 86402000 slack_ms (near_ms g hg)))

  rto_ms_lem : Near (mul binary64 (rto_ms four64 g (next_srtt_ms eighth64 s r) (next_rttvar_ms quarter64 v s r)) one64) 8000000 (1 * eighths) 864020000 slack_rto
  rto_ms_lem =
      near_once (rto_ms four64 g (next_srtt_ms eighth64 s r) (next_rttvar_ms quarter64 v s r)) 8000000 eighths 864020000 slack_sum (lit≤ tt)
      (near_add (next_srtt_ms eighth64 s r) (larger (mul binary64 four64 (next_rttvar_ms quarter64 v s r)) (to_ms g)) 8000000 (7 * s + 1 * r) (max (8 * g) (2 * (4 * (3 * v + 1 * apart s r)))) 172804000 691216000 slack_srtt slack_larger (lit≤ tt)
      (srtt_ms s v r hs hv hr) larger_ms)

  rto_eighths : (8 * unlimited_rto four64 one64 g (next_srtt_ms eighth64 s r) (next_rttvar_ms quarter64 v s r) ≤ 1 * eighths + 9) × (1 * eighths ≤ 8 * unlimited_rto four64 one64 g (next_srtt_ms eighth64 s r) (next_rttvar_ms quarter64 v s r) + 9)
  rto_eighths = near_nanos (mul binary64 (rto_ms four64 g (next_srtt_ms eighth64 s r) (next_rttvar_ms quarter64 v s r)) one64) 8 (1 * eighths) 9 864020000 slack_rto (lit≤ tt) (lit< tt) rto_ms_lem

-- ---- the first sample's RTO, in halves
abbrev slack_first : ℕ
slack_first = 4 * slack_half + (4 * (86402000 * 2 ^ 1074) + 1 * 2 ^ 52) * 2000000

abbrev slack_first_sum : ℕ
slack_first_sum = 2 * slack_ms + slack_first + (432010000 * 2 ^ 1074 + 2 ^ 52) * 2000000

abbrev slack_first_rto : ℕ
slack_first_rto = 1 * slack_first_sum + (1 * (432010000 * 2 ^ 1074) + 1 * 2 ^ 52) * 2000000

module _ (r g : ℕ) (hr : r ≤ max_estimate) (hg : g ≤ max_estimate) where
  abbrev halves : ℕ
  halves = 2 * r + max (2 * g) (4 * r)

  first_rto_ms : Near (mul binary64 (rto_ms four64 g (to_ms r) (first_rttvar_ms r)) one64) 2000000 (1 * halves) 432010000 slack_first_rto
  first_rto_ms =
      near_once (rto_ms four64 g (to_ms r) (first_rttvar_ms r)) 2000000 halves 432010000 slack_first_sum (lit≤ tt)
      (near_add (to_ms r) (larger (mul binary64 four64 (first_rttvar_ms r)) (to_ms g)) 2000000 (2 * r) (max (2 * g) (4 * r)) 86402000 345608000 (2 * slack_ms) slack_first (lit≤ tt)
      (near_scale (to_ms r) 2 1000000 r 86402000 slack_ms (near_ms r hr))
      (near_larger (mul binary64 four64 (first_rttvar_ms r)) (to_ms g) 2000000 (4 * r) (2 * g) 345608000 slack_first
      (near_mul four64 (first_rttvar_ms r) 4 1 (4 * 2 ^ 1074) 4 2000000 r 86402000 slack_half refl refl (lit≤ tt) (lit≤ tt) (near_half r hr))
      (near_weaken (to_ms g) 2000000 (2 * g) 86402000 345608000 (2 * slack_ms) slack_first (lit≤ tt) (lit≤ tt) (near_scale (to_ms g) 2 1000000 g 86402000 slack_ms (near_ms g hg)))))

  first_rto_halves : (2 * unlimited_rto four64 one64 g (to_ms r) (first_rttvar_ms r) ≤ 1 * halves + 1) × (1 * halves ≤ 2 * unlimited_rto four64 one64 g (to_ms r) (first_rttvar_ms r) + 1)
  first_rto_halves = near_nanos (mul binary64 (rto_ms four64 g (to_ms r) (first_rttvar_ms r)) one64) 2 (1 * halves) 1 432010000 slack_first_rto (lit≤ tt) (lit< tt) first_rto_ms

-- ---- the section's fractions, multiplied out
module _ (c s r : ℕ) where
  srtt_within : (8 * c ≤ 7 * s + 1 * r + 4) × (7 * s + 1 * r ≤ 8 * c + 4) → Within (fraction 1 2) c (Rfc.next_srtt (whole s) (whole r))
  srtt_within h = let a = h.0 in let b = h.1 in record { notAbove = omega arith; notBelow = omega arith }

rttvar_within : (c s v r : ℕ) → (4 * c ≤ 3 * v + 1 * apart s r + 2) × (3 * v + 1 * apart s r ≤ 4 * c + 2) → Within (fraction 1 2) c (Rfc.next_rttvar (whole s) (whole v) (whole r))
rttvar_within c s v r h = let a = h.0 in let b = h.1 in record { notAbove = omega arith; notBelow = omega arith }

rto_within : (c s v r g : ℕ) → (8 * c ≤ 1 * (7 * s + 1 * r + max (8 * g) (2 * (4 * (3 * v + 1 * apart s r)))) + 9) × (1 * (7 * s + 1 * r + max (8 * g) (2 * (4 * (3 * v + 1 * apart s r)))) ≤ 8 * c + 9) → Within (fraction 9 8) c (Rfc.next_rto (whole g) (whole s) (whole v) (whole r))
rto_within c s v r g h = let a = h.0 in let b = h.1 in record { notAbove = omega arith; notBelow = omega arith }

first_rto_exact : (c r g : ℕ) → (2 * c ≤ 1 * (2 * r + max (2 * g) (4 * r)) + 1) × (1 * (2 * r + max (2 * g) (4 * r)) ≤ 2 * c + 1) → c ≡ r + max g (2 * r)
first_rto_exact c r g h = let a = h.0 in let b = h.1 in omega arith

first_rttvar_within : (c r : ℕ) → (r ≤ 2 * c + 1) × (2 * c ≤ r + 1) → Within (fraction 1 2) c (Rfc.first_rttvar (whole r))
first_rttvar_within c r h = let a = h.0 in let b = h.1 in record { notAbove = omega arith; notBelow = omega arith }

exact_within : (c r : ℕ) → c ≡ r → Within (whole 0) c (whole r)
exact_within c r h = record { notAbove = omega arith; notBelow = omega arith }

first_rto_within : (c r g : ℕ) → c ≡ r + max g (2 * r) → Within (whole 0) c (Rfc.first_rto (whole g) (whole r))
first_rto_within c r g h = record { notAbove = omega arith; notBelow = omega arith }

-- ---- the laws
-- (2.3)
abbrev pub next_distances : Rfc.Estimates
next_distances = Rfc.estimates (fraction 1 2) (fraction 1 2) (fraction 9 8)

pub next_within : (s v r g : ℕ) → s ≤ max_estimate → v ≤ max_estimate → r ≤ max_estimate → g ≤ max_estimate → AllWithin next_distances (next_estimate eighth64 quarter64 four64 one64 g s v r) (Rfc.next (whole g) (whole s) (whole v) (whole r))
unfolding next_estimate
next_within s v r g hs hv hr hg =
    record {
      srtt = srtt_within (from_ms (next_srtt_ms eighth64 s r)) s r (srtt_eighths s v r hs hv hr);
      rttvar = rttvar_within (from_ms (next_rttvar_ms quarter64 v s r)) s v r (rttvar_quarters s v r hs hv hr);
      rto = rto_within (unlimited_rto four64 one64 g (next_srtt_ms eighth64 s r) (next_rttvar_ms quarter64 v s r)) s v r g (rto_eighths s v r g hs hv hr hg);
    }

-- (2.2)
abbrev pub first_distances : Rfc.Estimates
first_distances = Rfc.estimates (whole 0) (fraction 1 2) (whole 0)

pub first_within : (r g : ℕ) → r ≤ max_estimate → g ≤ max_estimate → AllWithin first_distances (first_estimate four64 one64 g r) (Rfc.first (whole g) (whole r))
unfolding first_estimate
first_within r g hr hg =
    record {
      srtt = exact_within (from_ms (to_ms r)) r (same_sample r hr);
      rttvar = first_rttvar_within (from_ms (first_rttvar_ms r)) r (half_sample r hr);
      rto = first_rto_within (unlimited_rto four64 one64 g (to_ms r) (first_rttvar_ms r)) r g (first_rto_exact (unlimited_rto four64 one64 g (to_ms r) (first_rttvar_ms r)) r g (first_rto_halves r g hr hg));
    }

-- ---- the section's numbers: G 1 ns, first sample 100 ns: 100, 50 and 300 ns; then 200 ns: 112.5, 62.5 and 362.5 ns
pub exact_first : Rfc.first (whole 1) (whole 100) ≡ Rfc.estimates (whole 100) (fraction 100 2) (fraction 600 2)
exact_first = refl

pub exact_next : Rfc.next (whole 1) (whole 100) (whole 50) (whole 200) ≡ Rfc.estimates (fraction (225 * 32) (2 * 32)) (fraction (125 * 8) (2 * 8)) (fraction (725 * 512) (2 * 512))
exact_next = refl
