-- RFC 6298, section 2, on nanoseconds, worked out in doubles of milliseconds in the order of the reference's
-- `update_rtt`. Rfc6298.antt has the section over exact numbers.
use Rattle.std.specs.Prelude.{ℕ, Bool, false, ◌&&◌, cond, pos, negsuc, Float}
use Rattle.std.specs.Float.{fin, binary64}
use Rattle.std.specs.Float.Ieee.{add, sub, mul, div, le, lt}
use Rattle.float.specs.Sign.{absolute}
use Rattle.duration.specs.Duration.{as_secs_f64, from_secs_f64}
use Rattle.rtt.specs.declared.Estimate.{Estimate}

-- 0.0, 1.0, 2.0, 16.0 and 1000.0
abbrev pub zero64 : Float
zero64 = fin false 0 (pos 0)

abbrev pub one64 : Float
one64 = fin false 1 (pos 0)

abbrev pub two64 : Float
two64 = fin false 1 (pos 1)

abbrev pub sixteen64 : Float
sixteen64 = fin false 1 (pos 4)

abbrev pub thousand64 : Float
thousand64 = fin false 125 (pos 3)

-- RFC 6298's alpha, beta and K: 1/8, 1/4 and 4.0
abbrev pub eighth64 : Float
eighth64 = fin false 1 (negsuc 2)

abbrev pub quarter64 : Float
quarter64 = fin false 1 (negsuc 1)

abbrev pub four64 : Float
four64 = fin false 1 (pos 2)

-- k and the multiplier lie from 0 to 16; -0.0 passes
abbrev pub factor_in_bounds : Float → Bool
factor_in_bounds x = le zero64 x && le x sixteen64

-- a duration in milliseconds, and back
abbrev pub to_ms : ℕ → Float
to_ms ns = mul binary64 (as_secs_f64 ns) thousand64

abbrev pub from_ms : Float → ℕ
from_ms x = from_secs_f64 (div binary64 x thousand64)

-- (1 - w) * x + w * y
abbrev pub weighted : Float → Float → Float → Float
weighted w x y = add binary64 (mul binary64 (sub binary64 one64 w) x) (mul binary64 w y)

abbrev pub distance : Float → Float → Float
distance x y = absolute (sub binary64 x y)

abbrev pub larger : Float → Float → Float
larger x y = cond (lt x y) y x

-- SRTT + max (G, K * RTTVAR), in ms, and times the multiplier: the RTO before its limits
abbrev pub rto_ms : Float → ℕ → Float → Float → Float
rto_ms k g srtt rttvar = add binary64 srtt (larger (mul binary64 k rttvar) (to_ms g))

abbrev pub unlimited_ms : Float → Float → ℕ → Float → Float → Float
unlimited_ms k multiplier g srtt rttvar = mul binary64 (rto_ms k g srtt rttvar) multiplier

abbrev pub unlimited_rto : Float → Float → ℕ → Float → Float → ℕ
unlimited_rto k multiplier g srtt rttvar = from_ms (unlimited_ms k multiplier g srtt rttvar)

-- (2.3): RTTVAR with the old SRTT, and SRTT
abbrev pub next_rttvar_ms : Float → ℕ → ℕ → ℕ → Float
next_rttvar_ms beta rttvar srtt sample = weighted beta (to_ms rttvar) (distance (to_ms srtt) (to_ms sample))

abbrev pub next_srtt_ms : Float → ℕ → ℕ → Float
next_srtt_ms alpha srtt sample = weighted alpha (to_ms srtt) (to_ms sample)

-- (2.2): RTTVAR is half of the first sample
abbrev pub first_rttvar_ms : ℕ → Float
first_rttvar_ms sample = div binary64 (to_ms sample) two64

abbrev pub estimate : ℕ → ℕ → ℕ → Estimate
estimate srtt rttvar rto = record { srtt = srtt; rttvar = rttvar; rto = rto }

-- SRTT and RTTVAR to the nearest nanosecond, and the RTO before its limits, from milliseconds
abbrev pub estimate_of : Float → Float → ℕ → Float → Float → Estimate
estimate_of k multiplier g srtt rttvar =
    estimate (from_ms srtt) (from_ms rttvar) (unlimited_rto k multiplier g srtt rttvar)

unfoldable pub first_estimate : Float → Float → ℕ → ℕ → Estimate
first_estimate k multiplier g sample = estimate_of k multiplier g (to_ms sample) (first_rttvar_ms sample)

unfoldable pub next_estimate : Float → Float → Float → Float → ℕ → ℕ → ℕ → ℕ → Estimate
next_estimate alpha beta k multiplier g srtt rttvar sample =
    estimate_of k multiplier g (next_srtt_ms alpha srtt sample) (next_rttvar_ms beta rttvar srtt sample)
