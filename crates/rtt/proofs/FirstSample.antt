-- RFC 6298 (2.2) in nanoseconds, of a sample of at most a day and a second: SRTT is the sample itself; RTTVAR is the half of an even sample,
-- and either nanosecond beside the half of an odd one.
use mathlib.Core.Path.{◌≡◌, refl}
use Prim.Native.Nat.{ℕ, ◌+◌, ◌*◌, ◌^◌, ◌≤◌}
use native.Mathlib.Nat.{le_antisymm}
use native.Mathlib.Omega.{arith}
use lib.Dec.{lit≤, lit<}
use Rattle.bounds.specs.Bounds.{max_estimate}
use Rattle.rtt.specs.Rtt.{two64, to_ms, from_ms, first_rttvar_ms}
use Rattle.rtt.proofs.Near.{Near, near_ms, near_div, near_nanos, slack_ms}

-- what is within nothing of n is n
pub within_none : (c n : ℕ) → (1 * c ≤ n + 0) × (n ≤ 1 * c + 0) → c ≡ n
within_none c n h = le_antisymm (up c n h.0) (dn c n h.1)
  where
    up : (c n : ℕ) → 1 * c ≤ n + 0 → c ≤ n
    up c n h = omega arith

    dn : (c n : ℕ) → n ≤ 1 * c + 0 → n ≤ c
    dn c n h = omega arith

pub same_sample : (ns : ℕ) → ns ≤ max_estimate → from_ms (to_ms ns) ≡ ns
same_sample ns H = within_none (from_ms (to_ms ns)) ns (near_nanos (to_ms ns) 1 ns 0 86402000 slack_ms (lit≤ tt) (lit< tt) (near_ms ns H))

-- ---- half of the sample, in ms
abbrev pub slack_half : ℕ
slack_half = slack_ms + (86402000 * 2 ^ 1074 + 2 * 2 ^ 52) * 1000000

pub near_half : (ns : ℕ) → ns ≤ max_estimate → Near (first_rttvar_ms ns) 2000000 ns 86402000 slack_half
near_half ns H = near_div (to_ms ns) two64 2 1000000 ns 86402000 slack_ms refl (lit< tt) (lit≤ tt) (near_ms ns H)

pub half_sample : (ns : ℕ) → ns ≤ max_estimate → (ns ≤ 2 * from_ms (first_rttvar_ms ns) + 1) × (2 * from_ms (first_rttvar_ms ns) ≤ ns + 1)
half_sample ns H = let h = near_nanos (first_rttvar_ms ns) 2 ns 1 86402000 slack_half (lit≤ tt) (lit< tt) (near_half ns H) in (h.1, h.0)
