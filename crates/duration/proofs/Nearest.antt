-- What `from_secs_f64` gives, over natural numbers: num x / den x seconds are at most half a nanosecond away from it, and where they are exactly half a nanosecond away it is even.
use Rattle.std.proofs.Common.{◌≡◌, ℕ, ◌+◌, ◌*◌, ◌/◌, ◌%◌, ◌≤◌, ap, ◌∙◌, arith}
use lib.Ieee.{Float}
use lib.Ieee.Positive.{num, den, den_pos}
use Rattle.float.proofs.Error.{closest_up, closest_down}
use Rattle.float.proofs.Sticky.{closest_eq}
use Rattle.duration.specs.Duration.{from_secs_f64}

module _ (x : Float) where
  pub not_above : from_secs_f64 x * den x * 2 ≤ num x * 1000000000 * 2 + den x
  not_above = closest_up (num x * 1000000000) (den x)

  pub not_below : num x * 1000000000 * 2 ≤ from_secs_f64 x * den x * 2 + den x
  not_below = closest_down (num x * 1000000000) (den x) (den_pos x)

  pub tie_even : num x * 1000000000 % den x * 2 ≡ den x → from_secs_f64 x % 2 ≡ 0
  tie_even h = ap (λ (n : ℕ). n % 2) (closest_eq (num x * 1000000000) (den x) h) ∙ even (num x * 1000000000 / den x)
    where
      even : (q : ℕ) → (q + q % 2) % 2 ≡ 0
      even q = omega arith
