-- RFC 6298, section 2, over exact numbers: nothing is rounded. Times are in nanoseconds.
use Rattle.std.specs.Prelude.{ℕ, ◌+◌, ◌-◌, ◌*◌, ◌≤◌, max}
use Rattle.rtt.specs.declared.Estimate.{Estimate}

-- ---- fractions
pub record Fraction : Type 0 where
  pub numerator : ℕ
  pub denominator : ℕ

abbrev pub fraction : ℕ → ℕ → Fraction
fraction a b = record { numerator = a; denominator = b }

abbrev pub whole : ℕ → Fraction
whole n = fraction n 1

abbrev pub plus : Fraction → Fraction → Fraction
plus x y =
    fraction (x.numerator * y.denominator + y.numerator * x.denominator) (x.denominator * y.denominator)

abbrev pub times : Fraction → Fraction → Fraction
times x y = fraction (x.numerator * y.numerator) (x.denominator * y.denominator)

-- 1 - x, of an x that is at most 1
abbrev pub one_minus : Fraction → Fraction
one_minus x = fraction (x.denominator - x.numerator) x.denominator

-- |x - y|: of the two differences of natural numbers one is 0
abbrev pub distance : Fraction → Fraction → Fraction
distance x y =
    let a = x.numerator * y.denominator in
    let b = y.numerator * x.denominator in
    fraction (a - b + (b - a)) (x.denominator * y.denominator)

abbrev pub larger : Fraction → Fraction → Fraction
larger x y =
    fraction (max (x.numerator * y.denominator) (y.numerator * x.denominator)) (x.denominator * y.denominator)

-- ---- the section's constants, which (2.2) and (2.3) name
abbrev pub alpha : Fraction
alpha = fraction 1 8

abbrev pub beta : Fraction
beta = fraction 1 4

abbrev pub K : Fraction
K = whole 4

-- ---- (2.1): before any sample, 1 s
abbrev pub initial_rto : Fraction
initial_rto = whole 1000000000

-- ---- the RTO of (2.2) and (2.3), G being the clock's granularity
abbrev pub rto_of : Fraction → Fraction → Fraction → Fraction
rto_of G SRTT RTTVAR = plus SRTT (larger G (times K RTTVAR))

-- SRTT, RTTVAR and the RTO before the limits of (2.4) and (2.5)
pub record Estimates : Type 0 where
  pub srtt : Fraction
  pub rttvar : Fraction
  pub rto : Fraction

abbrev pub estimates : Fraction → Fraction → Fraction → Estimates
estimates s v r = record { srtt = s; rttvar = v; rto = r }

-- ---- (2.2): the first sample R
abbrev pub first_srtt : Fraction → Fraction
first_srtt R = R

abbrev pub first_rttvar : Fraction → Fraction
first_rttvar R = times (fraction 1 2) R

abbrev pub first_rto : Fraction → Fraction → Fraction
first_rto G R = rto_of G (first_srtt R) (first_rttvar R)

abbrev pub first : Fraction → Fraction → Estimates
first G R = estimates (first_srtt R) (first_rttvar R) (first_rto G R)

-- ---- (2.3): a later sample R'. RTTVAR's update takes the SRTT from before this sample.
abbrev pub next_rttvar : Fraction → Fraction → Fraction → Fraction
next_rttvar SRTT RTTVAR R' = plus (times (one_minus beta) RTTVAR) (times beta (distance SRTT R'))

abbrev pub next_srtt : Fraction → Fraction → Fraction
next_srtt SRTT R' = plus (times (one_minus alpha) SRTT) (times alpha R')

-- from both updated values
abbrev pub next_rto : Fraction → Fraction → Fraction → Fraction → Fraction
next_rto G SRTT RTTVAR R' = rto_of G (next_srtt SRTT R') (next_rttvar SRTT RTTVAR R')

abbrev pub next : Fraction → Fraction → Fraction → Fraction → Estimates
next G SRTT RTTVAR R' =
    estimates (next_srtt SRTT R') (next_rttvar SRTT RTTVAR R') (next_rto G SRTT RTTVAR R')

-- ---- n nanoseconds are at most d away from x
pub record Within (d : Fraction) (n : ℕ) (x : Fraction) : Type 0 where
  pub notAbove :
      n * x.denominator * d.denominator ≤ x.numerator * d.denominator + d.numerator * x.denominator
  pub notBelow :
      x.numerator * d.denominator ≤ n * x.denominator * d.denominator + d.numerator * x.denominator

-- and so of each of an update's three values
pub record AllWithin (d : Estimates) (e : Estimate) (x : Estimates) : Type 0 where
  pub srtt : Within d.srtt e.srtt x.srtt
  pub rttvar : Within d.rttvar e.rttvar x.rttvar
  pub rto : Within d.rto e.rto x.rto
