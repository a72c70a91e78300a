use mathlib.Core.Path.{sym, ap, ◌∙◌, subst}
use lib.Dec.{T}
use lib.Ieee.{Float, binary64, mul, div, of_bits}
use denote.Floats.{passes}
use native.Mathlib.Nat.{le_trans}
use lib.Dec.{lit≤}
use Rattle.duration.specs.Duration.{secs_in_bounds}
use Rattle.rtt.specs.Rtt.{thousand64, two64, to_ms, rto_ms, first_rttvar_ms, estimate_of, first_estimate}
use Rattle.rtt.proofs.Range.{Fits, first_fits}
use Rattle.rtt.proofs.first_estimate_unchecked.Goals as goal
use Rattle.rtt.proofs.first_estimate_unchecked.Goals.{Start}

known : (s : goal.Start) → Fits s.args.k s.args.multiplier s.args.granularity (to_ms s.args.sample) (first_rttvar_ms s.args.sample)
known s = first_fits s.args.k s.args.multiplier s.args.granularity (passes _ s.well_formed.0.1) (passes _ s.well_formed.1.0.1) s.requires.0 s.requires.1 s.requires.2 s.args.sample (le_trans s.requires.3 (lit≤ tt))

pub estimate_from-requires : goal.estimate_from-requires
unfolding of_bits
estimate_from-requires c = let f = known (goal.at.estimate_from-requires c).Start in
    subst (λ (z : Float). T (secs_in_bounds (div binary64 z thousand64)) × T (secs_in_bounds (div binary64 (div binary64 z two64) thousand64)) × T (secs_in_bounds (div binary64 (mul binary64 (rto_ms c.args.k c.args.granularity z (div binary64 z two64)) c.args.multiplier) thousand64)))
    (sym c.to_ms-sample_ms.ensures) (f.srtt, f.rttvar, f.rto)

pub returns : goal.returns
unfolding of_bits first_estimate
returns c = c.estimate_from.ensures ∙ ap (λ (z : Float). estimate_of c.args.k c.args.multiplier c.args.granularity z (div binary64 z two64)) c.to_ms-sample_ms.ensures
