use mathlib.Core.Path.{◌≡◌, sym, ap₂, ◌∙◌, subst}
use lib.Dec.{T}
use lib.Ieee.{Float, binary64, mul, div}
use denote.Floats.{passes}
use native.Mathlib.Nat.{le_trans}
use lib.Dec.{lit≤}
use Rattle.float.specs.Sign.{unsigned}
use Rattle.duration.specs.Duration.{secs_in_bounds}
use Rattle.rtt.specs.Rtt.{thousand64, weighted, distance, rto_ms, next_srtt_ms, next_rttvar_ms, estimate_of, next_estimate}
use Rattle.rtt.proofs.Near.{ms_unsigned}
use Rattle.rtt.proofs.Range.{next_fits}
use Rattle.rtt.proofs.next_estimate_unchecked.Goals as goal
use Rattle.rtt.proofs.next_estimate_unchecked.Goals.{After-weighted-new_srtt_ms}

-- what the callees gave, put together

rttvar-value : (c : goal.After-weighted-new_srtt_ms) → c.weighted-new_rttvar_ms.result ≡ next_rttvar_ms c.args.beta c.args.rttvar c.args.srtt c.args.sample
rttvar-value c =
    c.weighted-new_rttvar_ms.ensures ∙ ap₂ (weighted c.args.beta) c.to_ms.ensures (c.distance.ensures ∙ ap₂ distance c.to_ms-srtt_ms.ensures c.to_ms-sample_ms.ensures)

srtt-value : (c : goal.After-weighted-new_srtt_ms) → c.weighted-new_srtt_ms.result ≡ next_srtt_ms c.args.alpha c.args.srtt c.args.sample
srtt-value c = c.weighted-new_srtt_ms.ensures ∙ ap₂ (weighted c.args.alpha) c.to_ms-srtt_ms.ensures c.to_ms-sample_ms.ensures

pub distance-requires : goal.distance-requires
distance-requires c = (
  subst (λ (x : Float). T (unsigned x)) (sym c.to_ms-srtt_ms.ensures) (ms_unsigned c.args.srtt c.requires.5),
  subst (λ (x : Float). T (unsigned x)) (sym c.to_ms-sample_ms.ensures) (ms_unsigned c.args.sample (le_trans c.requires.7 (lit≤ tt))),
)

pub estimate_from-requires : goal.estimate_from-requires
estimate_from-requires c = let f = next_fits c.args.k c.args.multiplier c.args.granularity (passes _ c.well_formed.1.1.0.1) (passes _ c.well_formed.1.1.1.0.1) c.requires.2 c.requires.3 c.requires.4 c.args.alpha c.args.beta (passes _ c.well_formed.0.1) (passes _ c.well_formed.1.0.1) c.requires.0 c.requires.1 c.args.srtt c.args.rttvar c.args.sample c.requires.5 c.requires.6 (le_trans c.requires.7 (lit≤ tt)) in
    let e = sym (srtt-value (goal.at.estimate_from-requires c).After-weighted-new_srtt_ms) in
    let d = sym (rttvar-value (goal.at.estimate_from-requires c).After-weighted-new_srtt_ms) in (
      subst (λ (z : Float). T (secs_in_bounds (div binary64 z thousand64))) e f.srtt,
      subst (λ (z : Float). T (secs_in_bounds (div binary64 z thousand64))) d f.rttvar,
      subst (λ (z : Float). T (secs_in_bounds (div binary64 (mul binary64 (rto_ms c.args.k c.args.granularity z c.weighted-new_rttvar_ms.result) c.args.multiplier) thousand64))) e
          (subst (λ (z : Float). T (secs_in_bounds (div binary64 (mul binary64 (rto_ms c.args.k c.args.granularity (next_srtt_ms c.args.alpha c.args.srtt c.args.sample) z) c.args.multiplier) thousand64))) d f.rto),
    )

pub returns : goal.returns
unfolding next_estimate
returns c = c.estimate_from.ensures ∙ ap₂ (λ (x y : Float). estimate_of c.args.k c.args.multiplier c.args.granularity x y) (srtt-value (goal.at.returns c).After-weighted-new_srtt_ms) (rttvar-value (goal.at.returns c).After-weighted-new_srtt_ms)
