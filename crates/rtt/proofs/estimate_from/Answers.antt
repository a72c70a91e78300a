use mathlib.Core.Path.{sym, ap, ap₂, ◌∙◌, subst}
use Prim.Native.Nat.{ℕ}
use lib.Dec.{T}
use lib.Ieee.{Float, binary64, mul, div}
use Rattle.duration.specs.Duration.{secs_in_bounds}
use Rattle.rtt.specs.declared.Estimate.{Estimate}
use Rattle.rtt.specs.Rtt.{thousand64, from_ms, estimate}
use Rattle.rtt.proofs.estimate_from.Goals as goal

pub from_ms-rto-requires : goal.from_ms-rto-requires
from_ms-rto-requires c = subst (λ (z : Float). T (secs_in_bounds (div binary64 (mul binary64 z c.args.multiplier) thousand64))) (sym c.rto_ms.ensures) c.requires.2

pub returns : goal.returns
returns c = ap₂ (λ (e : Estimate) (r : ℕ). estimate e.srtt e.rttvar r) (ap₂ (λ (x y : ℕ). estimate x y c.from_ms-rto.result) c.from_ms.ensures c.from_ms-2.ensures)
    (c.from_ms-rto.ensures ∙ ap (λ (z : Float). from_ms (mul binary64 z c.args.multiplier)) c.rto_ms.ensures)
