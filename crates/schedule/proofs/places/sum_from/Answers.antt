use Rattle.std.specs.Prelude.{None}
use native.Mathlib.Omega.{arith}
use mathlib.Core.Path.{◌≡◌, refl, ◌∙◌, ap}
use Prim.Native.Nat.{ℕ, ◌≤◌, ◌<◌, ◌*◌, ◌+◌, ◌-◌}
use native.Mathlib.Nat.{add-zero}
use mathlib.Core.List.{List, []}
use lib.ListN.{length, take, drop, get_or, length-drop}
use lib.Seq.{length-take-le, get_or-take, get_or-drop}
use Rattle.schedule.specs.Record.{place_of}
use Rattle.schedule.specs.Internal.{sum_from}
use Rattle.schedule.proofs.Lists.{rest_none}
use Rattle.schedule.proofs.FreePlaces.{sum_none, sum_past, sum_next}
use Rattle.schedule.proofs.places.sum_from.Goals as goal

-- a total of i places up to 65,535, and one more
small : (total i count p : ℕ) → total ≤ i * 65535 → count ≤ 65535 → p ≤ count → total + p ≤ (i + 1) * 65535
small total i count p h k l = omega arith

-- one turn: the j-th record from `from` on
module _ (s : List (List ℕ)) (from count : ℕ) (low : from ≤ count) (high : count ≤ length s) (total j : ℕ) where
  part_length : length (take (count - from) (drop from s)) ≡ count - from
  part_length = length-take-le (count - from) (drop from s) (rw length-drop (omega arith))

  module _ (h : j < length (take (count - from) (drop from s))) where
    here : from + j < count
    here = let e = part_length in omega arith

    place_is : place_of (get_or (take (count - from) (drop from s)) j []) ≡ place_of (get_or s (from + j) [])
    place_is = let e = part_length in ap (λ (r : List ℕ). place_of r) (get_or-take (count - from) (drop from s) j [] (omega arith) ∙ get_or-drop from s j [])

    past : count < place_of (get_or (take (count - from) (drop from s)) j []) → None ≡ sum_from count total (drop (from + j) (take count s))
    past l = sum_past s count high total (from + j) here place_is l

    next : place_of (get_or (take (count - from) (drop from s)) j []) ≤ count → sum_from count (total + place_of (get_or (take (count - from) (drop from s)) j [])) (drop (from + (j + 1)) (take count s)) ≡ sum_from count total (drop (from + j) (take count s))
    next l =
        let step : from + (j + 1) ≡ from + j + 1 = omega arith in
        rw step (sum_next s count high total (from + j) here place_is l)

  ends : length (take (count - from) (drop from s)) ≤ j → count ≤ from + j
  ends h = let e = part_length in omega arith

pub loop-r-init : goal.loop-r-init
loop-r-init c = rw add-zero (c.requires.3, refl)

pub overflow_add-total : goal.overflow_add-total
overflow_add-total c = let a = c.args in
    let h = here a.s.now a.from a.count c.requires.0 c.requires.1 c.loop-r.total c.loop-r.r-index c.loop-r-test.true in
    omega arith

pub returns-then-last-p : goal.returns-then-last-p
returns-then-last-p c = let a = c.args in
    past a.s.now a.from a.count c.requires.0 c.requires.1 c.loop-r.total c.loop-r.r-index c.loop-r-test.true c.if-last-p.true ∙ c.loop-r.invariant.1

pub loop-r-preserved : goal.loop-r-preserved
loop-r-preserved c = let a = c.args in
    let step = small c.loop-r.total (a.from + c.loop-r.r-index) a.count _ c.loop-r.invariant.0 c.requires.2 c.if-last-p.false in
    (omega arith, next a.s.now a.from a.count c.requires.0 c.requires.1 c.loop-r.total c.loop-r.r-index c.loop-r-test.true c.if-last-p.false ∙ c.loop-r.invariant.1)

pub returns : goal.returns
returns c = let a = c.args in
    let e = ends a.s.now a.from a.count c.requires.0 c.requires.1 c.loop-r.total c.loop-r.r-index c.loop-r-test.false in
    sum_none a.count c.loop-r.total (rest_none a.count (a.from + c.loop-r.r-index) a.s.now e c.requires.1) ∙ c.loop-r.invariant.1
