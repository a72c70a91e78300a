use mathlib.Core.Path.{◌≡◌}
use mathlib.Core.Bool.{true, false}
use mathlib.Core.List.{List}
use Prim.Native.Nat.{ℕ, ◌≤◌, ◌<◌}
use lib.Dec.{ltb}
use lib.ListN.{get_or}
use borrow.Author.Tests.{le-ltb, lt-ltb}
use Rattle.schedule.specs.Record.{after}
use Rattle.schedule.proofs.leaves_after.Goals as goal

first : (p r : List ℕ) → get_or p 0 0 < get_or r 0 0 → false ≡ after p r
first p r a = simp (lt-ltb _ _ a)

second : (p r : List ℕ) → get_or r 0 0 ≤ get_or p 0 0 → get_or r 0 0 < get_or p 0 0 → true ≡ after p r
second p r a b = simp (le-ltb _ _ a, lt-ltb _ _ b)

third : (p r : List ℕ) → get_or r 0 0 ≤ get_or p 0 0 → get_or p 0 0 ≤ get_or r 0 0 → ltb (get_or r 1 0) (get_or p 1 0) ≡ after p r
third p r a b = simp (le-ltb _ _ a, le-ltb _ _ b)

pub returns-then-pt-rt : goal.returns-then-pt-rt
returns-then-pt-rt c = first c.args.p c.args.r c.if-pt-rt.true

pub returns-then-rt-pt : goal.returns-then-rt-pt
returns-then-rt-pt c = second c.args.p c.args.r c.if-pt-rt.false c.if-rt-pt.true

pub returns : goal.returns
returns c = third c.args.p c.args.r c.if-pt-rt.false c.if-rt-pt.false
