use mathlib.Core.Path.{◌≡◌}
use mathlib.Core.Bool.{true, false}
use Prim.Native.Nat.{◌≤◌, ◌<◌}
use lib.Dec.{ltb}
use borrow.Author.Tests.{le-ltb, lt-ltb}
use Rattle.schedule.specs.declared.Scheduled.{Scheduled}
use Rattle.schedule.proofs.Structs.{leaves}
use Rattle.schedule.proofs.Scheduled.leaves_after.Goals as goal

first : (p r : Scheduled) → p.time < r.time → false ≡ leaves p r
first p r a = simp (lt-ltb _ _ a)

second : (p r : Scheduled) → r.time ≤ p.time → r.time < p.time → true ≡ leaves p r
second p r a b = simp (le-ltb _ _ a, lt-ltb _ _ b)

third : (p r : Scheduled) → r.time ≤ p.time → p.time ≤ r.time → ltb r.order p.order ≡ leaves p r
third p r a b = simp (le-ltb _ _ a, le-ltb _ _ b)

pub returns-then-self-r : goal.returns-then-self-r
returns-then-self-r c = let a = c.args in
    first a.self a.r c.if-self-r.true

pub returns-then-r-self : goal.returns-then-r-self
returns-then-r-self c = let a = c.args in
    second a.self a.r c.if-self-r.false c.if-r-self.true

pub returns : goal.returns
returns c = let a = c.args in
    third a.self a.r c.if-self-r.false c.if-r-self.false
