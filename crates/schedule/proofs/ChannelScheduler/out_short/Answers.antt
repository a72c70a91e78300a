use mathlib.Core.Path.{◌≡◌, ◌∙◌, ap, subst}
use mathlib.Core.Bool.{false}
use mathlib.Core.List.{List}
use Prim.Native.Nat.{ℕ, ◌≤◌, ◌<◌}
use native.Mathlib.Omega.{arith}
use lib.Dec.{ltb}
use borrow.Author.Tests.{lt-ltb, le-ltb, le-leb, lt-leb}
use Rattle.schedule.specs.Record.{time_of}
use Rattle.schedule.specs.Schedule.{first_record, out_short}
use Rattle.schedule.specs.Structs.{scheduled_of}
use Rattle.schedule.specs.declared.Scheduled.{Scheduled}
use Rattle.schedule.proofs.Calls.{positive}
use Rattle.schedule.proofs.ChannelScheduler.out_short.Goals as goal

module _ (count : ℕ) (rs : List (List ℕ)) (now size : ℕ) {r : Scheduled} (some : count ≡ 0 → ⊥) (first : r ≡ scheduled_of (first_record rs)) where
  not_due : now < r.time → false ≡ out_short count rs now size
  not_due l =
      let k : now < time_of (first_record rs) = subst (λ (s : Scheduled). now < s.time) first l in
      simp (lt-ltb 0 count (positive count some), lt-leb _ now k)

  due-too-long : r.time ≤ now → ltb size r.length ≡ out_short count rs now size
  due-too-long l =
      let k : time_of (first_record rs) ≤ now = subst (λ (s : Scheduled). s.time ≤ now) first l in
      ap (λ (s : Scheduled). ltb size s.length) first ∙ simp (lt-ltb 0 count (positive count some), le-leb _ now k)

pub returns-then-count-eq0 : goal.returns-then-count-eq0
returns-then-count-eq0 c = simp (le-ltb 0 c.args.self.count (omega arith))

pub returns-then-now-first : goal.returns-then-now-first
returns-then-now-first c = let a = c.args in
    not_due a.self.count a.records.now a.now a.size c.if-count-eq0.false c.unpacked-first.ensures c.if-now-first.true

pub returns : goal.returns
returns c = let a = c.args in
    due-too-long a.self.count a.records.now a.now a.size c.if-count-eq0.false c.unpacked-first.ensures c.if-now-first.false
