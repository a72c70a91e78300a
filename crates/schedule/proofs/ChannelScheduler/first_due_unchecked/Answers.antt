use Rattle.std.specs.Prelude.{None, Some}
use mathlib.Core.Path.{◌≡◌, ◌∙◌, ap, subst}
use mathlib.Core.List.{List}
use Prim.Native.Nat.{ℕ, ◌≤◌, ◌<◌}
use native.Mathlib.Omega.{arith}
use borrow.Author.Tests.{lt-ltb, le-ltb, le-leb, lt-leb}
use Rattle.schedule.specs.Record.{time_of}
use Rattle.schedule.specs.Schedule.{first_record, first_due}
use Rattle.schedule.specs.Structs.{scheduled_of}
use Rattle.schedule.specs.declared.Scheduled.{Scheduled}
use Rattle.schedule.proofs.ChannelScheduler.first_due_unchecked.Goals as goal

-- with the first record unpacked

module _ (count : ℕ) (rs : List (List ℕ)) (now : ℕ) (some : count ≡ 0 → ⊥) {r : Scheduled} (e : r ≡ scheduled_of (first_record rs)) where
  not_due : now < r.time → None ≡ first_due count rs now
  unfolding first_due
  not_due l = simp (lt-ltb 0 count (omega arith), lt-leb (time_of (first_record rs)) now (subst (λ (s : Scheduled). now < s.time) e l))

  is_due_lem : r.time ≤ now → Some (r.place, r.length) ≡ first_due count rs now
  unfolding first_due
  is_due_lem l =
      ap (λ (s : Scheduled). Some (s.place, s.length)) e
      ∙ simp (lt-ltb 0 count (omega arith), le-leb (time_of (first_record rs)) now (subst (λ (s : Scheduled). s.time ≤ now) e l))

pub returns-then-count-eq0 : goal.returns-then-count-eq0
unfolding first_due
returns-then-count-eq0 c = simp (le-ltb 0 c.args.self.count (omega arith))

pub returns-then-now-first : goal.returns-then-now-first
returns-then-now-first c = let a = c.args in
    not_due a.self.count a.records.now a.now c.if-count-eq0.false c.unpacked-first.ensures c.if-now-first.true

pub returns : goal.returns
returns c = let a = c.args in
    is_due_lem a.self.count a.records.now a.now c.if-count-eq0.false c.unpacked-first.ensures c.if-now-first.false
