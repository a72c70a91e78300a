use Rattle.std.specs.Prelude.{None, Ok, Some}
use mathlib.Core.Path.{◌≡◌, ◌∙◌, ap, subst}
use mathlib.Core.List.{List, ◌∷◌, ◌++◌}
use Prim.Native.Nat.{ℕ, ◌+◌, ◌-◌, ◌*◌, ◌≤◌, ◌<◌}
use native.Mathlib.Omega.{arith}
use lib.ListN.{length, take, drop, replicate}
use Rattle.schedule.specs.Record.{vacant}
use Rattle.schedule.specs.State.{Schedule, schedule, waiting_records}
use Rattle.schedule.specs.Schedule.{CanPop, scheduler, first_record, placed, pop_exit, on_pop, pop_unchecked}
use Rattle.schedule.specs.Structs.{scheduled_of}
use Rattle.schedule.specs.declared.Scheduled.{Scheduled}
use Rattle.schedule.proofs.Memory.{within}
use Rattle.schedule.proofs.Calls.{positive, none_waits, first_not_due, can_take, taken_law}
use Rattle.schedule.proofs.ChannelScheduler.pop_ready_at_unchecked.Goals as goal

-- with the first record unpacked

module _ (m : Schedule) (now : ℕ) (out : List ℕ) (some : m.scheduler.count ≡ 0 → ⊥) {r : Scheduled} (first : r ≡ scheduled_of (first_record m.records)) where
  not_due : now < r.time → on_pop m out (Ok None) ≡ pop_unchecked m now out
  not_due l = first_not_due m now out some (subst (λ (s : Scheduled). now < s.time) first l)

  can : CanPop m now out → r.time ≤ now → (r.place * 1410 + 1410 ≤ length m.places) × (r.length ≤ 1410) × (r.length ≤ length out)
  can c l = rw first (can_take m now out c some (subst (λ (s : Scheduled). s.time ≤ now) first l))

  takes : {rs : List (List ℕ)} {ps o : List ℕ} → r.time ≤ now
      → rs ≡ drop 1 (waiting_records m) ++ vacant ∷ drop m.scheduler.count m.records
      → ps ≡ placed m.places r.place (replicate 1410 0)
      → o ≡ take r.length (drop (r.place * 1410) m.places) ++ drop r.length out
      → pop_exit rs ps o (record { scheduler = scheduler (m.scheduler.count - 1) m.scheduler.next_order; answer = Ok (Some r.length) }) ≡ pop_unchecked m now out
  takes {rs} {ps} {o} l p q k =
      ap (λ (s : Scheduled). pop_exit rs ps o (record { scheduler = scheduler (m.scheduler.count - 1) m.scheduler.next_order; answer = Ok (Some s.length) })) first
      ∙ taken_law m now out some (subst (λ (s : Scheduled). s.time ≤ now) first l) p
      (q ∙ ap (λ (s : Scheduled). placed m.places s.place (replicate 1410 0)) first)
      (k ∙ ap (λ (s : Scheduled). take s.length (drop (s.place * 1410) m.places) ++ drop s.length out) first)

pub returns-then-count-eq0 : goal.returns-then-count-eq0
returns-then-count-eq0 c = let m = schedule c.args.records.now c.args.places.now c.args.self in
    none_waits m c.args.now c.args.out.now c.if-count-eq0.true

pub slice_copy_out-unpacked : goal.slice_copy_out-unpacked
slice_copy_out-unpacked c = let m = schedule c.args.records.now c.args.places.now c.args.self in
    omega (arith, within m c.requires.sound, positive c.args.self.count c.if-count-eq0.false)

pub returns-then-now-first : goal.returns-then-now-first
returns-then-now-first c = let m = schedule c.args.records.now c.args.places.now c.args.self in
    not_due m c.args.now c.args.out.now c.if-count-eq0.false c.unpacked-first.ensures c.if-now-first.true

pub remove_first-requires : goal.remove_first-requires
remove_first-requires c = let m = schedule c.args.records.now c.args.places.now c.args.self in
    (positive c.args.self.count c.if-count-eq0.false, within m c.requires.sound)

pub take_packet-requires : goal.take_packet-requires
take_packet-requires c = let m = schedule c.args.records.now c.args.places.now c.args.self in
    can m c.args.now c.args.out.now c.if-count-eq0.false c.unpacked-first.ensures c.requires c.if-now-first.false

pub returns : goal.returns
returns c = let m = schedule c.args.records.now c.args.places.now c.args.self in
    takes m c.args.now c.args.out.now c.if-count-eq0.false c.unpacked-first.ensures c.if-now-first.false c.remove_first.ensures c.take_packet.ensures.0 c.take_packet.ensures.1
