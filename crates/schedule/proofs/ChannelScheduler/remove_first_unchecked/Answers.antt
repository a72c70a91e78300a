use mathlib.Core.Path.{◌≡◌, sym, ◌∙◌, ap, subst}
use mathlib.Core.Bool.{false}
use mathlib.Core.List.{List, ◌∷◌, ◌++◌}
use Prim.Native.Nat.{ℕ, ◌+◌, ◌-◌, ◌*◌, ◌≤◌, ◌<◌}
use native.Mathlib.Omega.{arith}
use lib.ListN.{length, drop, replicate}
use Rattle.schedule.specs.Record.{vacant}
use Rattle.schedule.specs.State.{Schedule, schedule, waiting_records, state_broken, ZerosFrom, Cleared}
use Rattle.schedule.specs.Schedule.{scheduler, first_record, placed, without_first}
use Rattle.schedule.specs.Structs.{scheduled_of}
use Rattle.schedule.specs.declared.Scheduled.{Scheduled}
use Rattle.schedule.proofs.Memory.{within, first_fine, first_inside}
use Rattle.schedule.proofs.Clearing.{first_zeros}
use Rattle.schedule.proofs.ChannelScheduler.remove_first_unchecked.Goals as goal

-- with the first record unpacked

module _ (m : Schedule) {r : Scheduled} (e : r ≡ scheduled_of (first_record m.records)) where
  can-clear : state_broken m ≡ false → 0 < m.scheduler.count → Cleared m → (r.place * 1410 + 1410 ≤ length m.places) × (r.length ≤ 1410) × ZerosFrom r.length m.places r.place
  can-clear sound some cleared =
      subst (λ (x : Scheduled). (x.place * 1410 + 1410 ≤ length m.places) × (x.length ≤ 1410) × ZerosFrom x.length m.places x.place) (sym e)
      (first_inside m sound some, (first_fine m sound some).short, first_zeros m sound some cleared)

  removes : {rs : List (List ℕ)} {ps : List ℕ}
      → rs ≡ drop 1 (waiting_records m) ++ vacant ∷ drop m.scheduler.count m.records
      → ps ≡ placed m.places r.place (replicate 1410 0)
      → schedule rs ps (scheduler (m.scheduler.count - 1) m.scheduler.next_order) ≡ without_first m
  unfolding without_first
  removes {rs} {ps} p q =
      let s = scheduler (m.scheduler.count - 1) m.scheduler.next_order in
      ap (λ (x : List (List ℕ)). schedule x ps s) p
      ∙ ap (λ (x : List ℕ). schedule (drop 1 (waiting_records m) ++ vacant ∷ drop m.scheduler.count m.records) x s) (q ∙ ap (λ (x : Scheduled). placed m.places x.place (replicate 1410 0)) e)

pub slice_copy_out-unpacked : goal.slice_copy_out-unpacked
slice_copy_out-unpacked c = omega (arith, within (schedule c.args.records.now c.args.places.now c.args.self) c.requires.self_value.0, c.requires.self_value.1)

pub remove_first-requires : goal.remove_first-requires
remove_first-requires c = (c.requires.self_value.1, within (schedule c.args.records.now c.args.places.now c.args.self) c.requires.self_value.0)

pub clear_place-requires : goal.clear_place-requires
clear_place-requires c = can-clear (schedule c.args.records.now c.args.places.now c.args.self) c.unpacked-first.ensures c.requires.self_value.0 c.requires.self_value.1 c.requires.cleared

pub returns : goal.returns
returns c = removes (schedule c.args.records.now c.args.places.now c.args.self) c.unpacked-first.ensures c.remove_first.ensures c.clear_place.ensures
