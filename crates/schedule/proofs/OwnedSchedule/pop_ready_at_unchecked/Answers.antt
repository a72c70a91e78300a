use mathlib.Core.Path.{subst}
use native.Mathlib.Omega.{arith}
use Prim.Native.Nat.{ℕ, ◌≤◌}
use Rattle.schedule.specs.Structs.{owned_schedule}
use Rattle.schedule.proofs.Memory.{within}
use Rattle.schedule.proofs.Calls.{positive, none_waits}
use Rattle.schedule.proofs.OwnedRecords.{owned_length, owned_rows, first_row, struct_not_due, struct_can_take, struct_takes}
use Rattle.schedule.proofs.OwnedSchedule.pop_ready_at_unchecked.Goals as goal

pub returns-then-count-eq0 : goal.returns-then-count-eq0
returns-then-count-eq0 c = none_waits (owned_schedule c.args.self c.args.places.now) c.args.now c.args.out.now c.if-count-eq0.true

pub returns-then-now-first : goal.returns-then-now-first
returns-then-now-first c = let m = owned_schedule c.args.self c.args.places.now in
    struct_not_due m c.args.now c.args.out.now c.if-count-eq0.false (first_row c.args.self.records _ (rw (owned_length c.args.self _ c.well_formed.0) (omega arith))) c.if-now-first.true

pub taken-t-requires : goal.taken-t-requires
taken-t-requires c = let m = owned_schedule c.args.self c.args.places.now in
    (positive c.args.self.scheduler.count c.if-count-eq0.false, subst (λ (n : ℕ). c.args.self.scheduler.count ≤ n) (owned_rows c.args.self _ c.well_formed.0) (within m c.requires.sound))

pub take_packet-requires : goal.take_packet-requires
take_packet-requires c = let m = owned_schedule c.args.self c.args.places.now in
    struct_can_take m c.args.now c.args.out.now c.if-count-eq0.false (first_row c.args.self.records _ (rw (owned_length c.args.self _ c.well_formed.0) (omega arith))) c.taken-t.ensures.0 c.requires c.if-now-first.false

pub returns : goal.returns
returns c = let m = owned_schedule c.args.self c.args.places.now in
    struct_takes m c.args.now c.args.out.now c.if-count-eq0.false (first_row c.args.self.records _ (rw (owned_length c.args.self _ c.well_formed.0) (omega arith))) c.taken-t.ensures.0 c.if-now-first.false c.taken-t.ensures.1 c.take_packet.ensures.0 c.take_packet.ensures.1
