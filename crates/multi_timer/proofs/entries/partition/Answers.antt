use Rattle.std.proofs.Common.{ℕ, ◌+◌, ◌≤◌, subst, le_antisymm, arith, rules}
use Rattle.multi_timer.specs.Internal.{Partitioned}
use Rattle.multi_timer.proofs.Parting.{parted_none, parted_as, parted_due, parted_left, turn_sizes, out_room}
use Rattle.multi_timer.proofs.entries.partition.Goals as goal
use Rattle.multi_timer.proofs.entries.partition.Goals.{At-loop-i, then-time-deadline, else-time-deadline}

-- how many entries are left at each turn, at most
left : (c : goal.At-loop-i) → c.loop-i.left ≤ c.loop-i.i
left c = (turn_sizes c.args.count c.loop-i.i c.args.time c.args.keys.now c.args.deadlines.now c.args.out.now c.loop-i.left c.loop-i.keys c.loop-i.deadlines c.loop-i.out c.requires.0 c.requires.1 c.requires.2 c.loop-i.invariant.1 c.loop-i.invariant.0).3

pub loop-i-init : goal.loop-i-init
loop-i-init c = (search rules, parted_none _ _ _ _)

pub overflow_sub-out : goal.overflow_sub-out
overflow_sub-out c = left (goal.at.overflow_sub-out c).At-loop-i

pub bounds-out-i : goal.bounds-out-i
bounds-out-i c =
    let r = out_room c.args.count c.loop-i.i c.args.time c.args.keys.now c.args.deadlines.now c.args.out.now c.loop-i.left c.loop-i.keys c.loop-i.deadlines c.loop-i.out c.requires.0 c.requires.1 c.requires.2 c.loop-i.invariant.1 c.loop-i-test.true c.if-time-deadline.true in
    omega (arith, r)

pub bounds-keys-left : goal.bounds-keys-left
bounds-keys-left c = omega (arith, left (goal.at.bounds-keys-left c).At-loop-i)

pub offset_bounds-keys-left : goal.offset_bounds-keys-left
offset_bounds-keys-left c = omega (arith, left (goal.at.offset_bounds-keys-left c).At-loop-i)

pub bounds-deadlines-left : goal.bounds-deadlines-left
bounds-deadlines-left c = omega (arith, left (goal.at.bounds-deadlines-left c).At-loop-i)

pub offset_bounds-deadlines-left : goal.offset_bounds-deadlines-left
offset_bounds-deadlines-left c = omega (arith, left (goal.at.offset_bounds-deadlines-left c).At-loop-i)

pub overflow_add-left : goal.overflow_add-left
overflow_add-left c = omega (arith, left (goal.at.overflow_add-left c).At-loop-i)

pub loop-i-preserved : goal.loop-i-preserved
loop-i-preserved c = (
  search rules,
  elim c.if-time-deadline.branch [
    | then-time-deadline w ↦ parted_as (c.loop-i.i + 1) c.args.time c.args.keys.now c.args.deadlines.now c.args.out.now _ _ _ _ _ _ _ _ w.keys-is w.deadlines-is w.out-is w.left-is (parted_due c.args.count c.loop-i.i c.args.time c.args.keys.now c.args.deadlines.now c.args.out.now c.loop-i.left c.loop-i.keys c.loop-i.deadlines c.loop-i.out c.requires.0 c.requires.1 c.requires.2 c.loop-i.invariant.1 c.loop-i-test.true w.if-time-deadline.true)
    | else-time-deadline w ↦ parted_as (c.loop-i.i + 1) c.args.time c.args.keys.now c.args.deadlines.now c.args.out.now _ _ _ _ _ _ _ _ w.keys-is w.deadlines-is w.out-is w.left-is (parted_left c.args.count c.loop-i.i c.args.time c.args.keys.now c.args.deadlines.now c.args.out.now c.loop-i.left c.loop-i.keys c.loop-i.deadlines c.loop-i.out c.requires.0 c.requires.1 c.requires.2 c.loop-i.invariant.1 c.loop-i-test.true w.if-time-deadline.false)
  ],
)

pub returns : goal.returns
returns c = subst (λ (n : ℕ). Partitioned n c.args.time c.args.keys.now c.args.deadlines.now c.args.out.now c.loop-i.left c.loop-i.keys c.loop-i.deadlines c.loop-i.out) (le_antisymm c.loop-i.invariant.0 c.loop-i-test.false) c.loop-i.invariant.1
