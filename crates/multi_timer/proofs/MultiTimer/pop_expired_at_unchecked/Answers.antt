use Rattle.std.proofs.Common.{ℕ, ◌≤◌, [], sym, subst, le_trans, le_of_eq}
use Rattle.multi_timer.proofs.Changes.{popped_all, count_fits, count_fits_deadlines, due_used, left_fits, parted_keys, parted_deadlines}
use Rattle.multi_timer.proofs.MultiTimer.pop_expired_at_unchecked.Goals as goal

pub partition-left-requires : goal.partition-left-requires
partition-left-requires c = (count_fits c.args.self c.args.keys.now c.args.deadlines.now c.requires.0, count_fits_deadlines c.args.self c.args.keys.now c.args.deadlines.now c.requires.0, le_trans (le_of_eq (sym (due_used c.args.self c.args.keys.now c.args.deadlines.now c.requires.0 c.args.time))) c.requires.1)

pub clear_keys_in-requires : goal.clear_keys_in-requires
clear_keys_in-requires c = let p = c.partition-left in (
  left_fits c.args.self c.args.keys.now c.args.deadlines.now c.requires.0 c.args.time p.result c.args.out.now _ _ _ [] [] p.ensures,
  subst (λ (m : ℕ). c.args.self.count ≤ m) (sym (parted_keys c.args.self c.args.keys.now c.args.deadlines.now c.requires.0 c.args.time p.result c.args.out.now _ _ _ [] [] p.ensures)) (count_fits c.args.self c.args.keys.now c.args.deadlines.now c.requires.0),
)

pub clear_deadlines_in-requires : goal.clear_deadlines_in-requires
clear_deadlines_in-requires c = let p = c.partition-left in (
  left_fits c.args.self c.args.keys.now c.args.deadlines.now c.requires.0 c.args.time p.result c.args.out.now _ _ _ [] [] p.ensures,
  subst (λ (m : ℕ). c.args.self.count ≤ m) (sym (parted_deadlines c.args.self c.args.keys.now c.args.deadlines.now c.requires.0 c.args.time p.result c.args.out.now _ _ _ [] [] p.ensures)) (count_fits_deadlines c.args.self c.args.keys.now c.args.deadlines.now c.requires.0),
)

pub returns : goal.returns
returns c = let p = c.partition-left in
    popped_all c.args.self c.args.keys.now c.args.deadlines.now c.requires.0 c.args.time p.result c.args.out.now _ _ _ _ _ p.ensures c.clear_keys_in.ensures c.clear_deadlines_in.ensures
