use Rattle.std.proofs.Common.{ℕ, ◌<◌, ◌≤◌, length, sym, ap, ◌∙◌, subst, lt_of_lt_of_le, arith}
use Rattle.multi_timer.specs.Map.{due_at}
use Rattle.multi_timer.proofs.Verdicts.{good_of, in_order_lem}
use Rattle.multi_timer.proofs.Places.{at_bound, at_lookup, absent_lookup}
use Rattle.multi_timer.proofs.MultiTimer.is_expired_at_unchecked.Goals as goal
use Rattle.multi_timer.proofs.MultiTimer.is_expired_at_unchecked.Goals.{In-Ok, Start}

place : (c : goal.In-Ok) → c.in-Ok.i < c.args.self.count
place c = at_bound c.args.self.count c.args.keys.now c.args.deadlines.now (good_of c.args.self.count c.args.keys.now c.args.deadlines.now c.requires) c.args.key _ (sym c.in-Ok.is ∙ c.search-position.ensures)

within : (c : goal.Start) → c.args.self.count ≤ length c.args.deadlines.now
within c = let g = good_of c.args.self.count c.args.keys.now c.args.deadlines.now c.requires in subst (λ (m : ℕ). c.args.self.count ≤ m) g.same g.within

pub search-position-requires : goal.search-position-requires
search-position-requires c = in_order_lem (good_of c.args.self.count c.args.keys.now c.args.deadlines.now c.requires)

pub offset_bounds-deadlines-i : goal.offset_bounds-deadlines-i
offset_bounds-deadlines-i c = omega (arith, place (goal.at.offset_bounds-deadlines-i c).In-Ok, within (goal.at.offset_bounds-deadlines-i c).Start)

pub bounds-deadlines-i : goal.bounds-deadlines-i
bounds-deadlines-i c = lt_of_lt_of_le (place (goal.at.bounds-deadlines-i c).In-Ok) (within (goal.at.bounds-deadlines-i c).Start)

pub returns-in-Ok : goal.returns-in-Ok
returns-in-Ok c = sym (ap (due_at c.args.time) (at_lookup c.args.self.count c.args.keys.now c.args.deadlines.now (good_of c.args.self.count c.args.keys.now c.args.deadlines.now c.requires) c.args.key _ (sym c.in-Ok.is ∙ c.search-position.ensures)))

pub returns-in-Err : goal.returns-in-Err
returns-in-Err c = sym (ap (due_at c.args.time) (absent_lookup c.args.self.count c.args.keys.now c.args.deadlines.now (good_of c.args.self.count c.args.keys.now c.args.deadlines.now c.requires) c.args.key _ (sym c.in-Err.is ∙ c.search-position.ensures)))
