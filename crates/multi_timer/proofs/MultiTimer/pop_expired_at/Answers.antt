use Rattle.std.proofs.Common.{length, sym, ◌∙◌, arith, ltb-false}
use Rattle.refusal.proofs.Laws.{accepted_none_true}
use Rattle.multi_timer.specs.MultiTimer.{pop_checks}
use Rattle.multi_timer.proofs.Calls.{popped_count, pop_refused, pop_done}
use Rattle.multi_timer.proofs.MultiTimer.pop_expired_at.Goals as goal

pub pop_expired_at_unchecked-t-requires : goal.pop_expired_at_unchecked-t-requires
pop_expired_at_unchecked-t-requires c = let s = c.args in let n = accepted_none_true (pop_checks s.self s.keys.now s.deadlines.now s.now (length s.out.now)) (sym c.check_pop-verdict.ensures ∙ c.in-Ok.is) in (n.0, ltb-false _ _ n.1.1.0)

pub overflow_sub-result : goal.overflow_sub-result
overflow_sub-result c = let s = c.args in let n = accepted_none_true (pop_checks s.self s.keys.now s.deadlines.now s.now (length s.out.now)) (sym c.check_pop-verdict.ensures ∙ c.in-Ok.is) in omega (arith, popped_count s.self s.keys.now s.deadlines.now s.now s.out.now _ _ _ _ n.0 c.pop_expired_at_unchecked-t.ensures)

pub returns-in-Ok : goal.returns-in-Ok
returns-in-Ok c = let s = c.args in pop_done s.self s.keys.now s.deadlines.now s.now s.out.now _ _ _ _ (sym c.check_pop-verdict.ensures ∙ c.in-Ok.is) c.pop_expired_at_unchecked-t.ensures

pub returns-in-Err : goal.returns-in-Err
returns-in-Err c = let s = c.args in sym (pop_refused s.self s.keys.now s.deadlines.now s.now s.out.now (sym c.check_pop-verdict.ensures ∙ c.in-Err.is))
