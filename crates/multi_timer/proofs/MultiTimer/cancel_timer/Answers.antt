use Rattle.std.proofs.Common.{sym, ◌∙◌}
use Rattle.refusal.proofs.Laws.{accepted_none_true}
use Rattle.multi_timer.specs.MultiTimer.{held_checks}
use Rattle.multi_timer.proofs.Calls.{cancel_refused, cancel_done}
use Rattle.multi_timer.proofs.MultiTimer.cancel_timer.Goals as goal

pub cancel_timer_unchecked-t-requires : goal.cancel_timer_unchecked-t-requires
cancel_timer_unchecked-t-requires c = let s = c.args in let n = accepted_none_true (held_checks s.self s.keys.now s.deadlines.now) (sym c.check_held-verdict.ensures ∙ c.in-Ok.is) in n.0

pub returns-in-Ok : goal.returns-in-Ok
returns-in-Ok c = let s = c.args in cancel_done s.self s.keys.now s.deadlines.now s.key _ _ _ (sym c.check_held-verdict.ensures ∙ c.in-Ok.is) c.cancel_timer_unchecked-t.ensures

pub returns-in-Err : goal.returns-in-Err
returns-in-Err c = let s = c.args in sym (cancel_refused s.self s.keys.now s.deadlines.now s.key (sym c.check_held-verdict.ensures ∙ c.in-Err.is))
