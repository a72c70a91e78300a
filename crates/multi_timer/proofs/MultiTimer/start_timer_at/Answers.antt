use Rattle.std.proofs.Common.{sym, ap, ◌∙◌, arith}
use Rattle.duration.proofs.Laws.{start_in_time}
use Rattle.refusal.proofs.Laws.{accepted_none_true}
use Rattle.multi_timer.specs.MultiTimer.{start_checks, TimersExit, answering, started, held_too_late}
use Rattle.multi_timer.specs.declared.MultiTimer.{MultiTimer}
use Rattle.multi_timer.proofs.Calls.{start_accepted, start_refused}
use Rattle.multi_timer.proofs.MultiTimer.start_timer_at.Goals as goal

pub overflow_add-now : goal.overflow_add-now
overflow_add-now c = let s = c.args in let n = accepted_none_true (start_checks s.self s.keys.now s.deadlines.now s.key s.now s.duration) (sym c.check_start-verdict.ensures ∙ c.in-Ok.is) in let h = start_in_time (held_too_late s.self.count s.deadlines.now) s.now s.duration n.1.0 in omega arith

pub start_timer_at_unchecked-t-requires : goal.start_timer_at_unchecked-t-requires
start_timer_at_unchecked-t-requires c = let s = c.args in let n = accepted_none_true (start_checks s.self s.keys.now s.deadlines.now s.key s.now s.duration) (sym c.check_start-verdict.ensures ∙ c.in-Ok.is) in (n.0, n.1.1.0)

pub returns-in-Ok : goal.returns-in-Ok
returns-in-Ok c = let s = c.args in ap (λ (a : TimersExit MultiTimer). answering started a) c.start_timer_at_unchecked-t.ensures ∙ sym (start_accepted s.self s.keys.now s.deadlines.now s.key s.now s.duration (sym c.check_start-verdict.ensures ∙ c.in-Ok.is))

pub returns-in-Err : goal.returns-in-Err
returns-in-Err c = let s = c.args in sym (start_refused s.self s.keys.now s.deadlines.now s.key s.now s.duration (sym c.check_start-verdict.ensures ∙ c.in-Err.is))
