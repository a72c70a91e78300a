use Rattle.std.proofs.Common.{sym, ap, ◌∙◌}
use Rattle.refusal.proofs.Laws.{accepted_none_true}
use Rattle.multi_timer.specs.MultiTimer.{held_checks, TimersExit, answering, cleared}
use Rattle.multi_timer.specs.declared.MultiTimer.{MultiTimer}
use Rattle.multi_timer.proofs.Calls.{clear_accepted, clear_refused}
use Rattle.multi_timer.proofs.MultiTimer.clear.Goals as goal

pub clear_unchecked-requires : goal.clear_unchecked-requires
clear_unchecked-requires c = let s = c.args in let n = accepted_none_true (held_checks s.self s.keys.now s.deadlines.now) (sym c.check_held-verdict.ensures ∙ c.in-Ok.is) in n.0

pub returns-in-Ok : goal.returns-in-Ok
returns-in-Ok c = let s = c.args in ap (λ (a : TimersExit MultiTimer). answering cleared a) c.clear_unchecked.ensures ∙ sym (clear_accepted s.self s.keys.now s.deadlines.now (sym c.check_held-verdict.ensures ∙ c.in-Ok.is))

pub returns-in-Err : goal.returns-in-Err
returns-in-Err c = let s = c.args in sym (clear_refused s.self s.keys.now s.deadlines.now (sym c.check_held-verdict.ensures ∙ c.in-Err.is))
