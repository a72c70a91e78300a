use Rattle.std.specs.Prelude.{Ok}
use Rattle.std.proofs.Common.{sym, ap, ◌∙◌, eq-eqb, ne_eqb}
use Rattle.multi_timer.specs.MultiTimer.{TimersExit, answering}
use Rattle.multi_timer.specs.declared.MultiTimer.{MultiTimer}
use Rattle.multi_timer.proofs.Verdicts.{one_check}
use Rattle.multi_timer.proofs.Calls.{new_accepted, new_refused}
use Rattle.multi_timer.proofs.new_timers.Goals as goal

pub returns-then-keys-deadlines : goal.returns-then-keys-deadlines
returns-then-keys-deadlines c = let s = c.args in sym (new_refused s.keys.now s.deadlines.now (simp (one_check, ne_eqb _ _ c.if-keys-deadlines.true)))

pub returns : goal.returns
returns c = let s = c.args in ap (λ (a : TimersExit MultiTimer). answering Ok a) c.new_unchecked.ensures ∙ sym (new_accepted s.keys.now s.deadlines.now (simp (one_check, eq-eqb _ _ c.if-keys-deadlines.false)))
