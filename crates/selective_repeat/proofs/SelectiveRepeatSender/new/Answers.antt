use mathlib.Core.Path.{refl, sym, ◌∙◌}
use Rattle.refusal.proofs.Laws.{err_returned}
use Rattle.selective_repeat.proofs.SelectiveRepeatSender.new.Goals as goal

pub returns : goal.returns
returns c = sym (rw c.in_ok-window.was) ∙ c.new.ensures

pub returns-in_err-window : goal.returns-in_err-window
returns-in_err-window c = rw (err_returned _ c.from_residual.ensures.1 refl) (sym (rw c.in_err-window.was) ∙ c.new.ensures)
