use Rattle.std.proofs.Common.{sym, ◌∙◌}
use Rattle.multi_timer.proofs.Verdicts.{two_checks}
use Rattle.multi_timer.proofs.Changes.{count_fits_deadlines}
use Rattle.multi_timer.proofs.checks.check_held.Goals as goal

pub returns-then-is_broken : goal.returns-then-is_broken
returns-then-is_broken c = simp (two_checks, sym c.is_broken.ensures, c.if-is_broken.true)

pub any_late-requires : goal.any_late-requires
any_late-requires c = let s = c.args in count_fits_deadlines s.timers s.keys.now s.deadlines.now (sym c.is_broken.ensures ∙ c.if-is_broken.false)

pub returns-then-any_late : goal.returns-then-any_late
returns-then-any_late c = simp (two_checks, sym c.is_broken.ensures, c.if-is_broken.false, sym c.any_late.ensures, c.if-any_late.true)

pub returns : goal.returns
returns c = simp (two_checks, sym c.is_broken.ensures, c.if-is_broken.false, sym c.any_late.ensures, c.if-any_late.false)
