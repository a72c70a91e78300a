use Rattle.std.proofs.Common.{sym, ◌∙◌}
use Rattle.multi_timer.proofs.Verdicts.{two_checks}
use Rattle.multi_timer.proofs.Changes.{count_fits_deadlines}
use Rattle.multi_timer.proofs.checks.check_read.Goals as goal

pub returns-then-is_broken : goal.returns-then-is_broken
returns-then-is_broken c = simp (two_checks, sym c.is_broken.ensures, c.if-is_broken.true)

pub read_too_late-requires : goal.read_too_late-requires
read_too_late-requires c = let s = c.args in count_fits_deadlines s.timers s.keys.now s.deadlines.now (sym c.is_broken.ensures ∙ c.if-is_broken.false)

pub returns-then-read_too_late : goal.returns-then-read_too_late
returns-then-read_too_late c = simp (two_checks, sym c.is_broken.ensures, c.if-is_broken.false, sym c.read_too_late.ensures, c.if-read_too_late.true)

pub returns : goal.returns
returns c = simp (two_checks, sym c.is_broken.ensures, c.if-is_broken.false, sym c.read_too_late.ensures, c.if-read_too_late.false)
