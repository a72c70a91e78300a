use Rattle.std.proofs.Common.{sym, ◌∙◌}
use Rattle.multi_timer.proofs.Verdicts.{three_checks}
use Rattle.multi_timer.proofs.Changes.{count_fits_deadlines}
use Rattle.multi_timer.proofs.checks.check_start.Goals as goal

pub returns-then-is_broken : goal.returns-then-is_broken
returns-then-is_broken c = simp (three_checks, sym c.is_broken.ensures, c.if-is_broken.true)

pub start_too_late-requires : goal.start_too_late-requires
start_too_late-requires c = let s = c.args in count_fits_deadlines s.timers s.keys.now s.deadlines.now (sym c.is_broken.ensures ∙ c.if-is_broken.false)

pub returns-then-start_too_late : goal.returns-then-start_too_late
returns-then-start_too_late c = simp (three_checks, sym c.is_broken.ensures, c.if-is_broken.false, sym c.start_too_late.ensures, c.if-start_too_late.true)

pub start_full-requires : goal.start_full-requires
start_full-requires c = sym c.is_broken.ensures ∙ c.if-is_broken.false

pub returns-then-start_full : goal.returns-then-start_full
returns-then-start_full c = simp (three_checks, sym c.is_broken.ensures, c.if-is_broken.false, sym c.start_too_late.ensures, c.if-start_too_late.false, sym c.start_full.ensures, c.if-start_full.true)

pub returns : goal.returns
returns c = simp (three_checks, sym c.is_broken.ensures, c.if-is_broken.false, sym c.start_too_late.ensures, c.if-start_too_late.false, sym c.start_full.ensures, c.if-start_full.false)
