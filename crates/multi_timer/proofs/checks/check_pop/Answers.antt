use Rattle.std.proofs.Common.{sym, ◌∙◌, le-ltb, lt-ltb}
use Rattle.multi_timer.proofs.Verdicts.{three_checks}
use Rattle.multi_timer.proofs.Changes.{count_fits_deadlines, due_used}
use Rattle.multi_timer.proofs.checks.check_pop.Goals as goal

pub returns-then-is_broken : goal.returns-then-is_broken
returns-then-is_broken c = simp (three_checks, sym c.is_broken.ensures, c.if-is_broken.true)

pub read_too_late-requires : goal.read_too_late-requires
read_too_late-requires c = let s = c.args in count_fits_deadlines s.timers s.keys.now s.deadlines.now (sym c.is_broken.ensures ∙ c.if-is_broken.false)

pub returns-then-read_too_late : goal.returns-then-read_too_late
returns-then-read_too_late c = simp (three_checks, sym c.is_broken.ensures, c.if-is_broken.false, sym c.read_too_late.ensures, c.if-read_too_late.true)

pub due_count-requires : goal.due_count-requires
due_count-requires c = let s = c.args in count_fits_deadlines s.timers s.keys.now s.deadlines.now (sym c.is_broken.ensures ∙ c.if-is_broken.false)

pub returns-then-size-due_count : goal.returns-then-size-due_count
returns-then-size-due_count c = let s = c.args in let b = sym c.is_broken.ensures ∙ c.if-is_broken.false in simp (three_checks, b, sym c.read_too_late.ensures, c.if-read_too_late.false, due_used s.timers s.keys.now s.deadlines.now b s.time, sym c.due_count.ensures, lt-ltb _ _ c.if-size-due_count.true)

pub returns : goal.returns
returns c = let s = c.args in let b = sym c.is_broken.ensures ∙ c.if-is_broken.false in simp (three_checks, b, sym c.read_too_late.ensures, c.if-read_too_late.false, due_used s.timers s.keys.now s.deadlines.now b s.time, sym c.due_count.ensures, le-ltb _ _ c.if-size-due_count.false)
