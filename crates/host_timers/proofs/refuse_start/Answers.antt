use mathlib.Core.Path.{sym, ◌∙◌}
use Rattle.host_timers.proofs.Calls.{start_wide_read, start_wide_refused}
use Rattle.host_timers.proofs.refuse_start.Goals as goal

pub returns-then-start_late : goal.returns-then-start_late
returns-then-start_late c = rw (start_wide_read c.args.t c.args.keys.now c.args.deadlines.now c.args.now c.args.duration (sym c.is_expired_at.ensures ∙ c.in-Ok.is), sym c.start_late.ensures ∙ c.if-start_late.true) c.refusal_answer.ensures

pub returns-else-start_late : goal.returns-else-start_late
returns-else-start_late c = rw (start_wide_read c.args.t c.args.keys.now c.args.deadlines.now c.args.now c.args.duration (sym c.is_expired_at.ensures ∙ c.in-Ok.is), sym c.start_late.ensures ∙ c.if-start_late.false) c.refusal_answer-in-Ok.ensures

pub returns-in-Err : goal.returns-in-Err
returns-in-Err c = rw (start_wide_refused c.args.t c.args.keys.now c.args.deadlines.now c.args.now c.args.duration (sym c.is_expired_at.ensures ∙ c.in-Err.is)) c.refusal_answer-in-Err.ensures
