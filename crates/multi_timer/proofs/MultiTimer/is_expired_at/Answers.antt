use Rattle.std.specs.Prelude.{Err, Ok}
use Rattle.std.proofs.Common.{sym, ap, ◌∙◌}
use Rattle.std.proofs.lemmas.Result.{err_from_is_err_and}
use Rattle.refusal.proofs.Laws.{accepted_none_true}
use Rattle.multi_timer.specs.MultiTimer.{read_checks}
use Rattle.multi_timer.proofs.Calls.{expired_accepted, expired_refused}
use Rattle.multi_timer.proofs.MultiTimer.is_expired_at.Goals as goal

pub is_expired_at_unchecked-requires : goal.is_expired_at_unchecked-requires
is_expired_at_unchecked-requires c = let s = c.args in let n = accepted_none_true (read_checks s.self s.keys.now s.deadlines.now s.now) (sym c.check_read.ensures ∙ c.in_ok-check_read.was) in n.0

pub returns-in_err-check_read : goal.returns-in_err-check_read
returns-in_err-check_read c =
    let s = c.args in
    let p = err_from_is_err_and c.from_residual.result c.from_residual.ensures.1 in
    p.1 ∙ ap Err p.2 ∙ sym (expired_refused s.self s.keys.now s.deadlines.now s.key s.now (sym c.check_read.ensures ∙ c.in_err-check_read.was))

pub returns : goal.returns
returns c = let s = c.args in ap Ok c.is_expired_at_unchecked.ensures ∙ sym (expired_accepted s.self s.keys.now s.deadlines.now s.key s.now (sym c.check_read.ensures ∙ c.in_ok-check_read.was))
