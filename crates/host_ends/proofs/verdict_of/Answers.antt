use Rattle.std.specs.Prelude.{Err, Ok}
use Rattle.std.proofs.lemmas.Result.{err_from_is_err_and}
use mathlib.Core.Path.{◌≡◌, refl, ap, ◌∙◌}
use Rattle.refusal.specs.Order.{passed}
use Rattle.window.specs.declared.TimeoutDecision.{TimeoutDecision}
use Rattle.window.specs.declared.TimeoutDecision.TheVariants as decision
use Rattle.host_ends.specs.Internal.{verdict_of}
use Rattle.host_ends.proofs.verdict_of.Goals as goal

passed_by : (d : TimeoutDecision) → passed ≡ verdict_of (Ok d)
unfolding verdict_of
passed_by (decision.Resend n k) = refl
passed_by decision.Nothing = refl

pub returns : goal.returns
returns c = rw c.in_ok-decision.was (passed_by _)

pub returns-in_err-decision : goal.returns-in_err-decision
unfolding verdict_of
returns-in_err-decision c =
    let p = err_from_is_err_and c.from_residual.result c.from_residual.ensures.1 in
    rw c.in_err-decision.was (p.1 ∙ ap Err p.2)
