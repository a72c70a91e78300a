use Rattle.std.specs.Prelude.{Err}
use mathlib.Core.Path.{sym, ◌∙◌}
use Rattle.refusal.specs.Order.{held_checks}
use Rattle.refusal.proofs.Laws.{accepted_none_true, on_accepted, on_refused, err_returned}
use Rattle.selective_repeat.specs.Sender.{in_flight_count}
use Rattle.selective_repeat.proofs.SelectiveRepeatSender.in_flight_count.Goals as goal

pub in_flight_count_unchecked-requires : goal.in_flight_count_unchecked-requires
in_flight_count_unchecked-requires c = sym c.state_broken.ensures ∙ (accepted_none_true (held_checks c.state_broken.result c.counts_broken.result) (sym c.held_verdict.ensures ∙ c.in_ok-held_verdict.was)).0

pub returns : goal.returns
unfolding in_flight_count
returns c = rw (← c.state_broken.ensures, ← c.counts_broken.ensures, ← c.held_verdict.ensures, c.in_flight_count_unchecked.ensures) (sym (on_accepted Err _ c.in_ok-held_verdict.was))

pub returns-in_err-held_verdict : goal.returns-in_err-held_verdict
unfolding in_flight_count
returns-in_err-held_verdict c = err_returned _ c.from_residual.ensures.1 (rw (← c.state_broken.ensures, ← c.counts_broken.ensures, ← c.held_verdict.ensures) (sym (on_refused Err _ c.in_err-held_verdict.was)))
