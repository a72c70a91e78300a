use Rattle.std.specs.Prelude.{Err}
use mathlib.Core.Path.{sym, ◌∙◌}
use native.Mathlib.Omega.{arith}
use Rattle.refusal.specs.Order.{held_checks}
use Rattle.refusal.proofs.Laws.{accepted_none_true, on_accepted, on_refused, err_returned}
use Rattle.selective_repeat.specs.Receiver.{buffered_count}
use Rattle.selective_repeat.proofs.States.{ready}
use Rattle.selective_repeat.proofs.SelectiveRepeatReceiver.buffered_count.Goals as goal

pub marked_count_unchecked-requires : goal.marked_count_unchecked-requires
marked_count_unchecked-requires c = let s = ready c.args.self c.args.store.now (sym c.state_broken.ensures ∙ (accepted_none_true (held_checks c.state_broken.result c.counts_broken.result) (sym c.held_verdict.ensures ∙ c.in_ok-held_verdict.was)).0) in let few = s.small in (s.positive, s.room, omega arith)

pub returns : goal.returns
unfolding buffered_count
returns c = rw (← c.state_broken.ensures, ← c.counts_broken.ensures, ← c.held_verdict.ensures, c.marked_count_unchecked.ensures) (sym (on_accepted Err _ c.in_ok-held_verdict.was))

pub returns-in_err-held_verdict : goal.returns-in_err-held_verdict
unfolding buffered_count
returns-in_err-held_verdict c = err_returned _ c.from_residual.ensures.1 (rw (← c.state_broken.ensures, ← c.counts_broken.ensures, ← c.held_verdict.ensures) (sym (on_refused Err _ c.in_err-held_verdict.was)))
