use mathlib.Core.Path.{sym, ◌∙◌, ap}
use Rattle.channel.specs.Process.{process, transited}
use Rattle.refusal.proofs.Laws.{on_accepted, on_refused}
use Rattle.channel.proofs.Carrying.{can_process}
use Rattle.channel.proofs.Channel.process.Goals as goal

pub process_unchecked-done-requires : goal.process_unchecked-done-requires
process_unchecked-done-requires c = can_process c.args.self c.args.packet.now c.args.rolls c.args.out.now (sym c.process_verdict.ensures ∙ c.in-Ok.is)

pub returns-in-Err : goal.returns-in-Err
unfolding process
returns-in-Err c = sym (on_refused _ _ (sym c.process_verdict.ensures ∙ c.in-Err.is))

pub returns-in-Ok : goal.returns-in-Ok
unfolding process
returns-in-Ok c = ap transited c.process_unchecked-done.ensures ∙ sym (on_accepted _ _ (sym c.process_verdict.ensures ∙ c.in-Ok.is))
