use mathlib.Core.Path.{sym, ◌∙◌}
use Rattle.host_words.proofs.Words.{receiver_long}
use Rattle.host_drain.proofs.Calls.{on_drained, on_drain_broken}
use Rattle.host_drain.proofs.drain.Goals as goal

pub put_receiver_unchecked-requires : goal.put_receiver_unchecked-requires
put_receiver_unchecked-requires c = receiver_long c.args.state.now (sym c.held_receiver.ensures ∙ c.in-Some.is)

pub returns-in-Some : goal.returns-in-Some
returns-in-Some c = on_drained c.args.state.now c.args.store.now c.args.output.now (sym c.held_receiver.ensures ∙ c.in-Some.is) c.drain_receiver-result.ensures c.put_receiver_unchecked.ensures c.count_answer.ensures

pub returns-in-None : goal.returns-in-None
returns-in-None c = on_drain_broken c.args.state.now c.args.store.now c.args.output.now (sym c.held_receiver.ensures ∙ c.in-None.is) c.refusal_answer.ensures
