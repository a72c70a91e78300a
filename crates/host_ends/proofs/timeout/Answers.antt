use mathlib.Core.Path.{sym, ◌∙◌}
use Rattle.host_words.proofs.Words.{sender_long}
use Rattle.host_ends.specs.Answers.{timeout_code}
use Rattle.host_ends.proofs.Calls.{on_timed_out, on_timeout_broken}
use Rattle.host_ends.proofs.timeout.Goals as goal

pub put_sender_unchecked-requires : goal.put_sender_unchecked-requires
put_sender_unchecked-requires c = sender_long c.args.state.now (sym c.held_sender.ensures ∙ c.in-Some.is)

pub returns-in-Some : goal.returns-in-Some
unfolding timeout_code
returns-in-Some c = on_timed_out c.args.state.now c.args.store.now c.args.which c.args.out.now (sym c.held_sender.ensures ∙ c.in-Some.is) c.handle_timeout-result.ensures c.put_sender_unchecked.ensures (rw c.widened.ensures at c.optional_answer.ensures)

pub returns-in-None : goal.returns-in-None
returns-in-None c = on_timeout_broken c.args.state.now c.args.store.now c.args.which c.args.out.now (sym c.held_sender.ensures ∙ c.in-None.is) c.refusal_answer.ensures
