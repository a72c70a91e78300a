use Rattle.std.proofs.Common.{rules}
use mathlib.Core.Path.{◌≡◌, sym, ◌∙◌}
use Rattle.host_words.proofs.Words.{receiver_long}
use Rattle.host_ends.specs.Answers.{receive_code}
use Rattle.host_ends.proofs.Calls.{on_received, on_receive_broken}
use Rattle.host_ends.proofs.receive.Goals as goal

pub put_receiver_unchecked-requires : goal.put_receiver_unchecked-requires
put_receiver_unchecked-requires c = receiver_long c.args.state.now (sym c.held_receiver.ensures ∙ c.in-Some.is)

pub returns-in-Ok : goal.returns-in-Ok
unfolding receive_code
returns-in-Ok c =
    let e : c.map.result ≡ c.in-Ok.n = search rules in
    on_received c.args.state.now c.args.store.now c.args.raw.now c.args.output.now c.args.ack.now (sym c.held_receiver.ensures ∙ c.in-Some.is) c.handle_packet-result.ensures c.put_receiver_unchecked.ensures
    (rw (c.in-Ok.is, ← e) c.optional_answer.ensures)

pub returns-in-Err : goal.returns-in-Err
unfolding receive_code
returns-in-Err c =
    on_received c.args.state.now c.args.store.now c.args.raw.now c.args.output.now c.args.ack.now (sym c.held_receiver.ensures ∙ c.in-Some.is) c.handle_packet-result.ensures c.put_receiver_unchecked.ensures
    (rw c.in-Err.is c.refusal_answer.ensures)

pub returns-in-None : goal.returns-in-None
returns-in-None c = on_receive_broken c.args.state.now c.args.store.now c.args.raw.now c.args.output.now c.args.ack.now (sym c.held_receiver.ensures ∙ c.in-None.is) c.refusal_answer-in-None.ensures
