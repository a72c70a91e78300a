use mathlib.Core.Path.{sym}
use native.Mathlib.Omega.{arith}
use Rattle.selective_repeat.specs.Receiver.{released, delivered_bytes}
use Rattle.selective_repeat.proofs.States.{payloads_in}
use lib.ListN.{length-append}
use Rattle.selective_repeat.proofs.SelectiveRepeatReceiver.delivered_length.Goals as goal

pub overflow_add-self : goal.overflow_add-self
overflow_add-self c = omega (arith, c.requires.0.low)

pub payloads_length_unchecked-held-requires : goal.payloads_length_unchecked-held-requires
payloads_length_unchecked-held-requires c = let small = c.requires.0.small in
    let few = c.requires.1 in
    let k = c.released.ensures in
    (rw k (payloads_in c.args.self c.args.store.now (released c.args.change) c.requires.0 few), omega arith)

pub overflow_add-result : goal.overflow_add-result
overflow_add-result c = let small = c.requires.0.small in
    let few = c.requires.1 in
    let k = c.released.ensures in
    let most = c.payloads_length_unchecked-held.ensures.upper_bound in
    omega arith

pub returns : goal.returns
unfolding delivered_bytes
returns c = rw (c.payloads_length_unchecked-held.ensures.value, c.released.ensures) (sym (length-append c.args.payload.now _))
