use mathlib.Core.Path.{ap, ◌∙◌}
use Prim.Native.Nat.{ℕ}
use Rattle.session.specs.declared.Timeout.TheVariants as timeouts
use Rattle.host_ends.specs.Sender as sender
use Rattle.host_ends.proofs.Numbers.{far_number}
use Rattle.host_ends.proofs.timeout_number.Goals as goal

pub returns : goal.returns
returns c = c.timeout.ensures ∙ ap (λ (k : ℕ). sender.timeout c.args.state.now c.args.store.now (timeouts.Number k) c.args.out.now) c.at_most_u32.ensures ∙ far_number c.args.state.now c.args.store.now c.args.out.now c.args.seq_num
