use mathlib.Core.Path.{sym, ap, ◌∙◌}
use Rattle.window.specs.Acknowledgement.{by_reading}
use Rattle.window.proofs.Acknowledging.{ack_state, ack_counts, ack_read}
use Rattle.window.proofs.SendWindow.decide_ack.Goals as goal

pub returns-then-state_broken : goal.returns-then-state_broken
returns-then-state_broken c = sym (ack_state _ _ _ _ (sym c.state_broken.ensures ∙ c.if-state_broken.true))

pub returns-then-counts_broken : goal.returns-then-counts_broken
returns-then-counts_broken c = sym (ack_counts _ _ _ _ (sym c.state_broken.ensures ∙ c.if-state_broken.false) (sym c.counts_broken.ensures ∙ c.if-counts_broken.true))

pub returns : goal.returns
returns c = c.decide_reading.ensures ∙ ap (by_reading c.args.self) c.read_datagram.ensures ∙ sym (ack_read _ _ _ _ (sym c.state_broken.ensures ∙ c.if-state_broken.false) (sym c.counts_broken.ensures ∙ c.if-counts_broken.false))
