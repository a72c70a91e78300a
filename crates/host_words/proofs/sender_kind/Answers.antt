use mathlib.Core.Path.{sym, ◌∙◌}
use borrow.Author.Tests.{eq-eqb, ne_eqb}
use native.Mathlib.Omega.{arith}
use Rattle.host_words.proofs.Words.{sender_readable, retries_readable}
use Rattle.host_words.specs.Words.{held_sender}
use Rattle.host_words.proofs.sender_kind.Goals as goal

pub returns-then-sender_unreadable : goal.returns-then-sender_unreadable
unfolding held_sender
returns-then-sender_unreadable c = simp (sym c.sender_unreadable.ensures ∙ c.if-sender_unreadable.true)

pub bounds-state-0 : goal.bounds-state-0
bounds-state-0 c = let h = (sender_readable c.args.state.now (sym c.sender_unreadable.ensures ∙ c.if-sender_unreadable.false)).long in omega arith

pub returns-then-kind-eq-SELECTIVE_REPEAT_SENDER : goal.returns-then-kind-eq-SELECTIVE_REPEAT_SENDER
unfolding held_sender
returns-then-kind-eq-SELECTIVE_REPEAT_SENDER c = (sender_readable c.args.state.now (sym c.sender_unreadable.ensures ∙ c.if-sender_unreadable.false), simp ((sym c.sender_unreadable.ensures ∙ c.if-sender_unreadable.false), eq-eqb _ _ c.if-kind-eq-SELECTIVE_REPEAT_SENDER.true))

pub returns-then-kind-eq-GO_BACK_N_SENDER : goal.returns-then-kind-eq-GO_BACK_N_SENDER
unfolding held_sender
returns-then-kind-eq-GO_BACK_N_SENDER c = (sender_readable c.args.state.now (sym c.sender_unreadable.ensures ∙ c.if-sender_unreadable.false), simp ((sym c.sender_unreadable.ensures ∙ c.if-sender_unreadable.false), ne_eqb _ _ c.if-kind-eq-SELECTIVE_REPEAT_SENDER.false, eq-eqb _ _ c.if-kind-eq-GO_BACK_N_SENDER.true))

pub not_single-requires : goal.not_single-requires
not_single-requires c = sender_readable c.args.state.now (sym c.sender_unreadable.ensures ∙ c.if-sender_unreadable.false)

pub returns-then-not_single : goal.returns-then-not_single
unfolding held_sender
returns-then-not_single c = simp ((sym c.sender_unreadable.ensures ∙ c.if-sender_unreadable.false), ne_eqb _ _ c.if-kind-eq-SELECTIVE_REPEAT_SENDER.false, ne_eqb _ _ c.if-kind-eq-GO_BACK_N_SENDER.false, eq-eqb _ _ c.if-kind-eq-STOP_AND_WAIT_SENDER.true, sym c.not_single.ensures ∙ c.if-not_single.true)

pub returns-then-kind-eq-STOP_AND_WAIT_SENDER : goal.returns-then-kind-eq-STOP_AND_WAIT_SENDER
unfolding held_sender
returns-then-kind-eq-STOP_AND_WAIT_SENDER c = (sender_readable c.args.state.now (sym c.sender_unreadable.ensures ∙ c.if-sender_unreadable.false), retries_readable c.args.state.now (sym c.not_single.ensures ∙ c.if-not_single.false), simp ((sym c.sender_unreadable.ensures ∙ c.if-sender_unreadable.false), ne_eqb _ _ c.if-kind-eq-SELECTIVE_REPEAT_SENDER.false, ne_eqb _ _ c.if-kind-eq-GO_BACK_N_SENDER.false, eq-eqb _ _ c.if-kind-eq-STOP_AND_WAIT_SENDER.true, (sym c.not_single.ensures ∙ c.if-not_single.false)))

pub returns : goal.returns
unfolding held_sender
returns c = simp ((sym c.sender_unreadable.ensures ∙ c.if-sender_unreadable.false), ne_eqb _ _ c.if-kind-eq-SELECTIVE_REPEAT_SENDER.false, ne_eqb _ _ c.if-kind-eq-GO_BACK_N_SENDER.false, ne_eqb _ _ c.if-kind-eq-STOP_AND_WAIT_SENDER.false)
