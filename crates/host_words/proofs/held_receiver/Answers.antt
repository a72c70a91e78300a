use mathlib.Core.Path.{sym, ◌∙◌}
use borrow.Author.Tests.{eq-eqb, ne_eqb}
use native.Mathlib.Omega.{arith}
use Rattle.host_words.proofs.Words.{receiver_readable}
use Rattle.host_words.specs.Words.{held_receiver}
use Rattle.host_words.proofs.held_receiver.Goals as goal

pub returns-then-receiver_unreadable : goal.returns-then-receiver_unreadable
unfolding held_receiver
returns-then-receiver_unreadable c = simp (sym c.receiver_unreadable.ensures ∙ c.if-receiver_unreadable.true)

pub bounds-state-0 : goal.bounds-state-0
bounds-state-0 c = let h = (receiver_readable c.args.state.now (sym c.receiver_unreadable.ensures ∙ c.if-receiver_unreadable.false)).long in omega arith

pub selective_repeat_receiver_in-requires : goal.selective_repeat_receiver_in-requires
selective_repeat_receiver_in-requires c = receiver_readable c.args.state.now (sym c.receiver_unreadable.ensures ∙ c.if-receiver_unreadable.false)

pub returns-then-kind-eq-SELECTIVE_REPEAT_RECEIVER : goal.returns-then-kind-eq-SELECTIVE_REPEAT_RECEIVER
unfolding held_receiver
returns-then-kind-eq-SELECTIVE_REPEAT_RECEIVER c = simp ((sym c.receiver_unreadable.ensures ∙ c.if-receiver_unreadable.false), eq-eqb _ _ c.if-kind-eq-SELECTIVE_REPEAT_RECEIVER.true, c.selective_repeat_receiver_in.ensures)

pub bounds-state-1 : goal.bounds-state-1
bounds-state-1 c = let h = (receiver_readable c.args.state.now (sym c.receiver_unreadable.ensures ∙ c.if-receiver_unreadable.false)).long in omega arith

pub returns-then-state-ne1 : goal.returns-then-state-ne1
unfolding held_receiver
returns-then-state-ne1 c = simp ((sym c.receiver_unreadable.ensures ∙ c.if-receiver_unreadable.false), ne_eqb _ _ c.if-kind-eq-SELECTIVE_REPEAT_RECEIVER.false, ne_eqb _ _ c.if-state-ne1.true)

pub go_back_n_receiver_in-requires : goal.go_back_n_receiver_in-requires
go_back_n_receiver_in-requires c = receiver_readable c.args.state.now (sym c.receiver_unreadable.ensures ∙ c.if-receiver_unreadable.false)

pub returns-then-kind-eq-GO_BACK_N_RECEIVER : goal.returns-then-kind-eq-GO_BACK_N_RECEIVER
unfolding held_receiver
returns-then-kind-eq-GO_BACK_N_RECEIVER c = simp ((sym c.receiver_unreadable.ensures ∙ c.if-receiver_unreadable.false), ne_eqb _ _ c.if-kind-eq-SELECTIVE_REPEAT_RECEIVER.false, eq-eqb _ _ c.if-state-ne1.false, eq-eqb _ _ c.if-kind-eq-GO_BACK_N_RECEIVER.true, c.go_back_n_receiver_in.ensures)

pub stop_and_wait_receiver_in-requires : goal.stop_and_wait_receiver_in-requires
stop_and_wait_receiver_in-requires c = receiver_readable c.args.state.now (sym c.receiver_unreadable.ensures ∙ c.if-receiver_unreadable.false)

pub returns-then-kind-eq-STOP_AND_WAIT_RECEIVER : goal.returns-then-kind-eq-STOP_AND_WAIT_RECEIVER
unfolding held_receiver
returns-then-kind-eq-STOP_AND_WAIT_RECEIVER c = simp ((sym c.receiver_unreadable.ensures ∙ c.if-receiver_unreadable.false), ne_eqb _ _ c.if-kind-eq-SELECTIVE_REPEAT_RECEIVER.false, eq-eqb _ _ c.if-state-ne1.false, ne_eqb _ _ c.if-kind-eq-GO_BACK_N_RECEIVER.false, eq-eqb _ _ c.if-kind-eq-STOP_AND_WAIT_RECEIVER.true, c.stop_and_wait_receiver_in.ensures)

pub returns : goal.returns
unfolding held_receiver
returns c = simp ((sym c.receiver_unreadable.ensures ∙ c.if-receiver_unreadable.false), ne_eqb _ _ c.if-kind-eq-SELECTIVE_REPEAT_RECEIVER.false, eq-eqb _ _ c.if-state-ne1.false, ne_eqb _ _ c.if-kind-eq-GO_BACK_N_RECEIVER.false, ne_eqb _ _ c.if-kind-eq-STOP_AND_WAIT_RECEIVER.false)
