use mathlib.Core.Path.{sym, ap, ◌∙◌}
use borrow.Author.Tests.{lt-ltb, le-ltb}
use Rattle.refusal.specs.Order.{order, or_else, numbered, first_of, verdict, decide}
use Rattle.window.specs.State.{store_short}
use Rattle.window.proofs.Laws.{store_fits}
use Rattle.session.specs.Receiving.{ReceiverEnd}
use Rattle.host_ends.specs.Making.{make_unless, make_receiver_of, receiver_made}
use Rattle.host_ends.proofs.make_receiver_of.Goals as goal

pub returns-then-store_short : goal.returns-then-store_short
unfolding make_receiver_of make_unless verdict first_of numbered or_else order decide
returns-then-store_short c = simp (sym (c.store_short.ensures ∙ ap (store_short c.args.store.now) c.receiver_slot_count-slots.ensures) ∙ c.if-store_short.true, c.refusal_answer.ensures)

pub returns-then-window_broken : goal.returns-then-window_broken
unfolding make_receiver_of make_unless verdict first_of numbered or_else order decide
returns-then-window_broken c = simp (sym (c.store_short.ensures ∙ ap (store_short c.args.store.now) c.receiver_slot_count-slots.ensures) ∙ c.if-store_short.false, sym c.window_broken.ensures ∙ c.if-window_broken.true, c.refusal_answer-then-window_broken.ensures)

pub returns-then-state-lt-STATE_WORDS : goal.returns-then-state-lt-STATE_WORDS
unfolding make_receiver_of make_unless verdict first_of numbered or_else order decide
returns-then-state-lt-STATE_WORDS c = simp (sym (c.store_short.ensures ∙ ap (store_short c.args.store.now) c.receiver_slot_count-slots.ensures) ∙ c.if-store_short.false, sym c.window_broken.ensures ∙ c.if-window_broken.false, lt-ltb _ _ c.if-state-lt-STATE_WORDS.true, c.refusal_answer-then-state-lt-STATE_WORDS.ensures)

pub new_unchecked-receiver-requires : goal.new_unchecked-receiver-requires
new_unchecked-receiver-requires c = store_fits _ _ (sym (c.store_short.ensures ∙ ap (store_short c.args.store.now) c.receiver_slot_count-slots.ensures) ∙ c.if-store_short.false)

pub returns : goal.returns
unfolding make_receiver_of make_unless verdict first_of numbered or_else order decide
returns c = simp (sym (c.store_short.ensures ∙ ap (store_short c.args.store.now) c.receiver_slot_count-slots.ensures) ∙ c.if-store_short.false, sym c.window_broken.ensures ∙ c.if-window_broken.false, le-ltb _ _ c.if-state-lt-STATE_WORDS.false) (rw (c.pack_unchecked.ensures, c.put_receiver_unchecked.ensures, c.put_kind_unchecked.ensures, c.receiver_word.ensures) (ap (λ (v : ReceiverEnd). receiver_made c.args.protocol c.args.state.now v) c.new_unchecked-receiver.ensures))
