use mathlib.Core.Path.{sym, ap, ◌∙◌}
use borrow.Author.Tests.{lt-ltb, le-ltb}
use Rattle.refusal.specs.Clauses.{any_of}
use Rattle.refusal.specs.Order.{order, or_else, numbered, first_of, verdict, decide}
use Rattle.window.specs.State.{store_short}
use Rattle.window.proofs.Laws.{store_fits}
use Rattle.session.specs.Sending.{SenderEnd}
use Rattle.host_ends.specs.Making.{make_unless, make_sender_of, sender_made}
use Rattle.host_ends.proofs.make_sender_of.Goals as goal

pub returns-then-store_short : goal.returns-then-store_short
unfolding make_sender_of make_unless any_of verdict first_of numbered or_else order decide
returns-then-store_short c = simp (sym (c.store_short.ensures ∙ ap (store_short c.args.store.now) c.slot_count-slots.ensures) ∙ c.if-store_short.true, c.refusal_answer.ensures)

pub returns-then-window_broken : goal.returns-then-window_broken
unfolding make_sender_of make_unless any_of verdict first_of numbered or_else order decide
returns-then-window_broken c = simp (sym (c.store_short.ensures ∙ ap (store_short c.args.store.now) c.slot_count-slots.ensures) ∙ c.if-store_short.false, sym c.window_broken.ensures ∙ c.if-window_broken.true, c.refusal_answer-then-window_broken.ensures)

pub returns-then-max_retries-gt-MAX_U32 : goal.returns-then-max_retries-gt-MAX_U32
unfolding make_sender_of make_unless any_of verdict first_of numbered or_else order decide
returns-then-max_retries-gt-MAX_U32 c = simp (sym (c.store_short.ensures ∙ ap (store_short c.args.store.now) c.slot_count-slots.ensures) ∙ c.if-store_short.false, sym c.window_broken.ensures ∙ c.if-window_broken.false, lt-ltb _ _ c.if-max_retries-gt-MAX_U32.true, c.refusal_answer-then-max_retries-gt-MAX_U32.ensures)

pub returns-then-state-lt-STATE_WORDS : goal.returns-then-state-lt-STATE_WORDS
unfolding make_sender_of make_unless any_of verdict first_of numbered or_else order decide
returns-then-state-lt-STATE_WORDS c = simp (sym (c.store_short.ensures ∙ ap (store_short c.args.store.now) c.slot_count-slots.ensures) ∙ c.if-store_short.false, sym c.window_broken.ensures ∙ c.if-window_broken.false, le-ltb _ _ c.if-max_retries-gt-MAX_U32.false, lt-ltb _ _ c.if-state-lt-STATE_WORDS.true, c.refusal_answer-then-state-lt-STATE_WORDS.ensures)

pub new_unchecked-sender-requires : goal.new_unchecked-sender-requires
new_unchecked-sender-requires c = store_fits _ _ (sym (c.store_short.ensures ∙ ap (store_short c.args.store.now) c.slot_count-slots.ensures) ∙ c.if-store_short.false)

pub returns : goal.returns
unfolding make_sender_of make_unless any_of verdict first_of numbered or_else order decide
returns c = simp (sym (c.store_short.ensures ∙ ap (store_short c.args.store.now) c.slot_count-slots.ensures) ∙ c.if-store_short.false, sym c.window_broken.ensures ∙ c.if-window_broken.false, le-ltb _ _ c.if-max_retries-gt-MAX_U32.false, le-ltb _ _ c.if-state-lt-STATE_WORDS.false) (rw (c.pack_unchecked.ensures, c.put_sender_unchecked.ensures, c.put_kind_unchecked.ensures, c.sender_word.ensures) (ap (λ (v : SenderEnd). sender_made c.args.protocol c.args.state.now v) c.new_unchecked-sender.ensures))
