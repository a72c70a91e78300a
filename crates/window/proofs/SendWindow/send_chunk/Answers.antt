use mathlib.Core.Bool.{false≢true}
use mathlib.Core.Path.{sym, ◌∙◌}
use native.Mathlib.Omega.{arith}
use borrow.Author.Tests.{lt-ltb, le-ltb, eq-eqb, ne_eqb}
use Rattle.refusal.specs.Order.{order, or_else, numbered, first_of, verdict, decide}
use Rattle.window.specs.Sending.{send_checks, send_chunk}
use Rattle.window.proofs.Sound.{sound, counts_low}
use Rattle.window.proofs.SendWindow.send_chunk.Goals as goal

pub returns-then-state_broken : goal.returns-then-state_broken
unfolding send_chunk send_checks verdict first_of numbered or_else order decide
returns-then-state_broken c = simp (sym c.state_broken.ensures ∙ c.if-state_broken.true)

pub returns-then-counts_broken : goal.returns-then-counts_broken
unfolding send_chunk send_checks verdict first_of numbered or_else order decide
returns-then-counts_broken c = simp (sym c.state_broken.ensures ∙ c.if-state_broken.false, sym c.counts_broken.ensures ∙ c.if-counts_broken.true)

pub returns-then-n-gt-MAX_PAYLOAD_SIZE : goal.returns-then-n-gt-MAX_PAYLOAD_SIZE
unfolding send_chunk send_checks verdict first_of numbered or_else order decide
returns-then-n-gt-MAX_PAYLOAD_SIZE c = simp (sym c.state_broken.ensures ∙ c.if-state_broken.false, sym c.counts_broken.ensures ∙ c.if-counts_broken.false, lt-ltb _ _ c.if-n-gt-MAX_PAYLOAD_SIZE.true)

pub overflow_sub-self : goal.overflow_sub-self
overflow_sub-self c = omega (arith, (sound _ _ _ (sym c.state_broken.ensures ∙ c.if-state_broken.false)).ordered)

pub returns-then-self : goal.returns-then-self
unfolding send_chunk send_checks verdict first_of numbered or_else order decide
returns-then-self c = simp (sym c.state_broken.ensures ∙ c.if-state_broken.false, sym c.counts_broken.ensures ∙ c.if-counts_broken.false, le-ltb _ _ c.if-n-gt-MAX_PAYLOAD_SIZE.false, le-ltb _ _ c.if-self.true)

pub returns-then-self-eq-SEQ_NUM_LIMIT : goal.returns-then-self-eq-SEQ_NUM_LIMIT
unfolding send_chunk send_checks verdict first_of numbered or_else order decide
returns-then-self-eq-SEQ_NUM_LIMIT c = simp (sym c.state_broken.ensures ∙ c.if-state_broken.false, sym c.counts_broken.ensures ∙ c.if-counts_broken.false, le-ltb _ _ c.if-n-gt-MAX_PAYLOAD_SIZE.false, lt-ltb _ _ c.if-self.false, eq-eqb _ _ c.if-self-eq-SEQ_NUM_LIMIT.true)

pub returns-then-out-n : goal.returns-then-out-n
unfolding send_chunk send_checks verdict first_of numbered or_else order decide
returns-then-out-n c = simp (sym c.state_broken.ensures ∙ c.if-state_broken.false, sym c.counts_broken.ensures ∙ c.if-counts_broken.false, le-ltb _ _ c.if-n-gt-MAX_PAYLOAD_SIZE.false, lt-ltb _ _ c.if-self.false, ne_eqb _ _ c.if-self-eq-SEQ_NUM_LIMIT.false, lt-ltb _ _ c.if-out-n.true)

pub send_chunk_unchecked-window-requires : goal.send_chunk_unchecked-window-requires
send_chunk_unchecked-window-requires c = let s = sound _ _ _ (sym c.state_broken.ensures ∙ c.if-state_broken.false) in
    let k = counts_low _ (sym c.counts_broken.ensures ∙ c.if-counts_broken.false) in
    let low = s.low in record { can_send_chunk = record { positive = s.positive; room = s.room; low = omega arith; count = k.0; short = c.if-n-gt-MAX_PAYLOAD_SIZE.false; fits = c.if-out-n.false }; clean = λ e. absurd (false≢true e) }

pub returns : goal.returns
unfolding send_chunk send_checks verdict first_of numbered or_else order decide
returns c = simp (sym c.state_broken.ensures ∙ c.if-state_broken.false, sym c.counts_broken.ensures ∙ c.if-counts_broken.false, le-ltb _ _ c.if-n-gt-MAX_PAYLOAD_SIZE.false, lt-ltb _ _ c.if-self.false, ne_eqb _ _ c.if-self-eq-SEQ_NUM_LIMIT.false, le-ltb _ _ c.if-out-n.false)
    c.send_chunk_unchecked-window.ensures
