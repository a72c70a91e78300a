use mathlib.Core.Path.{◌∙◌}
use Rattle.receiver.proofs.Laws.{state_low, apply_refused, apply_received}
use Rattle.go_back_n.proofs.GoBackNReceiver.handle_packet_unchecked.Goals as goal

pub decide_unchecked-after-requires : goal.decide_unchecked-after-requires
decide_unchecked-after-requires c = record { duplicate_acks_sent_value = c.requires.duplicate_acks_sent_value; expected_seq_bound = (state_low _ _ _ c.requires.output_value).0 }

pub apply_unchecked-result-requires : goal.apply_unchecked-result-requires
apply_unchecked-result-requires c = (state_low _ _ _ c.requires.output_value).1

pub returns-then-is_err : goal.returns-then-is_err
returns-then-is_err c = apply_refused _ _ _ (c.apply_unchecked-result.ensures ∙ rw c.decide_unchecked-after.ensures) c.is_err.ensures.value c.if-is_err.true

pub returns : goal.returns
returns c = rw c.decide_unchecked-after.ensures (apply_received _ _ _ (c.apply_unchecked-result.ensures ∙ rw c.decide_unchecked-after.ensures) c.is_err.ensures.value c.if-is_err.false)
