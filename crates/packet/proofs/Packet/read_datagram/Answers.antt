use mathlib.Core.Path.{sym, ◌∙◌}
use Rattle.refusal.proofs.Laws.{err_returned}
use Rattle.packet.proofs.Read.{declared_within, read_packet}
use Rattle.packet.proofs.Datagrams.{payload_part_lem, given_refused, given_long, given_packet}
use Rattle.packet.proofs.Packet.read_datagram.Goals as goal

pub payload_unchecked-payload-requires : goal.payload_unchecked-payload-requires
payload_unchecked-payload-requires c = declared_within _ (read_packet _ _ (sym c.from_bytes.ensures ∙ c.in_ok-p.was))

pub returns-then-payload-gt-MAX_PAYLOAD_SIZE : goal.returns-then-payload-gt-MAX_PAYLOAD_SIZE
returns-then-payload-gt-MAX_PAYLOAD_SIZE c = sym (given_long _ _ (sym c.from_bytes.ensures ∙ c.in_ok-p.was) (rw (← (c.payload_unchecked-payload.ensures ∙ payload_part_lem _ _ (sym c.from_bytes.ensures ∙ c.in_ok-p.was))) c.if-payload-gt-MAX_PAYLOAD_SIZE.true))

pub returns-then-is_valid_unchecked : goal.returns-then-is_valid_unchecked
returns-then-is_valid_unchecked c = sym (given_packet _ _ (sym c.from_bytes.ensures ∙ c.in_ok-p.was) (rw (← (c.payload_unchecked-payload.ensures ∙ payload_part_lem _ _ (sym c.from_bytes.ensures ∙ c.in_ok-p.was))) c.if-payload-gt-MAX_PAYLOAD_SIZE.false) ∙ rw (← (c.payload_unchecked-payload.ensures ∙ payload_part_lem _ _ (sym c.from_bytes.ensures ∙ c.in_ok-p.was)), ← c.is_valid_unchecked.ensures, c.if-is_valid_unchecked.true))

pub returns-else-is_valid_unchecked : goal.returns-else-is_valid_unchecked
returns-else-is_valid_unchecked c = sym (given_packet _ _ (sym c.from_bytes.ensures ∙ c.in_ok-p.was) (rw (← (c.payload_unchecked-payload.ensures ∙ payload_part_lem _ _ (sym c.from_bytes.ensures ∙ c.in_ok-p.was))) c.if-payload-gt-MAX_PAYLOAD_SIZE.false) ∙ rw (← (c.payload_unchecked-payload.ensures ∙ payload_part_lem _ _ (sym c.from_bytes.ensures ∙ c.in_ok-p.was)), ← c.is_valid_unchecked.ensures, c.if-is_valid_unchecked.false))

pub returns-in_err-p : goal.returns-in_err-p
returns-in_err-p c = err_returned _ c.from_residual.ensures.1 (sym (given_refused _ _ (sym c.from_bytes.ensures ∙ c.in_err-p.was)))
