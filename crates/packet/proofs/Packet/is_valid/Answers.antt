use mathlib.Core.Path.{sym, ◌∙◌}
use Rattle.refusal.proofs.Laws.{err_returned}
use Rattle.packet.proofs.Datagrams.{payload_part_lem}
use Rattle.packet.proofs.Read.{declared_within, read_packet, read_refused, payload_below, validity_is, validity_none, as_cond}
use Rattle.packet.proofs.Packet.is_valid.Goals as goal

pub payload_unchecked-requires : goal.payload_unchecked-requires
payload_unchecked-requires c = declared_within _ (read_packet _ _ (sym c.from_bytes.ensures ∙ c.in_ok-p.was))

pub is_valid_unchecked-requires : goal.is_valid_unchecked-requires
is_valid_unchecked-requires c = rw (c.payload_unchecked.ensures ∙ payload_part_lem _ _ (sym c.from_bytes.ensures ∙ c.in_ok-p.was)) (payload_below _ (record { at = λ i. (c.type_inv.raw i).fits }) (read_packet _ _ (sym c.from_bytes.ensures ∙ c.in_ok-p.was)))

pub returns : goal.returns
returns c = as_cond c.is_valid_unchecked.result ∙ sym (validity_is _ _ (sym c.from_bytes.ensures ∙ c.in_ok-p.was) ∙ rw (← (c.payload_unchecked.ensures ∙ payload_part_lem _ _ (sym c.from_bytes.ensures ∙ c.in_ok-p.was)), ← c.is_valid_unchecked.ensures))

pub returns-in_err-p : goal.returns-in_err-p
returns-in_err-p c = let raw = c.args.raw.now in
    err_returned _ c.from_residual.ensures.1 (sym (validity_none raw (read_refused raw _ (sym c.from_bytes.ensures ∙ c.in_err-p.was))))
