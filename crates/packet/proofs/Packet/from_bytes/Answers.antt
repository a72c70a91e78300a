use Rattle.std.specs.Prelude.{Err, Ok}
use mathlib.Core.Path.{sym, ap, ◌∙◌}
use native.Mathlib.Omega.{arith}
use Rattle.refusal.proofs.Laws.{on_accepted, on_refused, err_returned}
use Rattle.packet.specs.Reading.{from_bytes, header_of}
use Rattle.packet.proofs.Read.{Readable, read_short, read_kind, read_cut, read_accepted, type_accepted, type_refused, type_refused_by}
use Rattle.packet.proofs.Packet.from_bytes.Goals as goal

pub returns-then-raw-lt-HEADER_SIZE : goal.returns-then-raw-lt-HEADER_SIZE
unfolding from_bytes
returns-then-raw-lt-HEADER_SIZE c = let raw = c.args.raw.now in
    sym (on_refused Err (Ok (header_of raw)) (read_short raw c.if-raw-lt-HEADER_SIZE.true))

pub returns-in_err-pkt_type : goal.returns-in_err-pkt_type
unfolding from_bytes
returns-in_err-pkt_type c = let raw = c.args.raw.now in
    let known = type_refused _ _ (sym c.try_from.ensures ∙ c.in_err-pkt_type.was) in
    err_returned _ c.from_residual.ensures.1 (ap (λ x. Err x) (sym (type_refused_by _ _ (sym c.try_from.ensures ∙ c.in_err-pkt_type.was))) ∙ sym (on_refused Err (Ok (header_of raw)) (read_kind raw c.if-raw-lt-HEADER_SIZE.false known)))

pub returns-then-present-declared : goal.returns-then-present-declared
unfolding from_bytes
returns-then-present-declared c = let raw = c.args.raw.now in
    let known = type_accepted _ _ (sym c.try_from.ensures ∙ c.in_ok-pkt_type.was) in
    rw c.be16-declared.ensures
    (sym (on_refused Err (Ok (header_of raw)) (read_cut raw c.if-raw-lt-HEADER_SIZE.false known.0 (omega arith))))

pub returns : goal.returns
unfolding from_bytes header_of
returns c = let raw = c.args.raw.now in
    let known = type_accepted _ _ (sym c.try_from.ensures ∙ c.in_ok-pkt_type.was) in
    let readable : Readable raw = record { long = c.if-raw-lt-HEADER_SIZE.false; known = known.0; whole = omega arith } in
    rw (c.be16.ensures, c.be32.ensures, known.1)
    (sym (on_accepted Err (Ok (header_of raw)) (read_accepted raw readable)))
