-- What crates above may cite of texts.
pub use Rattle.text.proofs.Digits.{digits_decimal, digits_length, digits_some}
pub use Rattle.text.proofs.Unique.{decimal_unique, decimal_digits, digits_injective}
pub use Rattle.text.proofs.Runs.{run_none, run_other}
pub use Rattle.text.proofs.Hex.{length_hex, hex_letters, octets_hex, hex_octets, length_octets}
pub use Rattle.text.proofs.Numbers.{digits_u64, digits_u32, digits_delay, digits_fold}
pub use Rattle.text.proofs.Numbers.{right_long, right_again, right_some, right_width, left_width}
pub use Rattle.text.proofs.Numbers.{length_written, written_after, Written, written_first, written_room, written_more}
pub use Rattle.text.proofs.Numbers.{stops_at, read_digits, read_written, Accepted, read_accepted, accepted_read}
pub use Rattle.text.proofs.Numbers.{read_hex_written, read_hex_accepted}
pub use Rattle.text.proofs.Places.{place_over, place_written, place_within}
pub use Rattle.text.proofs.Fields.{FieldAt, field_accepted, field_read}
pub use Rattle.text.proofs.Rest.{Rest, rest_first, rest_room, rest_last, rest_end, piece_room, piece_next}
pub use Rattle.text.proofs.Rest.{lines_end, lines_step, line_room, line_next, line_end}
