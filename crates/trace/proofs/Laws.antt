-- What crates above may cite of the text of events.
pub use Rattle.trace.proofs.Lines.{joined_none, joined_one, joined_two, columns_closed, length_columns, length_text, head_text}
pub use Rattle.trace.proofs.Lines.{lines_from, line_at, lines_end, lines_step, line_columns}
pub use Rattle.trace.proofs.Writing.{write_refused, write_placed}
