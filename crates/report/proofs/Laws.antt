-- What crates above may cite of the page.
pub use Rattle.report.proofs.Widths.{column_width, line_width_lem, lines_length, page_in_lines, accepted_room, page_length}
pub use Rattle.report.proofs.Filed.{report_answered}
