-- The laws of the protocols that crates above may cite.
pub use Rattle.protocol.proofs.Theorem.{safe, ResentAll, resent_all, SomeResending, some_resending, plain_append, chunks_fed, plain_sent, fair_append, after_append}
pub use Rattle.protocol.proofs.Invariant.{is_selective, Ends, Holds, Selective, InOrder, Own, Carries, Noted, Invariant, at_start, chunks_length}
pub use Rattle.protocol.proofs.Safety.{step_ok, run_ok, from_start, claimed}
pub use Rattle.protocol.proofs.Resending.{Resent, resending_ok}
pub use Rattle.protocol.proofs.Every.{Every, every_nil, every_cons, every_append, every_snoc, every_mono, every_head, every_tail}
pub use Rattle.protocol.proofs.Marks.{On}
pub use Rattle.protocol.proofs.KuroseRossRuns.{step_like_book, start_like_book, like_book, selective_repeat_like_book}
