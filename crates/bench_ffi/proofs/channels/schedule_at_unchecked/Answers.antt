use mathlib.Core.Bool.{false≢true}
use borrow.Author.Rules.{rules}
use Rattle.bench_ffi.proofs.channels.schedule_at_unchecked.Goals as goal

pub schedule_at_unchecked-requires : goal.schedule_at_unchecked-requires
schedule_at_unchecked-requires c = record { can_schedule = search rules; cleared = λ e. absurd (false≢true e) }
