-- app/transfer.rs, `pump_sends`: what it asks of a run's state, and keeps.
use Rattle.std.specs.Prelude.{ℕ, ◌+◌, ◌-◌, ◌≤◌, ◌<◌, ◌≡◌, List, Float, length}
use Rattle.bounds.specs.Bounds.{count_limit, max_chunks, max_duration, max_payload}
use Rattle.chunks.specs.Chunks.{chunks_of}
pub use Rattle.clock.specs.Timers.{TimersWithin}
use Rattle.clock.specs.declared.Timing.{Timing}
use Rattle.clock.specs.declared.Timing.TheVariants.{PerNumber}
use Rattle.session.specs.Sending.{window_of}
use Rattle.session.specs.GoodSender.{CleanSender}
use Rattle.submission.specs.Submission.{GoodOutgoing}
use Rattle.sending.specs.Sending.{PumpState}

-- of a file of `total` chunks: no counter meets its limit, every chunk has a row for its note, every number of the
-- window an entry for its timer
pub record GoodPump (t : Timing) (rolls : List Float) (total rto now : ℕ) (s : PumpState) : Type 0 where
  pub outgoing : GoodOutgoing s.outgoing rolls now
  pub sender : CleanSender s.sender
  pub sent : (window_of s.sender.sender).total_sent + (total - (window_of s.sender.sender).next_seq_num)
      < count_limit
  pub again : (window_of s.sender.sender).retransmissions < count_limit
  pub few : total ≤ max_chunks
  pub rows : total ≤ length s.outgoing.metas.rows
  pub timeout : rto ≤ max_duration
  pub timers : TimersWithin (window_of s.sender.sender) s.outgoing.clock
  pub entries : t ≡ PerNumber → (window_of s.sender.sender).window_size ≤ length s.outgoing.clock.keys

-- and of the file's own size
pub record CanPump (t : Timing) (rolls : List Float) (size : ℕ) (file : List ℕ) (total rto now : ℕ) (s : PumpState)
    : Type 0 where
  pub good : GoodPump t rolls total rto now s
  pub some : 0 < size
  pub short : size ≤ max_payload
  pub whole : total ≡ length (chunks_of size file)
