-- What one lost datagram costs Go-Back-N: window 2, two chunks of one byte, base delay 5 ms, the first datagram lost,
-- and the edition clock's numbers.
use Rattle.std.specs.Prelude.{ℕ, ◌*◌, ◌≡◌, true, [], ◌∷◌, replicate, Ok}
use Rattle.bounds.specs.Bounds.{slot_size, place_size}
use Rattle.rows.specs.Rows.{vacant}
use Rattle.schedule.specs.Record as scheduled
use Rattle.rtt.specs.Rtt.{zero64, one64, eighth64, quarter64, four64}
use Rattle.protocol.specs.declared.ProtocolType.TheVariants.{GoBackN}
use Rattle.setup.specs.declared.ClockChoice.{ClockChoice}
use Rattle.setup.specs.declared.TransferConfig.{TransferConfig}
use Rattle.step.specs.State.{Given, given, Lent, lent}
use Rattle.transfer.specs.Transfer.{default_ceilings, run_transfer}
use Rattle.transfer.specs.declared.Outcome.{Outcome}
use Rattle.edition_clock.specs.Section5.{min_rto, max_rto}

-- a roll of 0 is below the chance of a loss, rolls of 1/4 aren't
unfoldable pub config : ClockChoice → TransferConfig
config clock = record {
  protocol = GoBackN;
  clock = clock;
  window_size = 2;
  chunk_size = 1;
  channel = record {
    loss = quarter64;
    duplicate = zero64;
    reorder = zero64;
    reorder_extra_ms = 0;
    corrupt = zero64;
    base_delay_ms = 5;
    jitter_ms = 0;
  };
  rto = record {
    initial_rto = min_rto;
    min_rto = min_rto;
    max_rto = max_rto;
    granularity = 1000000;
    alpha = eighth64;
    beta = quarter64;
    k = four64;
    rto_multiplier = one64;
  };
  max_virtual_time = max_rto;
  max_retransmissions = 3;
}

unfoldable pub file : Given
file = given (65 ∷ 66 ∷ []) (zero64 ∷ replicate 31 quarter64) (replicate 16 quarter64)

unfoldable pub memory : Lent
memory =
    lent (replicate (2 * slot_size) 0) [] (0 ∷ 0 ∷ []) (replicate 2 vacant) (replicate 4 vacant)
    (replicate 2 scheduled.vacant) (replicate (2 * place_size) 0) (replicate 2 scheduled.vacant)
    (replicate (2 * place_size) 0) [] []

-- `run_transfer` delivers the file at this time
pub record Delivers (clock : ClockChoice) (time : ℕ) : Type 0 where
  pub outcome : Outcome
  pub answered : (run_transfer default_ceilings (config clock) file memory).answer ≡ Ok outcome
  pub completed : outcome.completed ≡ true
  pub finished : outcome.finished_at ≡ time
