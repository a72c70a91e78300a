-- The setup of a run in lent numbers, 13 at least, and lent doubles, eight at least.
-- Numbers: 0 the protocol (1 Stop-and-Wait, 2 Go-Back-N, 3 Selective Repeat), 1 the clock (1 the source's timing, 2 the
-- edition clock), 2 window_size, 3 chunk_size; of the channel 4 reorder_extra_ms, 5 base_delay_ms, 6 jitter_ms; of the
-- estimator 7 initial_rto, 8 min_rto, 9 max_rto, 10 granularity; 11 max_virtual_time, 12 max_retransmissions.
-- Doubles: 0 loss, 1 duplicate, 2 reorder, 3 corrupt, 4 alpha, 5 beta, 6 k, 7 rto_multiplier.
use Rattle.std.specs.Prelude.{ℕ, ◌≤◌, List, [], ◌∷◌, Bool, cond, length, get_or, ltb, eqb, Float, Err, Ok, Result}
use Rattle.std.specs.Float.{nan}
use Rattle.refusal.specs.Clauses.{any_of}
use Rattle.refusal.specs.declared.Refusal.TheVariants.{State, Setup}
use Rattle.protocol.specs.declared.ProtocolType.{ProtocolType}
use Rattle.protocol.specs.declared.ProtocolType.TheVariants as protocol
use Rattle.channel.specs.declared.ChannelConfig.{ChannelConfig}
use Rattle.rto.specs.declared.RtoConfig.{RtoConfig}
use Rattle.setup.specs.declared.ClockChoice.{ClockChoice}
use Rattle.setup.specs.declared.ClockChoice.TheVariants as clock
use Rattle.setup.specs.declared.TransferConfig.{TransferConfig}
use Rattle.refusal.specs.declared.Refusal.{Refusal}

abbrev pub setup_numbers : ℕ
setup_numbers = 13

abbrev pub setup_doubles : ℕ
setup_doubles = 8

abbrev pub channel_in : List ℕ → List Float → ChannelConfig
channel_in s d =
    record {
      loss = get_or d 0 nan;
      duplicate = get_or d 1 nan;
      reorder = get_or d 2 nan;
      reorder_extra_ms = get_or s 4 0;
      corrupt = get_or d 3 nan;
      base_delay_ms = get_or s 5 0;
      jitter_ms = get_or s 6 0;
    }

abbrev pub rto_in : List ℕ → List Float → RtoConfig
rto_in s d =
    record {
      initial_rto = get_or s 7 0;
      min_rto = get_or s 8 0;
      max_rto = get_or s 9 0;
      granularity = get_or s 10 0;
      alpha = get_or d 4 nan;
      beta = get_or d 5 nan;
      k = get_or d 6 nan;
      rto_multiplier = get_or d 7 nan;
    }

abbrev pub config_in : List ℕ → List Float → ProtocolType → ClockChoice → TransferConfig
config_in s d p c =
    record {
      protocol = p;
      clock = c;
      window_size = get_or s 2 0;
      chunk_size = get_or s 3 0;
      channel = channel_in s d;
      rto = rto_in s d;
      max_virtual_time = get_or s 11 0;
      max_retransmissions = get_or s 12 0;
    }

-- by the clock's number
unfoldable pub by_clock : List ℕ → List Float → ProtocolType → Result TransferConfig Refusal
by_clock s d p =
    cond (eqb (get_or s 1 0) 1) (Ok (config_in s d p clock.Source))
    (cond (eqb (get_or s 1 0) 2) (Ok (config_in s d p clock.Edition)) (Err Setup))

-- 9 too few numbers or doubles; then 4 an unknown protocol or clock
unfoldable pub setup_short : List ℕ → List Float → Bool
setup_short s d = any_of (ltb (length s) setup_numbers ∷ ltb (length d) setup_doubles ∷ [])

unfoldable pub read_setup : List ℕ → List Float → Result TransferConfig Refusal
read_setup s d =
    cond (setup_short s d) (Err State)
    (cond (eqb (get_or s 0 0) 1) (by_clock s d protocol.StopAndWait)
    (cond (eqb (get_or s 0 0) 2) (by_clock s d protocol.GoBackN)
    (cond (eqb (get_or s 0 0) 3) (by_clock s d protocol.SelectiveRepeat) (Err Setup))))

-- what the functions below the entry point ask
pub record Long (s : List ℕ) (d : List Float) : Type 0 where
  pub numbers : setup_numbers ≤ length s
  pub doubles : setup_doubles ≤ length d
