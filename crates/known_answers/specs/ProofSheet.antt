-- Document 01, "Proof sheet": its rows in its order, each a call of an entry point's definition with all that it
-- answers and leaves behind.
use Rattle.std.specs.Prelude.{ℕ, ◌*◌, ◌≡◌, true, false, List, [], ◌∷◌, ◌++◌, replicate, pos, negsuc, Float, Err, None}
use Rattle.std.specs.Prelude.{Ok, Option, Some}
use Rattle.std.specs.Float.{fin}
use Rattle.bounds.specs.Bounds.{header_size, slot_size}
use Rattle.refusal.specs.declared.Refusal.TheVariants.{Short, Kind, Cut}
use Rattle.packet.specs.Format.{new_packet, made}
use Rattle.packet.specs.Reading.{from_bytes, payload_of, validity}
use Rattle.packet.specs.Writing.{compute_checksum}
use Rattle.packet.specs.declared.PacketType.TheVariants.{Data, Ack}
use Rattle.schedule.specs.declared.Deliveries.TheVariants.{One}
use Rattle.channel.specs.Process.{stats6, channel_of, process_exit, process}
use Rattle.channel.specs.declared.ChannelConfig.{ChannelConfig}
use Rattle.channel.specs.declared.Rolls.{Rolls}
use Rattle.rtt.specs.Rtt.{zero64, one64, eighth64, quarter64, four64}
use Rattle.rto.specs.Rto.{fresh, update_result, update_rtt, timeout_result, on_timeout}
use Rattle.rto.specs.declared.RtoConfig.{RtoConfig}
use Rattle.rto.specs.declared.RtoEstimator.{RtoEstimator}
use Rattle.rto.specs.declared.RtoStats.{RtoStats}
use Rattle.receiver.specs.Receive.{ReceiveExit, receive_exit}
use Rattle.selective_repeat.specs.Receiver as selective_repeat
use Rattle.selective_repeat.specs.declared.SelectiveRepeatReceiver.{SelectiveRepeatReceiver}
use Rattle.go_back_n.specs.Receiver as go_back_n
use Rattle.stop_and_wait.specs.Receiver as stop_and_wait

-- K4's bytes, with byte 7 as given
abbrev pub k4 : ℕ → List ℕ
k4 b = 0x00 ∷ 0x00 ∷ 0x00 ∷ 0x00 ∷ 0x01 ∷ 0x00 ∷ 0x00 ∷ b ∷ 0xFE ∷ 0xFF ∷ 0xFF ∷ 0xFD ∷ []

-- J1: a channel with jitter 2 and nothing else, and J1's roll where jitter is rolled, 0 elsewhere
abbrev pub jitter_two : ChannelConfig
jitter_two =
    record {
      loss = zero64;
      duplicate = zero64;
      reorder = zero64;
      reorder_extra_ms = 0;
      corrupt = zero64;
      base_delay_ms = 0;
      jitter_ms = 2;
    }

abbrev pub j1_rolls : Rolls
j1_rolls =
    record {
      loss_roll = zero64;
      dup_roll = zero64;
      reorder_roll = zero64;
      corrupt_roll = zero64;
      byte_roll = zero64;
      bit_roll = zero64;
      jitter_roll = fin false 6004799503160661 (negsuc 52);
      dup_jitter_roll = zero64;
    }

-- R1 and R2: k 4, granularity 1 ms, multiplier 1, and these limits
abbrev pub limits : ℕ → ℕ → RtoConfig
limits lo hi =
    record {
      initial_rto = 1000000000;
      min_rto = lo;
      max_rto = hi;
      granularity = 1000000;
      alpha = eighth64;
      beta = quarter64;
      k = four64;
      rto_multiplier = one64;
    }

-- an estimator that has sampled this once, or nothing, and timed out so often
abbrev pub stats : Option ℕ → ℕ → Float → ℕ → RtoStats
stats rtt samples sum timeouts =
    record {
      sample_count = samples;
      karn_rejected_count = 0;
      timeout_count = timeouts;
      backoff_count = timeouts;
      min_rtt = rtt;
      max_rtt = rtt;
      sum_rtt_millis = sum;
      latest_rtt = rtt;
      max_consecutive_timeouts = timeouts;
    }

-- R1: the estimator after the sample of 100 ms, with this RTO; the sum of the samples is the double 100
abbrev pub sampled100 : RtoConfig → ℕ → RtoEstimator
sampled100 c rto =
    record {
      config = c;
      srtt = Some 100000000;
      rttvar = Some 50000000;
      current_rto = rto;
      base_rto = rto;
      in_backoff = false;
      consecutive_timeouts = 0;
      stats = stats (Some 100000000) 1 (fin false 25 (pos 2)) 0;
    }

-- R2: the estimator at 300 ms, and after the timeout
abbrev pub at300 : RtoConfig → RtoEstimator
at300 c =
    record {
      config = c;
      srtt = None;
      rttvar = None;
      current_rto = 300000000;
      base_rto = 300000000;
      in_backoff = false;
      consecutive_timeouts = 0;
      stats = stats None 0 zero64 0;
    }

abbrev pub backed_off : RtoConfig → ℕ → RtoEstimator
backed_off c rto =
    record {
      config = c;
      srtt = None;
      rttvar = None;
      current_rto = rto;
      base_rto = 300000000;
      in_backoff = true;
      consecutive_timeouts = 1;
      stats = stats None 0 zero64 1;
    }

-- S1 to S3: Data with one byte, the buffer for an ACK, and the ACK that is written to it
abbrev pub data_of : ℕ → List ℕ
data_of n = made (new_packet n Data) (0x41 ∷ [])

abbrev pub no_ack : List ℕ
no_ack = replicate header_size 0

abbrev pub ack_of : ℕ → List ℕ
ack_of n = made (new_packet n Ack) []

-- S1 and S2: a receiver with window 4; what it holds, and what it has counted
abbrev pub empty_store : List ℕ
empty_store = replicate (4 * slot_size) 0

abbrev pub three_held : List ℕ
three_held = replicate (3 * slot_size) 0 ++ (0 ∷ 1 ∷ 1 ∷ 0 ∷ 0x41 ∷ replicate 1399 0)

abbrev pub window_four : ℕ → ℕ → ℕ → ℕ → SelectiveRepeatReceiver
window_four base received buffered duplicates =
    record {
      window_size = 4;
      recv_base = base;
      filled = 0;
      total_received = received;
      buffered_out_of_order = buffered;
      duplicates_count = duplicates;
    }

abbrev pub handed : ℕ → ℕ → ReceiveExit selective_repeat.Receiver
handed base n =
    selective_repeat.handle_packet (selective_repeat.receiver (window_four base 0 0 0) empty_store)
    (data_of n) [] no_ack

-- the table. K5 and K6 hold whatever the other bytes are
pub record ProofSheet : Type 0 where
  pub K1 : compute_checksum (new_packet 0 Data) [] ≡ Ok 0xFEFF
  pub K2 : compute_checksum (new_packet 0 Data) (0x41 ∷ []) ≡ Ok 0xBDFE
  pub K3 : compute_checksum (new_packet 0xFFFFFFFF Data) [] ≡ Ok 0xFEFF
  pub K4 : (validity (k4 0) ≡ Ok true) × (payload_of (k4 0) ≡ [])
      × (validity (k4 2) ≡ Ok true) × (payload_of (k4 2) ≡ 0xFF ∷ 0xFD ∷ [])
  pub K5 : ((a b c d e f g h i : ℕ)
      → from_bytes (a ∷ b ∷ c ∷ d ∷ e ∷ f ∷ g ∷ h ∷ i ∷ []) ≡ Err (Short 9))
      × ((a b c d f i j : ℕ)
      → from_bytes (a ∷ b ∷ c ∷ d ∷ 4 ∷ f ∷ 255 ∷ 255 ∷ i ∷ j ∷ []) ≡ Err (Kind 4))
  pub K6 : (a b c d f i j : ℕ) → from_bytes (a ∷ b ∷ c ∷ d ∷ 1 ∷ f ∷ 0 ∷ 1 ∷ i ∷ j ∷ []) ≡ Err (Cut 1 0)
  pub J1 : process (channel_of jitter_two (stats6 0 0 0 0 0 0)) (0x41 ∷ []) j1_rolls (0 ∷ [])
      ≡ process_exit (0x41 ∷ [])
      (record { channel = channel_of jitter_two (stats6 1 0 0 0 0 1); answer = Ok (One 2) })
  pub R1 : (update_rtt (fresh (limits 1000000 60000000000)) 100000000 false
      ≡ update_result (sampled100 (limits 1000000 60000000000) 300000000) (Ok true))
      × (update_rtt (fresh (limits 1000000000 60000000000)) 100000000 false
      ≡ update_result (sampled100 (limits 1000000000 60000000000) 1000000000) (Ok true))
  pub R2 : on_timeout (at300 (limits 1000000 500000000))
      ≡ timeout_result (backed_off (limits 1000000 500000000) 500000000) (Ok 500000000)
  pub S1 : (handed 0 3
      ≡ receive_exit (Ok (Some 3)) (selective_repeat.receiver (window_four 0 1 1 0) three_held) [] (ack_of 3))
      × (handed 0 4
      ≡ receive_exit (Ok None) (selective_repeat.receiver (window_four 0 1 0 0) empty_store) [] no_ack)
  pub S2 : (handed 6 2
      ≡ receive_exit (Ok (Some 2)) (selective_repeat.receiver (window_four 6 1 0 1) empty_store) [] (ack_of 2))
      × (handed 6 1
      ≡ receive_exit (Ok None) (selective_repeat.receiver (window_four 6 1 0 0) empty_store) [] no_ack)
  pub S3 : (go_back_n.handle_packet go_back_n.new_receiver (data_of 1) [] no_ack
      ≡ receive_exit (Ok None) (go_back_n.state 0 0 1 1 0) [] no_ack)
      × (stop_and_wait.handle_packet stop_and_wait.new_receiver (data_of 1) [] no_ack
      ≡ receive_exit (Ok (Some 0)) (stop_and_wait.state 0 0 1 0 0) [] (ack_of 0))
