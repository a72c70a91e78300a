-- Document 01, `channel/mod.rs` and "Turned away": what making a channel and handing it a packet answer and leave
-- behind.
use Rattle.std.specs.Prelude.{ℕ, ◌+◌, ◌≡◌, Bool, true, false, cond, not, ◌&&◌, List, [], ◌∷◌, ◌++◌, length, drop, ltb}
use Rattle.std.specs.Prelude.{Err, Ok, Result}
use Rattle.bounds.specs.Bounds.{max_datagram}
use Rattle.refusal.specs.Order.{Check, check, verdict, decide}
use Rattle.refusal.specs.declared.Refusal.TheVariants.{Setup, State, Counts, Roll, Long, Full}
use Rattle.schedule.specs.State.{copies}
use Rattle.channel.specs.Bounds.{config_broken, stats_full, rolls_broken}
use Rattle.channel.specs.Faults.{is_lost, is_duplicated, is_reordered, is_corrupted, carried_bytes, deliveries_of}
use Rattle.channel.specs.declared.ChannelConfig.{ChannelConfig}
use Rattle.channel.specs.declared.ChannelStats.{ChannelStats}
use Rattle.channel.specs.declared.Channel.{Channel}
use Rattle.channel.specs.declared.Rolls.{Rolls}
use Rattle.channel.specs.declared.ProcessResult.{ProcessResult}
use Rattle.channel.specs.declared.Transit.{Transit}
use Rattle.schedule.specs.declared.Deliveries.{Deliveries}
use Rattle.refusal.specs.declared.Refusal.{Refusal}

abbrev pub stats6 : ℕ → ℕ → ℕ → ℕ → ℕ → ℕ → ChannelStats
stats6 seen lost corrupted duplicated reordered delivered =
    record {
      packets_seen = seen;
      lost = lost;
      corrupted = corrupted;
      duplicated = duplicated;
      reordered = reordered;
      copies_delivered = delivered;
    }

abbrev pub channel_of : ChannelConfig → ChannelStats → Channel
channel_of c s = record { config = c; stats = s }

-- a channel that has seen no packet
abbrev pub new_channel_unchecked : ChannelConfig → Channel
new_channel_unchecked c = channel_of c (stats6 0 0 0 0 0 0)

unfoldable pub new_channel : ChannelConfig → Result Channel Refusal
new_channel c =
    decide (verdict (check (config_broken c) Setup ∷ [])) Err (Ok (new_channel_unchecked c))

abbrev pub one : Bool → ℕ
one true = 1
one false = 0

-- the counters after a packet of n bytes
unfoldable pub counted_stats : ChannelConfig → Rolls → ℕ → ChannelStats → ChannelStats
counted_stats c r n s =
    stats6 (s.packets_seen + 1) (s.lost + one (is_lost c r)) (s.corrupted + one (is_corrupted c r n))
    (s.duplicated + one (is_duplicated c r)) (s.reordered + one (is_reordered c r))
    (s.copies_delivered + copies (deliveries_of c r))

-- what a packet leaves in the lent buffer, and the result
pub record TransitExit : Type 0 where
  pub out : List ℕ
  pub result : Transit

abbrev pub transit_exit : List ℕ → Transit → TransitExit
transit_exit o t = record { out = o; result = t }

-- a lost packet writes nothing; the copies of any other have the same bytes
unfoldable pub process_unchecked : Channel → List ℕ → Rolls → List ℕ → TransitExit
process_unchecked ch p r out =
    let c = ch.config in
    transit_exit (cond (is_lost c r) out (carried_bytes c r p ++ drop (length p) out))
    (record { channel = channel_of c (counted_stats c r (length p) ch.stats); deliveries = deliveries_of c r })

pub record ProcessExit : Type 0 where
  pub out : List ℕ
  pub result : ProcessResult

abbrev pub process_exit : List ℕ → ProcessResult → ProcessExit
process_exit o p = record { out = o; result = p }

abbrev pub refused_exit : Channel → List ℕ → Result Deliveries Refusal → ProcessExit
refused_exit ch out a = process_exit out (record { channel = ch; answer = a })

abbrev pub transited : TransitExit → ProcessExit
transited x =
    process_exit x.out
    (record { channel = x.result.channel; answer = Ok x.result.deliveries })

-- check 5: a buffer shorter than the copy that is written to it
abbrev pub out_short : Channel → Rolls → ℕ → ℕ → Bool
out_short ch r n size = not (is_lost ch.config r) && ltb size n

-- the checks of `process`, of a packet of n bytes and a buffer of `size`
abbrev pub process_checks : Channel → Rolls → ℕ → ℕ → List Check
process_checks ch r n size =
    check (config_broken ch.config) State
    ∷ check (stats_full ch.stats) Counts
    ∷ check (rolls_broken r) Roll
    ∷ check (ltb max_datagram n) Long
    ∷ check (out_short ch r n size) Full
    ∷ []

unfoldable pub process : Channel → List ℕ → Rolls → List ℕ → ProcessExit
process ch p r out =
    decide (verdict (process_checks ch r (length p) (length out)))
    (λ x. refused_exit ch out (Err x))
    (transited (process_unchecked ch p r out))

-- what the call below the entry point takes for granted: the checks before it are false
pub record CanProcess (ch : Channel) (p : List ℕ) (r : Rolls) (out : List ℕ) : Type 0 where
  pub config : config_broken ch.config ≡ false
  pub counts : stats_full ch.stats ≡ false
  pub rolls : rolls_broken r ≡ false
  pub short : ltb max_datagram (length p) ≡ false
  pub room : out_short ch r (length p) (length out) ≡ false
