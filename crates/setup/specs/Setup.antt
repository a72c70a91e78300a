-- Document 01, "Bounds of a setup", "The edition clock" and "Turned away": what a run refuses at its start, by checks
-- 9, 11, 4 and 5.
use Rattle.std.specs.Prelude.{ℕ, ◌*◌, ◌≤◌, ◌≡◌, Bool, true, false, not, ◌||◌, ◌&&◌, List, [], ◌∷◌, ltb, eqb, length}
use Rattle.std.specs.Prelude.{Float}
use Rattle.std.specs.Float.Ieee.{eq}
use Rattle.bounds.specs.Bounds.{max_payload, max_chunks, max_duration, max_window, slot_size}
use Rattle.refusal.specs.Order.{Check, check}
use Rattle.refusal.specs.declared.Refusal.TheVariants.{State, Roll, Setup, Full}
use Rattle.protocol.specs.declared.ProtocolType.{ProtocolType}
use Rattle.protocol.specs.declared.ProtocolType.TheVariants.{StopAndWait, GoBackN, SelectiveRepeat}
use Rattle.window.specs.State.{window_broken, store_short}
use Rattle.channel.specs.Bounds.{config_broken}
use Rattle.rtt.specs.Rtt.{one64, eighth64, quarter64, four64}
use Rattle.rto.specs.Rto.{config_in_bounds}
use Rattle.rto.specs.declared.RtoConfig.{RtoConfig}
use Rattle.path.specs.Rolls.{rolls_broken}
use Rattle.chunks.specs.Chunks.{chunks_of}
use Rattle.setup.specs.declared.ClockChoice.{ClockChoice}
use Rattle.setup.specs.declared.ClockChoice.TheVariants.{Source, Edition}
use Rattle.setup.specs.declared.TransferConfig.{TransferConfig}

-- what a run is given and lent at its start, as far as it is looked at
pub record Start : Type 0 where
  pub config : TransferConfig
  pub file : List ℕ
  pub forward_rolls : List Float
  pub reverse_rolls : List Float
  pub sender_store : List ℕ
  pub receiver_store : List ℕ
  pub output : List ℕ
  pub notes : List (List ℕ)
  pub keys : List ℕ
  pub deadlines : List ℕ

abbrev pub start : TransferConfig → List ℕ → List Float → List Float → List ℕ → List ℕ → List ℕ → List (List ℕ)
    → List ℕ → List ℕ → Start
start config file forward reverse sender receiver output notes keys deadlines = record {
  config = config;
  file = file;
  forward_rolls = forward;
  reverse_rolls = reverse;
  sender_store = sender;
  receiver_store = receiver;
  output = output;
  notes = notes;
  keys = keys;
  deadlines = deadlines;
}

-- ---- 9: a sender's slots, one in Stop-and-Wait; a receiver's in Selective Repeat, the others have none
abbrev pub stores_short : ProtocolType → ℕ → List ℕ → List ℕ → Bool
stores_short StopAndWait w sender receiver = store_short sender 1
stores_short GoBackN w sender receiver = store_short sender w
stores_short SelectiveRepeat w sender receiver = store_short sender w || store_short receiver w

unfoldable pub state_broken : TransferConfig → List ℕ → List ℕ → List ℕ → List ℕ → Bool
state_broken c sender receiver keys deadlines =
    not (eqb (length keys) (length deadlines))
    || stores_short c.protocol c.window_size sender receiver

-- ---- 4: a bound of the setup or of the file's chunks
abbrev pub chunks_broken : ℕ → List ℕ → Bool
chunks_broken c file = ltb c 1 || (ltb max_payload c || ltb max_chunks (length (chunks_of c file)))

-- the edition clock's setup: 1 s, 1 s, 60 s and 1 ms; 1/8, 1/4, 4 and 1
abbrev pub edition_times : RtoConfig → Bool
edition_times c =
    eqb c.initial_rto 1000000000
    && (eqb c.min_rto 1000000000 && (eqb c.max_rto 60000000000 && eqb c.granularity 1000000))

abbrev pub edition_factors : RtoConfig → Bool
edition_factors c =
    eq c.alpha eighth64 && (eq c.beta quarter64 && (eq c.k four64 && eq c.rto_multiplier one64))

abbrev pub is_edition : RtoConfig → Bool
is_edition c = edition_times c && edition_factors c

-- on the edition clock any other setup is broken, and Selective Repeat with every setup
unfoldable pub clock_broken : ClockChoice → ProtocolType → RtoConfig → Bool
clock_broken Source p c = false
clock_broken Edition StopAndWait c = not (is_edition c)
clock_broken Edition GoBackN c = not (is_edition c)
clock_broken Edition SelectiveRepeat c = true

unfoldable pub setup_broken : TransferConfig → List ℕ → Bool
setup_broken c file =
    window_broken c.window_size
    || (chunks_broken c.chunk_size file
    || (config_broken c.channel
    || (not (config_in_bounds c.rto)
    || (ltb max_duration c.max_virtual_time
    || clock_broken c.clock c.protocol c.rto))))

-- ---- 5: output shorter than the file, notes fewer than the chunks, in Selective Repeat timers fewer than the window
abbrev pub timers_short : ProtocolType → ℕ → List ℕ → Bool
timers_short StopAndWait w keys = false
timers_short GoBackN w keys = false
timers_short SelectiveRepeat w keys = ltb (length keys) w

unfoldable pub room_missing : TransferConfig → List ℕ → List ℕ → List (List ℕ) → List ℕ → Bool
room_missing c file output notes keys =
    ltb (length output) (length file)
    || (ltb (length notes) (length (chunks_of c.chunk_size file))
    || timers_short c.protocol c.window_size keys)

-- ---- the four checks of a start
abbrev pub start_state : Start → Bool
start_state s = state_broken s.config s.sender_store s.receiver_store s.keys s.deadlines

abbrev pub start_rolls : Start → Bool
start_rolls s = rolls_broken s.forward_rolls || rolls_broken s.reverse_rolls

abbrev pub start_setup : Start → Bool
start_setup s = setup_broken s.config s.file

abbrev pub start_room : Start → Bool
start_room s = room_missing s.config s.file s.output s.notes s.keys

abbrev pub start_checks : Start → List Check
start_checks s =
    check (start_state s) State ∷ check (start_rolls s) Roll ∷ check (start_setup s) Setup
    ∷ check (start_room s) Full ∷ []

-- ---- what a start asks
abbrev pub sender_slots : ProtocolType → ℕ → ℕ
sender_slots StopAndWait w = 1
sender_slots GoBackN w = w
sender_slots SelectiveRepeat w = w

-- a setup and a file within bounds, rolls in bounds, slices long enough
pub record CanStart (s : Start) : Type 0 where
  pub timers_alike : length s.keys ≡ length s.deadlines
  pub sender_room : sender_slots s.config.protocol s.config.window_size * slot_size ≤ length s.sender_store
  pub receiver_room : s.config.protocol ≡ SelectiveRepeat
      → s.config.window_size * slot_size ≤ length s.receiver_store
  pub forward_rolls : rolls_broken s.forward_rolls ≡ false
  pub reverse_rolls : rolls_broken s.reverse_rolls ≡ false
  pub window_some : 1 ≤ s.config.window_size
  pub window_small : s.config.window_size ≤ max_window
  pub chunk_some : 1 ≤ s.config.chunk_size
  pub chunk_small : s.config.chunk_size ≤ max_payload
  pub chunks_few : length (chunks_of s.config.chunk_size s.file) ≤ max_chunks
  pub channel_fine : config_broken s.config.channel ≡ false
  pub rto_fine : config_in_bounds s.config.rto ≡ true
  pub time_short : s.config.max_virtual_time ≤ max_duration
  pub clock_fine : clock_broken s.config.clock s.config.protocol s.config.rto ≡ false
  pub output_room : length s.file ≤ length s.output
  pub notes_room : length (chunks_of s.config.chunk_size s.file) ≤ length s.notes
  pub timers_room : s.config.protocol ≡ SelectiveRepeat → s.config.window_size ≤ length s.keys
