-- Whole calls, by computation: a packet lost, one duplicated and held back, one corrupted; and the counters after the three.
use Rattle.std.specs.Prelude.{Ok}
use mathlib.Core.Path.{◌≡◌, refl}
use Prim.Native.Nat.{ℕ}
use mathlib.Core.Bool.{true, false}
use mathlib.Core.List.{List, [], ◌∷◌}
use lib.IntN.{pos, negsuc}
use lib.Ieee.{Float, fin, mul, of_int, to_unsigned, le, lt}
use Rattle.refusal.specs.Order.{order, or_else, numbered, first_of, verdict, decide}
use Rattle.octets.specs.Flip.{flip}
use Rattle.schedule.specs.declared.Deliveries.{Deliveries}
use Rattle.schedule.specs.declared.Deliveries.TheVariants.{Lost, One, Two}
use Rattle.channel.specs.Bounds.{config_broken, stats_full, rolls_broken}
use Rattle.channel.specs.Faults.{is_lost, is_duplicated, is_reordered, is_corrupted, carried_bytes, deliveries_of}
use Rattle.channel.specs.Process.{stats6, channel_of, counted_stats, process_unchecked, ProcessExit, process_exit, process}
use Rattle.channel.specs.History.{Call, filter, turned_away, accepted, after_calls}
use Rattle.channel.specs.declared.ChannelConfig.{ChannelConfig}
use Rattle.channel.specs.declared.ChannelStats.{ChannelStats}
use Rattle.channel.specs.declared.Channel.{Channel}
use Rattle.channel.specs.declared.Rolls.{Rolls}
use Rattle.channel.proofs.Tallies.{history}
use Rattle.channel.proofs.NoFaults.{zero, CarriedWhole, carried_whole}

abbrev none : Float
none = fin false 0 (pos 0)

abbrev quarter : Float
quarter = fin false 1 (negsuc 1)

abbrev half : Float
half = fin false 1 (negsuc 0)

-- J1's roll
abbrev two_thirds : Float
two_thirds = fin false 6004799503160661 (negsuc 52)

-- all chances 1/2; hold 30 ms, base delay 5 ms, jitter 2 ms
abbrev setup : ChannelConfig
setup = record { loss = half; duplicate = half; reorder = half; reorder_extra_ms = 30; corrupt = half; base_delay_ms = 5; jitter_ms = 2 }

abbrev rolls8 : Float → Float → Float → Float → Float → Float → Float → Float → Rolls
rolls8 l d o c y i j k = record { loss_roll = l; dup_roll = d; reorder_roll = o; corrupt_roll = c; byte_roll = y; bit_roll = i; jitter_roll = j; dup_jitter_roll = k }

-- every roll below its chance
abbrev lost_rolls : Rolls
lost_rolls = rolls8 quarter none none none none none none none

-- held back too; the first copy's jitter is 2 ms, the other's 0
abbrev duplicated_rolls : Rolls
duplicated_rolls = rolls8 half quarter quarter half none none two_thirds none

-- bit 2 of byte 1: the picks differ, and so do those of the two rolls swapped; jitter 1 ms
abbrev corrupted_rolls : Rolls
corrupted_rolls = rolls8 half half half quarter half quarter half half

abbrev made : Channel
made = channel_of setup (stats6 0 0 0 0 0 0)

abbrev delivers : List ℕ → ChannelStats → Deliveries → ProcessExit
delivers out s ds = process_exit out (record { channel = channel_of setup s; answer = Ok ds })

pub record ChannelRows : Type 0 where
  pub lost : process made (0x41 ∷ 0x42 ∷ []) lost_rolls (7 ∷ 8 ∷ 9 ∷ []) ≡ delivers (7 ∷ 8 ∷ 9 ∷ []) (stats6 1 1 0 0 0 0) Lost
  pub duplicated : process made (0x41 ∷ 0x42 ∷ []) duplicated_rolls (7 ∷ 8 ∷ 9 ∷ []) ≡ delivers (0x41 ∷ 0x42 ∷ 9 ∷ []) (stats6 1 0 0 1 1 2) (Two 37 35)
  pub corrupted : process made (0x41 ∷ 0x42 ∷ []) corrupted_rolls (7 ∷ 8 ∷ 9 ∷ []) ≡ delivers (0x41 ∷ 0x46 ∷ 9 ∷ []) (stats6 1 0 1 0 0 1) (One 6)

pub channel_rows : ChannelRows
unfolding le lt mul of_int to_unsigned flip order or_else numbered first_of verdict decide config_broken stats_full rolls_broken is_lost is_duplicated is_reordered is_corrupted carried_bytes deliveries_of counted_stats process_unchecked process
channel_rows = record { lost = refl; duplicated = refl; corrupted = refl }

-- the latest call stands first
abbrev call_of : Rolls → Call
call_of r = record { packet = 0x41 ∷ 0x42 ∷ []; rolls = r; out = 7 ∷ 8 ∷ 9 ∷ [] }

abbrev calls : List Call
calls = call_of corrupted_rolls ∷ call_of duplicated_rolls ∷ call_of lost_rolls ∷ []

pub three_calls : after_calls setup calls ≡ channel_of setup (stats6 3 1 1 1 1 3)
unfolding le lt config_broken stats_full rolls_broken filter turned_away accepted
three_calls = history setup calls

-- all chances 0.0, one of them -0.0: the rolls that else lose the packet carry it whole, once
abbrev quiet : ChannelConfig
quiet = record { loss = none; duplicate = none; reorder = fin true 0 (pos 0); reorder_extra_ms = 30; corrupt = none; base_delay_ms = 5; jitter_ms = 2 }

quiet_whole : CarriedWhole quiet lost_rolls
unfolding le lt rolls_broken
quiet_whole = carried_whole quiet lost_rolls (record { loss = zero false; duplicate = zero false; reorder = zero true; corrupt = zero false }) refl

pub quiet_once : (deliveries_of quiet lost_rolls ≡ One 5) × (carried_bytes quiet lost_rolls (0x41 ∷ 0x42 ∷ []) ≡ 0x41 ∷ 0x42 ∷ [])
unfolding mul of_int to_unsigned
quiet_once = (quiet_whole.once, quiet_whole.bytes (0x41 ∷ 0x42 ∷ []))
