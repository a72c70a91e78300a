-- Document 01, demand 3, in a run: a flipped copy has a bit turned over, not in the length bytes. The channel picks the
-- byte by its rolls; this is what demand 3 asks of them, by the run's events: these stand in the order of the packets,
-- and each packet took the next eight forward rolls.
use Rattle.std.specs.Prelude.{ℕ, ◌+◌, ◌≡◌, true, List, [], ◌∷◌, Float, length, get_or}
use Rattle.bounds.specs.Bounds.{header_size}
use Rattle.channel.specs.Faults.{is_corrupted, byte_at}
use Rattle.channel.specs.declared.ChannelConfig.{ChannelConfig}
use Rattle.channel.specs.declared.Rolls.{Rolls}
use Rattle.path.specs.Rolls.{packet_rolls, rolls_at}
use Rattle.events.specs.Events.{ForwardEvent}

-- which bytes may be hit: not the length field
abbrev pub MayFlip : ℕ → Type 0
MayFlip j = (j ≡ 6 → ⊥) × (j ≡ 7 → ⊥)

-- the length of the packet of a number
abbrev pub packet_length : List (List ℕ) → ℕ → ℕ
packet_length chunks seq = header_size + length (get_or chunks seq [])

-- if the channel corrupts a packet of n bytes by these rolls, the byte that it picks may be hit
abbrev pub PickMayFlip : ChannelConfig → Rolls → ℕ → Type 0
PickMayFlip c r n = is_corrupted c r n ≡ true → MayFlip (byte_at r n)

-- the events from the one on that took the rolls at `at`
abbrev pub FlipsFrom : ChannelConfig → List Float → List (List ℕ) → ℕ → List ForwardEvent → Type 0
FlipsFrom c rolls chunks at [] = Unit {0}
FlipsFrom c rolls chunks at (e ∷ events) =
    PickMayFlip c (rolls_at rolls at) (packet_length chunks e.seq)
    × FlipsFrom c rolls chunks (at + packet_rolls) events

-- of all events of a run with these chunks
pub record FlipsOutside (c : ChannelConfig) (rolls : List Float) (chunks : List (List ℕ)) (events : List ForwardEvent)
    : Type 0 where
  pub each : FlipsFrom c rolls chunks 0 events
