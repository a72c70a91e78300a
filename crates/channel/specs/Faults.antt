-- Document 01, `channel/mod.rs`: what the setup, the eight rolls and the length alone decide about a packet.
use Rattle.std.specs.Prelude.{ℕ, ◌+◌, Bool, cond, not, ◌&&◌, List, length, ltb, Float}
use Rattle.std.specs.Float.Ieee.{lt}
use Rattle.float.specs.Roll.{scaled}
use Rattle.octets.specs.Flip.{flip}
use Rattle.schedule.specs.declared.Deliveries.{Deliveries}
use Rattle.schedule.specs.declared.Deliveries.TheVariants.{Lost, One, Two}
use Rattle.channel.specs.declared.ChannelConfig.{ChannelConfig}
use Rattle.channel.specs.declared.Rolls.{Rolls}

unfoldable pub is_lost : ChannelConfig → Rolls → Bool
is_lost c r = lt r.loss_roll c.loss

-- a packet that isn't lost may be duplicated, held back, corrupted; an empty one has no bit to turn over
unfoldable pub is_duplicated : ChannelConfig → Rolls → Bool
is_duplicated c r = not (is_lost c r) && lt r.dup_roll c.duplicate

unfoldable pub is_reordered : ChannelConfig → Rolls → Bool
is_reordered c r = not (is_lost c r) && lt r.reorder_roll c.reorder

unfoldable pub is_corrupted : ChannelConfig → Rolls → ℕ → Bool
is_corrupted c r n = not (is_lost c r) && (lt r.corrupt_roll c.corrupt && ltb 0 n)

-- which byte of n, and which of its bits
abbrev pub byte_at : Rolls → ℕ → ℕ
byte_at r n = scaled r.byte_roll n

abbrev pub bit_at : Rolls → ℕ
bit_at r = scaled r.bit_roll 8

-- the bytes of a packet's copies
unfoldable pub carried_bytes : ChannelConfig → Rolls → List ℕ → List ℕ
carried_bytes c r p = cond (is_corrupted c r (length p)) (flip p (byte_at r (length p)) (bit_at r)) p

abbrev pub hold_of : ChannelConfig → Rolls → ℕ
hold_of c r = cond (is_reordered c r) c.reorder_extra_ms 0

-- base, jitter ("roll times (jitter + 1)", cut) and hold, in milliseconds
abbrev pub delay_of : ChannelConfig → Rolls → Float → ℕ
delay_of c r roll = c.base_delay_ms + scaled roll (c.jitter_ms + 1) + hold_of c r

-- the delays of the copies that the rolls grant
unfoldable pub deliveries_of : ChannelConfig → Rolls → Deliveries
deliveries_of c r =
    cond (is_lost c r) Lost
    (cond (is_duplicated c r)
    (Two (delay_of c r r.jitter_roll) (delay_of c r r.dup_jitter_roll))
    (One (delay_of c r r.jitter_roll)))
