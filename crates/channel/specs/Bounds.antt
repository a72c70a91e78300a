-- Document 01, "Bounds of a setup" and "Turned away", checks 4, 5, 8, 9 and 11 of a channel.
use Rattle.std.specs.Prelude.{ℕ, Bool, not, ◌||◌, T, ltb, Float}
use Rattle.std.specs.Float.{binary64}
use Rattle.std.specs.Float.Ieee.{fits}
use Rattle.bounds.specs.Bounds.{max_setup_delay}
use Rattle.refusal.specs.Counts.{count_full}
use Rattle.float.specs.Roll.{roll_in_bounds, chance_in_bounds}
use Rattle.channel.specs.declared.ChannelConfig.{ChannelConfig}
use Rattle.channel.specs.declared.ChannelStats.{ChannelStats}
use Rattle.channel.specs.declared.Rolls.{Rolls}

-- a chance out of bounds
abbrev pub chances_broken : Float → Float → Float → Float → Bool
chances_broken a b c d =
    not (chance_in_bounds a) || (not (chance_in_bounds b) || (not (chance_in_bounds c) || not (chance_in_bounds d)))

-- a delay of a setup above its bound
abbrev pub delays_broken : ℕ → ℕ → ℕ → Bool
delays_broken a b c = ltb max_setup_delay a || (ltb max_setup_delay b || ltb max_setup_delay c)

unfoldable pub config_broken : ChannelConfig → Bool
config_broken c =
    chances_broken c.loss c.duplicate c.reorder c.corrupt
    || delays_broken c.reorder_extra_ms c.base_delay_ms c.jitter_ms

-- check 8 of three counters
abbrev pub any_count_full : ℕ → ℕ → ℕ → Bool
any_count_full a b c = count_full a || (count_full b || count_full c)

unfoldable pub stats_full : ChannelStats → Bool
stats_full s =
    any_count_full s.packets_seen s.lost s.corrupted
    || any_count_full s.duplicated s.reordered s.copies_delivered

-- a roll out of bounds
abbrev pub any_roll_broken : Float → Float → Float → Float → Bool
any_roll_broken a b c d =
    not (roll_in_bounds a) || (not (roll_in_bounds b) || (not (roll_in_bounds c) || not (roll_in_bounds d)))

unfoldable pub rolls_broken : Rolls → Bool
rolls_broken r =
    any_roll_broken r.loss_roll r.dup_roll r.reorder_roll r.corrupt_roll
    || any_roll_broken r.byte_roll r.bit_roll r.jitter_roll r.dup_jitter_roll

-- the rolls that are scaled are doubles
pub record Doubles (r : Rolls) : Type 0 where
  pub byte : T (fits binary64 r.byte_roll)
  pub bit : T (fits binary64 r.bit_roll)
  pub jitter : T (fits binary64 r.jitter_roll)
  pub dup_jitter : T (fits binary64 r.dup_jitter_roll)
