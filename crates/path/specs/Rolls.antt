-- Document 01, "What the Rust forms turn into" (`StdRng`): the rolls of one direction; which of them a packet takes.
use Rattle.std.specs.Prelude.{ℕ, ◌+◌, ◌*◌, ◌^◌, ◌<◌, Bool, false, not, ◌||◌, List, [], ◌∷◌, length, get_or, T, Float}
use Rattle.std.specs.Float.{nan, binary64}
use Rattle.std.specs.Float.Ieee.{fits}
use Rattle.float.specs.Roll.{roll_in_bounds}
use Rattle.channel.specs.declared.Rolls.{Rolls}

-- how many rolls a packet takes
abbrev pub packet_rolls : ℕ
packet_rolls = 8

abbrev pub roll_at : List Float → ℕ → Float
roll_at rolls i = get_or rolls i nan

-- those from `at` on, in the source's order
unfoldable pub rolls_at : List Float → ℕ → Rolls
rolls_at rolls at =
    record {
      loss_roll = roll_at rolls at;
      dup_roll = roll_at rolls (at + 1);
      reorder_roll = roll_at rolls (at + 2);
      corrupt_roll = roll_at rolls (at + 3);
      byte_roll = roll_at rolls (at + 4);
      bit_roll = roll_at rolls (at + 5);
      jitter_roll = roll_at rolls (at + 6);
      dup_jitter_roll = roll_at rolls (at + 7);
    }

-- check 11 of a run: one of its rolls is out of bounds
unfoldable pub rolls_broken : List Float → Bool
rolls_broken [] = false
rolls_broken (x ∷ xs) = not (roll_in_bounds x) || rolls_broken xs

-- what a slice of doubles is by its type: its elements are doubles, and it takes fewer than 2^63 bytes
pub record Doubles (rolls : List Float) : Type 0 where
  pub each : (i : ℕ) → i < length rolls → T (fits binary64 (roll_at rolls i))
  pub size : length rolls * 8 < 2 ^ 63
