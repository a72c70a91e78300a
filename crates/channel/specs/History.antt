-- Document 01, "Links that would ruin a book" (tallies from the history of calls) and `channel/mod.rs`: the counters as
-- the calls and their rolls give them. The latest call stands first.
use Rattle.std.specs.Prelude.{ℕ, ◌+◌, Bool, true, false, cond, not, ◌||◌, ◌&&◌, List, [], ◌∷◌, length, ltb, Err, Ok}
use Rattle.std.specs.Prelude.{Result}
use Rattle.std.specs.Float.Ieee.{lt}
use Rattle.bounds.specs.Bounds.{max_datagram}
use Rattle.channel.specs.Bounds.{config_broken, stats_full, rolls_broken}
use Rattle.channel.specs.Process.{stats6, channel_of, process}
use Rattle.channel.specs.declared.ChannelConfig.{ChannelConfig}
use Rattle.channel.specs.declared.ChannelStats.{ChannelStats}
use Rattle.channel.specs.declared.Channel.{Channel}
use Rattle.channel.specs.declared.Rolls.{Rolls}
use Rattle.schedule.specs.declared.Deliveries.{Deliveries}
use Rattle.refusal.specs.declared.Refusal.{Refusal}

-- one call of `process`
pub record Call : Type 0 where
  pub packet : List ℕ
  pub rolls : Rolls
  pub out : List ℕ

-- the calls that pass a test, and how many they are
unfoldable pub filter : (Call → Bool) → List Call → List Call
filter p [] = []
filter p (x ∷ xs) = cond (p x) (x ∷ filter p xs) (filter p xs)

abbrev pub count : (Call → Bool) → List Call → ℕ
count p xs = length (filter p xs)

-- ---- what happens to a packet, by its rolls and its length alone
abbrev pub loses : ChannelConfig → Call → Bool
loses c x = lt x.rolls.loss_roll c.loss

abbrev pub corrupts : ChannelConfig → Call → Bool
corrupts c x = lt x.rolls.corrupt_roll c.corrupt && ltb 0 (length x.packet)

abbrev pub duplicates : ChannelConfig → Call → Bool
duplicates c x = lt x.rolls.dup_roll c.duplicate

abbrev pub reorders : ChannelConfig → Call → Bool
reorders c x = lt x.rolls.reorder_roll c.reorder

-- the packets that aren't lost
abbrev pub kept : ChannelConfig → List Call → List Call
kept c xs = filter (λ x. not (loses c x)) xs

-- the counters that a list of calls gives under a setup; a packet that isn't lost has one copy, a duplicated one two
abbrev pub tallies : ChannelConfig → List Call → ChannelStats
tallies c xs =
    record {
      packets_seen = length xs;
      lost = count (loses c) xs;
      corrupted = count (corrupts c) (kept c xs);
      duplicated = count (duplicates c) (kept c xs);
      reordered = count (reorders c) (kept c xs);
      copies_delivered = length (kept c xs) + count (duplicates c) (kept c xs);
    }

-- whether a call is refused, from the calls accepted before it alone: checks 9, 8, 11, 6 and 5
unfoldable pub turned_away : ChannelConfig → List Call → Call → Bool
turned_away c before x =
    config_broken c
    || (stats_full (tallies c before)
    || (rolls_broken x.rolls
    || (ltb max_datagram (length x.packet) || (not (loses c x) && ltb (length x.out) (length x.packet)))))

-- the accepted calls of a list
unfoldable pub accepted : ChannelConfig → List Call → List Call
accepted c [] = []
accepted c (x ∷ xs) = cond (turned_away c (accepted c xs) x) (accepted c xs) (x ∷ accepted c xs)

-- ---- the channel after a list of calls from one just made, each of which finds it as the last one left it
unfoldable pub after_calls : ChannelConfig → List Call → Channel
after_calls c [] = channel_of c (stats6 0 0 0 0 0 0)
after_calls c (x ∷ xs) = (process (after_calls c xs) x.packet x.rolls x.out).result.channel

abbrev pub is_refused : Result Deliveries Refusal → Bool
is_refused (Ok d) = false
is_refused (Err r) = true
