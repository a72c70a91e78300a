-- How far calls raise the counters: check 8 stays false of a channel whose counters are low enough for the calls to come.
use mathlib.Core.Path.{◌≡◌, refl, sym, ◌∙◌, ap}
use Prim.Native.Nat.{ℕ, ◌+◌, ◌*◌, ◌≤◌}
use native.Mathlib.Omega.{arith}
use mathlib.Core.Bool.{Bool, true, false}
use mathlib.Core.List.{List, [], ◌∷◌}
use lib.ListN.{length}
use Rattle.bounds.specs.Bounds.{count_limit}
use Rattle.schedule.specs.State.{copies}
use Rattle.channel.specs.Bounds.{stats_full}
use Rattle.channel.specs.Faults.{is_lost, is_duplicated, is_reordered, is_corrupted, deliveries_of}
use Rattle.channel.specs.Process.{stats6, one, counted_stats}
use Rattle.channel.specs.History.{Call, tallies, filter}
use Rattle.channel.specs.declared.ChannelConfig.{ChannelConfig}
use Rattle.channel.specs.declared.ChannelStats.{ChannelStats}
use Rattle.channel.specs.declared.Rolls.{Rolls}
use Rattle.channel.proofs.Limits.{CountsBelow, counts_not_full}
use Rattle.channel.proofs.Carrying.{granted_le}
use Rattle.channel.proofs.Tallies.{tallied}

-- ---- one call: the packets by 1, the copies by at most 2, the others by at most 1
pub record CountsRise (s t : ChannelStats) : Type 0 where
  pub seen : t.packets_seen ≡ s.packets_seen + 1
  pub lost : t.lost ≤ s.lost + 1
  pub corrupted : t.corrupted ≤ s.corrupted + 1
  pub duplicated : t.duplicated ≤ s.duplicated + 1
  pub reordered : t.reordered ≤ s.reordered + 1
  pub delivered : t.copies_delivered ≤ s.copies_delivered + 2

one_more : (n : ℕ) (b : Bool) → n + one b ≤ n + 1
one_more n true = omega arith
one_more n false = omega arith

pub counted_rises : (c : ChannelConfig) (r : Rolls) (n : ℕ) (s : ChannelStats) → CountsRise s (counted_stats c r n s)
unfolding counted_stats
counted_rises c r n s =
    record {
      seen = refl;
      lost = one_more s.lost (is_lost c r);
      corrupted = one_more s.corrupted (is_corrupted c r n);
      duplicated = one_more s.duplicated (is_duplicated c r);
      reordered = one_more s.reordered (is_reordered c r);
      delivered = two_more s.copies_delivered (copies (deliveries_of c r)) (granted_le c r);
    }
  where
    two_more : (n k : ℕ) → k ≤ 2 → n + k ≤ n + 2
    two_more n k h = omega arith

pub rises_below : {s t : ChannelStats} {n : ℕ} → CountsRise s t → CountsBelow s n → CountsBelow t (n + 2)
rises_below r b =
    record {
      seen = omega (arith, r.seen, b.seen);
      lost = omega (arith, r.lost, b.lost);
      corrupted = omega (arith, r.corrupted, b.corrupted);
      duplicated = omega (arith, r.duplicated, b.duplicated);
      reordered = omega (arith, r.reordered, b.reordered);
      delivered = omega (arith, r.delivered, b.delivered);
    }

pub below_more : {s : ChannelStats} {n m : ℕ} → n ≤ m → CountsBelow s n → CountsBelow s m
below_more h b =
    record {
      seen = omega (arith, b.seen);
      lost = omega (arith, b.lost);
      corrupted = omega (arith, b.corrupted);
      duplicated = omega (arith, b.duplicated);
      reordered = omega (arith, b.reordered);
      delivered = omega (arith, b.delivered);
    }

-- ---- any accepted calls, the latest first, from any counters
unfoldable pub counted_calls : ChannelConfig → List Call → ChannelStats → ChannelStats
counted_calls c [] s = s
counted_calls c (x ∷ xs) s = counted_stats c x.rolls (length x.packet) (counted_calls c xs s)

pub calls_below : (c : ChannelConfig) (xs : List Call) (s : ChannelStats) (n : ℕ) → CountsBelow s n → CountsBelow (counted_calls c xs s) (n + 2 * length xs)
unfolding counted_calls
calls_below c [] s n b = below_more (omega arith) b
calls_below c (x ∷ xs) s n b = below_more (omega arith) (rises_below (counted_rises c x.rolls (length x.packet) (counted_calls c xs s)) (calls_below c xs s n b))

pub calls_not_full : (c : ChannelConfig) (xs : List Call) (s : ChannelStats) (n : ℕ) → CountsBelow s n → n + 2 * length xs ≤ count_limit → stats_full (counted_calls c xs s) ≡ false
calls_not_full c xs s n b h = counts_not_full (counted_calls c xs s) (below_more h (calls_below c xs s n b))

-- from a channel just made these are the counters that the calls give
counted_tallies : (c : ChannelConfig) (xs : List Call) → counted_calls c xs (stats6 0 0 0 0 0 0) ≡ tallies c xs
unfolding counted_calls filter
counted_tallies c [] = refl
counted_tallies c (x ∷ xs) = ap (counted_stats c x.rolls (length x.packet)) (counted_tallies c xs) ∙ tallied c x xs

pub tallies_not_full : (c : ChannelConfig) (xs : List Call) → 1 + 2 * length xs ≤ count_limit → stats_full (tallies c xs) ≡ false
tallies_not_full c xs h = ap stats_full (sym (counted_tallies c xs)) ∙ calls_not_full c xs (stats6 0 0 0 0 0 0) 1 (record { seen = omega arith; lost = omega arith; corrupted = omega arith; duplicated = omega arith; reordered = omega arith; delivered = omega arith }) h
