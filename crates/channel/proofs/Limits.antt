-- What the bounds say of each setting, counter and roll where no check is true.
use mathlib.Core.Path.{◌≡◌}
use Prim.Native.Nat.{ℕ, ◌+◌, ◌<◌, ◌≤◌}
use native.Mathlib.Omega.{arith}
use mathlib.Core.Bool.{Bool, true, false, not, ◌||◌, true≢false}
use lib.Dec.{T, ltb}
use lib.Ieee.{Float}
use mir.Val.{Fits}
use mir.Syntax.{w64}
use borrow.Author.Tests.{ltb-false, leb-false, lt-leb}
use Rattle.bounds.specs.Bounds.{count_limit}
use Rattle.refusal.specs.Counts.{count_full}
use Rattle.refusal.proofs.Laws.{or_false}
use Rattle.float.specs.Roll.{roll_in_bounds}
use Rattle.channel.specs.Bounds.{chances_broken, delays_broken, config_broken, stats_full, any_roll_broken, rolls_broken}
use Rattle.channel.specs.Process.{one}
use Rattle.std.specs.Int.{from_bool}
use Rattle.channel.specs.declared.ChannelConfig.{ChannelConfig}
use Rattle.channel.specs.declared.ChannelStats.{ChannelStats}
use Rattle.channel.specs.declared.Rolls.{Rolls}

pub record DelaysWithin (c : ChannelConfig) : Type 0 where
  pub hold : c.reorder_extra_ms ≤ 60000
  pub base : c.base_delay_ms ≤ 60000
  pub jitter : c.jitter_ms ≤ 60000

pub delays_within : (c : ChannelConfig) → config_broken c ≡ false → DelaysWithin c
unfolding config_broken
delays_within c h =
    let d = (or_false (chances_broken c.loss c.duplicate c.reorder c.corrupt) (delays_broken c.reorder_extra_ms c.base_delay_ms c.jitter_ms) h).1 in
    let e = (or_false (ltb 60000 c.reorder_extra_ms) (ltb 60000 c.base_delay_ms || ltb 60000 c.jitter_ms) d).1 in
    record {
      hold = ltb-false 60000 c.reorder_extra_ms (or_false (ltb 60000 c.reorder_extra_ms) (ltb 60000 c.base_delay_ms || ltb 60000 c.jitter_ms) d).0;
      base = ltb-false 60000 c.base_delay_ms (or_false (ltb 60000 c.base_delay_ms) (ltb 60000 c.jitter_ms) e).0;
      jitter = ltb-false 60000 c.jitter_ms (or_false (ltb 60000 c.base_delay_ms) (ltb 60000 c.jitter_ms) e).1;
    }

-- ---- rolls
holds : (b : Bool) → not b ≡ false → T b
holds true h = tt
holds false h = absurd (true≢false h)

four_within : (a b c d : Float) → any_roll_broken a b c d ≡ false → T (roll_in_bounds a) × T (roll_in_bounds b) × T (roll_in_bounds c) × T (roll_in_bounds d)
four_within a b c d h =
    let p = or_false (not (roll_in_bounds a)) (not (roll_in_bounds b) || (not (roll_in_bounds c) || not (roll_in_bounds d))) h in
    let q = or_false (not (roll_in_bounds b)) (not (roll_in_bounds c) || not (roll_in_bounds d)) p.1 in
    let s = or_false (not (roll_in_bounds c)) (not (roll_in_bounds d)) q.1 in
    (holds (roll_in_bounds a) p.0, holds (roll_in_bounds b) q.0, holds (roll_in_bounds c) s.0, holds (roll_in_bounds d) s.1)

pub record RollsWithin (r : Rolls) : Type 0 where
  pub loss : T (roll_in_bounds r.loss_roll)
  pub dup : T (roll_in_bounds r.dup_roll)
  pub reorder : T (roll_in_bounds r.reorder_roll)
  pub corrupt : T (roll_in_bounds r.corrupt_roll)
  pub byte : T (roll_in_bounds r.byte_roll)
  pub bit : T (roll_in_bounds r.bit_roll)
  pub jitter : T (roll_in_bounds r.jitter_roll)
  pub dup_jitter : T (roll_in_bounds r.dup_jitter_roll)

pub rolls_within : (r : Rolls) → rolls_broken r ≡ false → RollsWithin r
unfolding rolls_broken
rolls_within r h =
    let b = or_false (any_roll_broken r.loss_roll r.dup_roll r.reorder_roll r.corrupt_roll) (any_roll_broken r.byte_roll r.bit_roll r.jitter_roll r.dup_jitter_roll) h in
    let f = four_within r.loss_roll r.dup_roll r.reorder_roll r.corrupt_roll b.0 in
    let l = four_within r.byte_roll r.bit_roll r.jitter_roll r.dup_jitter_roll b.1 in
    record { loss = f.0; dup = f.1; reorder = f.2; corrupt = f.3; byte = l.0; bit = l.1; jitter = l.2; dup_jitter = l.3 }

-- ---- counters
pub record CountsBelow (s : ChannelStats) (n : ℕ) : Type 0 where
  pub seen : s.packets_seen < n
  pub lost : s.lost < n
  pub corrupted : s.corrupted < n
  pub duplicated : s.duplicated < n
  pub reordered : s.reordered < n
  pub delivered : s.copies_delivered < n

below : (n : ℕ) → count_full n ≡ false → n < count_limit
below n h = leb-false count_limit n h

pub counts_below : (s : ChannelStats) → stats_full s ≡ false → CountsBelow s count_limit
unfolding stats_full
counts_below s h =
    let a = count_full s.packets_seen in
    let b = count_full s.lost in
    let c = count_full s.corrupted in
    let d = count_full s.duplicated in
    let e = count_full s.reordered in
    let f = count_full s.copies_delivered in
    let p = (or_false (a || (b || c)) (d || (e || f)) h).0 in
    let q = (or_false (a || (b || c)) (d || (e || f)) h).1 in
    let p2 = (or_false a (b || c) p).1 in
    let q2 = (or_false d (e || f) q).1 in
    record {
      seen = below s.packets_seen (or_false a (b || c) p).0;
      lost = below s.lost (or_false b c p2).0;
      corrupted = below s.corrupted (or_false b c p2).1;
      duplicated = below s.duplicated (or_false d (e || f) q).0;
      reordered = below s.reordered (or_false e f q2).0;
      delivered = below s.copies_delivered (or_false e f q2).1;
    }

pub counts_not_full : (s : ChannelStats) → CountsBelow s count_limit → stats_full s ≡ false
unfolding stats_full
counts_not_full s b =
    simp (lt-leb count_limit s.packets_seen b.seen, lt-leb count_limit s.lost b.lost, lt-leb count_limit s.corrupted b.corrupted, lt-leb count_limit s.duplicated b.duplicated, lt-leb count_limit s.reordered b.reordered, lt-leb count_limit s.copies_delivered b.delivered)

-- a counter below the bound, raised by at most 2
pub raised : (k : ℕ) {n m : ℕ} → n < count_limit → m ≡ k → k ≤ 2 → Fits w64 (n + m)
raised k {n} {m} h e l = record { fits = omega arith }

pub raised_one : (b : Bool) {n m : ℕ} → n < count_limit → m ≡ one b → Fits w64 (n + m)
raised_one true h e = raised 1 h e (omega arith)
raised_one false h e = raised 0 h e (omega arith)

-- as `u64::from` counts a condition
pub from_is : (b : Bool) {m : ℕ} → m ≡ from_bool b → m ≡ one b
from_is true e = e
from_is false e = e
