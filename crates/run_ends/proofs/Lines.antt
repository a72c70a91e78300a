-- A line and a packet that is due on it: how many were due, how many it carried and what they used, also where it ends the run.
use Rattle.std.specs.Prelude.{None, Option, Some}
use Prim.Native.Nat.{ℕ, ◌+◌, ◌*◌, ◌<◌}
use native.Mathlib.Omega.{arith}
use mathlib.Core.Path.{◌≡◌, refl, sym, ◌∙◌, subst}
use mathlib.Core.Bool.{Bool, true, false}
use mathlib.Core.List.{List}
use lib.Ieee.{Float}
use lib.ListN.{length}
use Rattle.schedule.specs.State.{copies, lacks_room}
use Rattle.channel.specs.declared.ChannelConfig.{ChannelConfig}
use Rattle.channel.proofs.Laws.{counted_rises, carried_length}
use Rattle.path.specs.Rolls.{packet_rolls}
use Rattle.path.specs.Direction.{Direction, schedule_of}
use Rattle.path.specs.Path.{CarryExit, left_by_carry, rolls_spent, carry, stop_of, is_going, take_ready, left_by_take, new_path}
use Rattle.path.specs.declared.Stop.{Stop}
use Rattle.path.specs.declared.Stop.TheVariants as stop
use Rattle.path.proofs.Laws.{next_rolls, granted, copy_bytes, carried_on, by_answer, going_is}
use Rattle.run_ends.proofs.Waiting.{Tidy, schedule_tidy, take_tidy, new_tidy}

-- ---- whether the last packet that was due was carried; why not
abbrev pub not_carried : Option Stop → ℕ
not_carried (None) = 0
not_carried (Some why) = 1

abbrev pub StoppedAt : Option Stop → Direction → List Float → Bool → Type 0
StoppedAt (None) d rolls free = Unit {0}
StoppedAt (Some stop.RollsSpent) d rolls free = rolls_spent d.path rolls ≡ true
StoppedAt (Some stop.EventsFull) d rolls free = (rolls_spent d.path rolls ≡ false) × (free ≡ false)
StoppedAt (Some stop.ScheduleFull) d rolls free = (rolls_spent d.path rolls ≡ false) × (free ≡ true) × (lacks_room (schedule_of d) (copies (granted d rolls)) ≡ true)

abbrev pub seen : Direction → ℕ
seen d = d.path.channel.stats.packets_seen

-- n packets were due, `st` being what came of the last
pub record LineAt (st : Option Stop) (c : ChannelConfig) (rolls : List Float) (free : Bool) (n : ℕ) (d : Direction) : Type 0 where
  pub config : d.path.channel.config ≡ c
  pub used : d.path.used ≡ seen d * packet_rolls
  pub due : n ≡ seen d + not_carried st
  pub why : StoppedAt st d rolls free
  pub tidy : Tidy d.records d.path.scheduler.count

one_more : (n a m : ℕ) → n ≡ a + 0 → m ≡ 1 → n + 1 ≡ a + m
one_more n a m h k = omega arith

used_more : (used a : ℕ) {b : ℕ} → used ≡ a * packet_rolls → b ≡ a + 1 → used + packet_rolls ≡ b * packet_rolls
used_more used a h k = omega arith

due_more : (n a b : ℕ) → n ≡ a + 0 → b ≡ a + 1 → n + 1 ≡ b + 0
due_more n a b h k = omega arith

pub line_due : {st : Option Stop} {c : ChannelConfig} {rolls : List Float} {free : Bool} {n m : ℕ} {d : Direction} → m ≡ n → LineAt st c rolls free n d → LineAt st c rolls free m d
line_due e q = record { config = q.config; used = q.used; due = e ∙ q.due; why = q.why; tidy = q.tidy }

pub line_going : {st : Option Stop} {c : ChannelConfig} {rolls : List Float} {free : Bool} {n : ℕ} {d : Direction} → is_going st ≡ true → LineAt st c rolls free n d → LineAt (None) c rolls free n d
line_going {st} {c} {rolls} {free} {n} {d} g q = subst (λ (x : Option Stop). LineAt x c rolls free n d) (going_is st g) q

-- ---- a packet that is due
module _ {c : ChannelConfig} {rolls : List Float} {free : Bool} {n : ℕ} {d : Direction} (now : ℕ) (wire : List ℕ) (some : 0 < length wire) (q : LineAt (None) c rolls free n d) where
  pub line_stopped : (st : Option Stop) → not_carried st ≡ 1 → StoppedAt st d rolls free → LineAt st c rolls free (n + 1) d
  line_stopped st e w = record { config = q.config; used = q.used; due = one_more n (seen d) (not_carried st) q.due e; why = w; tidy = q.tidy }

  counted : seen (carried_on d rolls now wire) ≡ seen d + 1
  counted = (counted_rises d.path.channel.config (next_rolls d rolls) (length wire) d.path.channel.stats).seen

  some_copied : 0 < length (copy_bytes d rolls wire)
  some_copied = subst (λ (k : ℕ). 0 < k) (sym (carried_length d.path.channel.config (next_rolls d rolls) wire)) some

  pub line_carried : (other : Bool) → LineAt (None) c rolls other (n + 1) (carried_on d rolls now wire)
  line_carried other =
      record {
        config = q.config;
        used = used_more d.path.used (seen d) q.used counted;
        due = due_more n (seen d) _ q.due counted;
        why = tt;
        tidy = schedule_tidy (schedule_of d) now (copy_bytes d rolls wire) (granted d rolls) some_copied q.tidy;
      }

  pub line_more : LineAt (stop_of (carry d rolls free now wire).result.answer) c rolls free (n + 1) (left_by_carry (carry d rolls free now wire))
  line_more =
      by_answer d rolls free now wire (λ (x : CarryExit). LineAt (stop_of x.result.answer) c rolls free (n + 1) (left_by_carry x)) (λ h. line_stopped (Some stop.RollsSpent) refl h) (λ h k. line_stopped (Some stop.EventsFull) refl (h, k))
      (λ h k l. line_stopped (Some stop.ScheduleFull) refl (h, k, l)) (λ f. line_carried free)

-- ---- a copy that is taken
pub line_taken : {c : ChannelConfig} {rolls : List Float} {free : Bool} {n : ℕ} {d : Direction} (now : ℕ) (out : List ℕ) → LineAt (None) c rolls free n d → LineAt (None) c rolls free n (left_by_take (take_ready d now out))
unfolding take_ready
line_taken {d = d} now out q = record { config = q.config; used = q.used; due = q.due; why = tt; tidy = take_tidy (schedule_of d) now out q.tidy }

-- ---- no packet yet
pub line_new : (c : ChannelConfig) (rolls : List Float) (free : Bool) (rs : List (List ℕ)) (ps : List ℕ) → LineAt (None) c rolls free 0 (new_path c rs ps)
unfolding new_path
line_new c rolls free rs ps = record { config = refl; used = refl; due = refl; why = tt; tidy = new_tidy rs ps }
