-- One law a function, over plain values: what its callees give is what its definition says.
use mathlib.Core.Path.{◌≡◌, refl, sym, ◌∙◌, ap}
use Prim.Native.Nat.{ℕ, ◌+◌, ◌-◌, ◌<◌, ◌≤◌}
use native.Mathlib.Omega.{arith}
use native.Mathlib.Numerals.{add-one}
use mathlib.Core.Bool.{Bool, true, false, not, ◌||◌}
use mathlib.Core.List.{List}
use lib.ListN.{length, drop, drop_of_length-le}
use lib.Seq.{drop-cons}
use lib.Dec.{ltb}
use lib.Ieee.{Float, nan}
use borrow.Author.Tests.{ltb-true, ltb-false, lt-ltb, le-ltb}
use Rattle.float.specs.Roll.{roll_in_bounds}
use Rattle.schedule.specs.State.{Schedule, schedule}
use Rattle.schedule.specs.Schedule.{new_schedule, without_first}
use Rattle.schedule.specs.declared.ChannelScheduler.{ChannelScheduler}
use Rattle.channel.specs.Process.{new_channel_unchecked}
use Rattle.channel.specs.declared.Channel.{Channel}
use Rattle.channel.specs.declared.ChannelConfig.{ChannelConfig}
use Rattle.path.specs.Rolls.{packet_rolls, roll_at, rolls_broken}
use Rattle.path.specs.Direction.{Direction, direction, schedule_of}
use Rattle.path.specs.Path.{path_of, on_path, new_path, remove_first}

-- ---- all rolls
cons_broken : (l : List Float) (i : ℕ) → i < length l → rolls_broken (drop i l) ≡ (not (roll_in_bounds (roll_at l i)) || rolls_broken (drop (i + 1) l))
unfolding rolls_broken
cons_broken l i h = rw (add-one, drop-cons l i nan)

-- one roll looked at, where `a` is found so far
pub scan_step : (l : List Float) (i : ℕ) (a : Bool) {b : Bool} → i < length l → (a || rolls_broken (drop i l)) ≡ rolls_broken l → b ≡ roll_in_bounds (roll_at l i) → ((a || not b) || rolls_broken (drop (i + 1) l)) ≡ rolls_broken l
scan_step l i a {b} h e p = go a e
  where
    go : (a : Bool) → (a || rolls_broken (drop i l)) ≡ rolls_broken l → ((a || not b) || rolls_broken (drop (i + 1) l)) ≡ rolls_broken l
    go true e = e
    go false e = ap (λ (x : Bool). not x || rolls_broken (drop (i + 1) l)) p ∙ sym (cons_broken l i h) ∙ e

pub scan_end : (l : List Float) (i : ℕ) (a : Bool) → length l ≤ i → (a || rolls_broken (drop i l)) ≡ rolls_broken l → a ≡ rolls_broken l
unfolding rolls_broken
scan_end l i a h e = go a (sym (ap (λ (xs : List Float). a || rolls_broken xs) (drop_of_length-le l h)) ∙ e)
  where
    go : (a : Bool) → (a || false) ≡ rolls_broken l → a ≡ rolls_broken l
    go true e = e
    go false e = e

-- ---- rolls that are left
pub spent : (n u : ℕ) → ltb (n - u) packet_rolls ≡ ltb n (u + packet_rolls)
spent n u = go (ltb (n - u) packet_rolls) refl
  where
    go : (t : Bool) → ltb (n - u) packet_rolls ≡ t → t ≡ ltb n (u + packet_rolls)
    go true e = sym (lt-ltb n (u + packet_rolls) (omega (arith, ltb-true (n - u) packet_rolls e)))
    go false e = sym (le-ltb n (u + packet_rolls) (omega (arith, ltb-false (n - u) packet_rolls e)))

-- ---- making
pub new_law : (c : ChannelConfig) (rs : List (List ℕ)) (ps : List ℕ) {ch : Channel} {rs' : List (List ℕ)} {ps' : List ℕ} {s : ChannelScheduler}
    → schedule rs' ps' s ≡ new_schedule rs ps → ch ≡ new_channel_unchecked c → direction rs' ps' (path_of ch s 0) ≡ new_path c rs ps
unfolding new_path
new_law c rs ps {ch} e p = ap (λ (m : Schedule). on_path m ch 0) e ∙ ap (λ (x : Channel). on_path (new_schedule rs ps) x 0) p

-- ---- removing
pub remove_law : (d : Direction) {rs : List (List ℕ)} {ps : List ℕ} {s : ChannelScheduler} → schedule rs ps s ≡ without_first (schedule_of d)
    → direction rs ps (path_of d.path.channel s d.path.used) ≡ remove_first d
remove_law d e = ap (λ (m : Schedule). on_path m d.path.channel d.path.used) e
