-- A channel whose chances are 0.0, of either sign, carries every packet whole, once.
use mathlib.Core.Path.{◌≡◌, refl, sym, ◌∙◌, ap}
use Prim.Native.Nat.{ℕ, ◌+◌, ◌*◌}
use native.Mathlib.Omega.{arith}
use native.Mathlib.Nat.{add-zero}
use mathlib.Core.Bool.{Bool, true, false, cond, not, ◌&&◌, and-false}
use mathlib.Core.List.{List}
use lib.ListN.{length}
use lib.Dec.{T, eqb, eqb→eq, ltb}
use lib.IntN.{pos}
use lib.Ieee.{Float, nan, inf, fin, up, down, below, lt, le, eq}
use lib.Ieee.Fits.{and_l}
use borrow.Author.Tests.{le-ltb}
use Rattle.float.specs.Roll.{roll_in_bounds, scaled}
use Rattle.schedule.specs.declared.Deliveries.TheVariants.{One}
use Rattle.channel.specs.Bounds.{rolls_broken}
use Rattle.channel.specs.Faults.{is_lost, is_duplicated, is_reordered, is_corrupted, carried_bytes, deliveries_of}
use Rattle.channel.specs.declared.ChannelConfig.{ChannelConfig}
use Rattle.channel.specs.declared.Rolls.{Rolls}
use Rattle.channel.proofs.Limits.{rolls_within}
use Rattle.channel.proofs.Carrying.{deliveries_one, uncorrupted_law}

-- +0.0 and -0.0
pub data Zero : Float → Type 0 where
  zero : (s : Bool) → Zero (fin s 0 (pos 0))

-- a roll in bounds is not below 0.0
not_above : (s : Bool) (b d : ℕ) → 0 * d ≡ b → below true b s (0 * d) ≡ false
not_above false b d e = le-ltb 0 (b + 0 * d) (omega arith)
not_above true b d e = le-ltb (0 * d) b (omega arith)

not_under : (x d : ℕ) → ltb x (0 * d) ≡ false
not_under x d = le-ltb x (0 * d) (omega arith)

pub roll_not_below : (x : Float) (z : Float) → T (roll_in_bounds x) → Zero z → lt x z ≡ false
unfolding lt le eq
roll_not_below nan z t (zero s) = refl
roll_not_below (inf false) z t (zero s) = refl
roll_not_below (inf true) z t (zero s) = absurd t
roll_not_below (fin false m e) z t (zero false) = not_under (m * up e * 1) (down e)
roll_not_below (fin false m e) z t (zero true) = refl
roll_not_below (fin true m e) z t (zero s) =
    let a = 0 * down e in
    let b = m * up e * 1 in
    not_above s b (down e) (eqb→eq a b (and_l (eqb a b) (eqb a 0) (and_l (eqb a b && eqb a 0) (lt (fin true m e) (fin false 1 (pos 0))) t)))

-- ---- all chances 0.0
pub record NoFaults (c : ChannelConfig) : Type 0 where
  pub loss : Zero c.loss
  pub duplicate : Zero c.duplicate
  pub reorder : Zero c.reorder
  pub corrupt : Zero c.corrupt

pub record CarriedWhole (c : ChannelConfig) (r : Rolls) : Type 0 where
  pub lost : is_lost c r ≡ false
  pub duplicated : is_duplicated c r ≡ false
  pub reordered : is_reordered c r ≡ false
  pub corrupted : (n : ℕ) → is_corrupted c r n ≡ false
  pub bytes : (p : List ℕ) → carried_bytes c r p ≡ p
  pub once : deliveries_of c r ≡ One (c.base_delay_ms + scaled r.jitter_roll (c.jitter_ms + 1))

module _ (c : ChannelConfig) (r : Rolls) (none : NoFaults c) (good : rolls_broken r ≡ false) where
  unlikely : (b : Bool) {t : Bool} → t ≡ false → (b && t) ≡ false
  unlikely b e = rw e (and-false b)

  not_lost : is_lost c r ≡ false
  unfolding is_lost
  not_lost = roll_not_below r.loss_roll c.loss (rolls_within r good).loss none.loss

  not_duplicated : is_duplicated c r ≡ false
  unfolding is_duplicated
  not_duplicated = unlikely (not (is_lost c r)) (roll_not_below r.dup_roll c.duplicate (rolls_within r good).dup none.duplicate)

  not_reordered : is_reordered c r ≡ false
  unfolding is_reordered
  not_reordered = unlikely (not (is_lost c r)) (roll_not_below r.reorder_roll c.reorder (rolls_within r good).reorder none.reorder)

  not_corrupted : (n : ℕ) → is_corrupted c r n ≡ false
  unfolding is_corrupted
  not_corrupted n = unlikely (not (is_lost c r)) (ap (λ (b : Bool). b && ltb 0 n) (roll_not_below r.corrupt_roll c.corrupt (rolls_within r good).corrupt none.corrupt))

  pub carried_whole : CarriedWhole c r
  carried_whole =
      record {
        lost = not_lost;
        duplicated = not_duplicated;
        reordered = not_reordered;
        corrupted = not_corrupted;
        bytes = λ p. sym (uncorrupted_law c r p (not_corrupted (length p)));
        once = sym (deliveries_one c r not_lost not_duplicated (sym (ap (λ (b : Bool). c.base_delay_ms + scaled r.jitter_roll (c.jitter_ms + 1) + cond b c.reorder_extra_ms 0) not_reordered ∙ add-zero _)));
      }
