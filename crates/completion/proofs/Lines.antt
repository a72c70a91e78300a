-- What a packet leaves on a line: copies of it, whole where the line has no faults.
use Prim.Native.Nat.{ℕ, ◌<◌}
use mathlib.Core.Path.{◌≡◌, refl, sym, ap, ◌∙◌, subst}
use mathlib.Core.Bool.{Bool, true, false}
use mathlib.Core.List.{List}
use lib.Ieee.{Float}
use lib.ListN.{length}
use Rattle.channel.specs.Faults.{is_corrupted, byte_at, bit_at}
use Rattle.channel.proofs.Laws.{uncorrupted_is, corrupted_is, corrupted_some, byte_below, bit_below, NoFaults}
use Rattle.octets.specs.Flip.{flip}
use Rattle.delivery.specs.Calls.{whole, flipped}
use Rattle.path.specs.Direction.{Direction}
use Rattle.path.specs.Path.{CarryExit, left_by_carry, carry, CanCarry}
use Rattle.path.proofs.Laws.{rolls_left, rolls_fine, rolls_doubles, next_rolls, copy_bytes, Fits, carries, by_left, EachWaiting, carry_each, whole_bytes}
use Rattle.completion.specs.Flips.{PickMayFlip}
use Rattle.completion.proofs.Follows.{CopyOf, WholeOf}

module _ (d : Direction) (rolls : List Float) (entry_free : Bool) (now : ℕ) (wire : List ℕ) (can : CanCarry d rolls now wire) where
  -- each copy that waits has P, if a packet that is carried has it after the line
  pub carry_each_fits : {P : List ℕ → Type 0} → (Fits d rolls entry_free now wire → P (copy_bytes d rolls wire)) → EachWaiting P d → EachWaiting P (left_by_carry (carry d rolls entry_free now wire))
  carry_each_fits {P} h a =
      by_left d rolls entry_free now wire (EachWaiting P) a
      (λ f. subst (λ (x : CarryExit). EachWaiting P (left_by_carry x)) (carries d rolls entry_free now wire f) (carry_each d rolls entry_free now wire can (h f) a))

  -- a line without faults
  pub carry_each_whole : {P : List ℕ → Type 0} → NoFaults d.path.channel.config → P wire → EachWaiting P d → EachWaiting P (left_by_carry (carry d rolls entry_free now wire))
  carry_each_whole {P} none h a = carry_each_fits (λ f. subst P (sym (whole_bytes d rolls entry_free now wire can none f.left)) h) a

  -- one with faults, whose pick may be hit
  copy_made : (made : List (List ℕ)) → WholeOf made wire → Fits d rolls entry_free now wire → PickMayFlip d.path.channel.config (next_rolls d rolls) (length wire) → CopyOf made (copy_bytes d rolls wire)
  copy_made made m f pick = go (is_corrupted d.path.channel.config (next_rolls d rolls) (length wire)) refl
    where
      go : (b : Bool) → is_corrupted d.path.channel.config (next_rolls d rolls) (length wire) ≡ b → CopyOf made (copy_bytes d rolls wire)
      go false e = record { copy = whole m.at; allowed = m.within; is = m.is ∙ sym (uncorrupted_is d.path.channel.config (next_rolls d rolls) wire e) }
      go true e =
          let left = rolls_left d rolls entry_free now wire f.left in
          let doubles = rolls_doubles rolls d.path.used left can.good.doubles in
          let fine = rolls_fine rolls d.path.used left can.good.in_bounds in
          let j = byte_at (next_rolls d rolls) (length wire) in
          let b = bit_at (next_rolls d rolls) in
          let inside : j < length wire = byte_below (next_rolls d rolls) doubles fine (length wire) (corrupted_some d.path.channel.config (next_rolls d rolls) (length wire) e) can.short in
          record {
            copy = flipped m.at j b;
            allowed = (m.within, rw m.is inside, bit_below (next_rolls d rolls) doubles fine, (pick e).0, (pick e).1);
            is = ap (λ (x : List ℕ). flip x j b) m.is ∙ sym (corrupted_is d.path.channel.config (next_rolls d rolls) wire e);
          }

  pub carry_copies : {made : List (List ℕ)} → WholeOf made wire → (Fits d rolls entry_free now wire → PickMayFlip d.path.channel.config (next_rolls d rolls) (length wire)) → EachWaiting (CopyOf made) d → EachWaiting (CopyOf made) (left_by_carry (carry d rolls entry_free now wire))
  carry_copies {made} m pick a = carry_each_fits (λ f. copy_made made m f (pick f)) a
