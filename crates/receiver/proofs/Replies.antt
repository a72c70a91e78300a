-- Laws of carrying a decision out.
use Rattle.std.specs.Prelude.{Option, Some, None, is_some}
use Prim.Native.Nat.{ℕ, ◌+◌, ◌-◌, ◌≤◌}
use mathlib.Core.Path.{◌≡◌, refl}
use mathlib.Core.Bool.{Bool, true, false, ◌||◌, ◌&&◌}
use mathlib.Core.List.{List, [], ◌++◌}
use native.Mathlib.Omega.{arith}
use native.Mathlib.Nat.{add-zero, add_assoc}
use borrow.Author.Tests.{ltb-false, le-ltb}
use lib.ListN.{length, length-append}
use lib.Dec.{ltb}
use Rattle.refusal.proofs.Laws.{or_false}
use Rattle.store.specs.Numbers.{written_at}
use Rattle.store.proofs.Laws.{written_on, written_none, written_length}
use Rattle.receiver.specs.Reply.{ack_missing, room_missing, RoomFor, apply_exit, applied}
use Rattle.receiver.specs.declared.Decision.{Decision}

pub ack_room : (r : Option ℕ) (n : ℕ) (ack : List ℕ) → r ≡ Some n → ack_missing r ack ≡ false → 10 ≤ length ack
ack_room r n ack e h = ltb-false (length ack) 10 (rw e at h)

pub room_ack : (d : Decision) (size filled : ℕ) (output ack : List ℕ) → RoomFor d size filled output ack → ack_missing d.reply ack ≡ false
unfolding room_missing
room_ack d size filled output ack h = (or_false (d.deliver && ltb (length output - filled) size) (ack_missing d.reply ack) h.room).1

pub room_output : (d : Decision) (size filled : ℕ) (output ack : List ℕ) → RoomFor d size filled output ack → d.deliver ≡ true → filled + size ≤ length output
unfolding room_missing
room_output d size filled output ack h e =
    let m = h.mark in
    let left = (or_false (d.deliver && ltb (length output - filled) size) (ack_missing d.reply ack) h.room).0 in
    let few : size ≤ length output - filled = ltb-false (length output - filled) size (rw e at left) in
    omega arith

pub replied_is : (filled : ℕ) {output output' ack ack' : List ℕ} → output ≡ output' → ack ≡ ack' → apply_exit filled output ack ≡ apply_exit filled output' ack'
replied_is filled e f = rw (e, f)

-- room for more is room for less
pub room_less : (d : Decision) (size less filled : ℕ) (output ack : List ℕ) → RoomFor d size filled output ack → less ≤ size → RoomFor d less filled output ack
unfolding room_missing
room_less d size less filled output ack h few = record { mark = h.mark; room = by_delivery d.deliver (ack_missing d.reply ack) h.room } where
  by_delivery : (b r : Bool) → ((b && ltb (length output - filled) size) || r) ≡ false → ((b && ltb (length output - filled) less) || r) ≡ false
  by_delivery false r e = e
  by_delivery true r e =
      let none = or_false (ltb (length output - filled) size) r e in
      let most : size ≤ length output - filled = ltb-false (length output - filled) size none.0 in
      let room : ltb (length output - filled) less ≡ false = le-ltb (length output - filled) less (omega arith) in
      rw room none.1

-- a payload delivered, and then more bytes after it
module _ (d : Decision) (payload more : List ℕ) (filled : ℕ) (output ack : List ℕ) (room : RoomFor d (length (payload ++ more)) filled output ack) (none : d.deliver ≡ false → more ≡ []) where
  carried_parts : (b : Bool) → d.deliver ≡ b
      → ((applied d payload filled output ack).filled + length more ≤ length (applied d payload filled output ack).output)
      × (apply_exit ((applied d payload filled output ack).filled + length more) (written_at (applied d payload filled output ack).output (applied d payload filled output ack).filled more) (applied d payload filled output ack).ack ≡ applied d (payload ++ more) filled output ack)
  unfolding applied
  carried_parts true e =
      let fits = room_output d (length (payload ++ more)) filled output ack room e in
      let size = length-append payload more in
      let mark = room.mark in
      rw e (
        rw (written_length output payload filled (omega arith)) (omega arith),
        rw (written_on output payload more filled mark, size, ← add_assoc),
      )
  carried_parts false e =
      let mark = room.mark in
      rw (e, none e) (rw add-zero mark, rw (written_none output filled [] refl, add-zero))

  pub carried_room : (applied d payload filled output ack).filled + length more ≤ length (applied d payload filled output ack).output
  carried_room = (carried_parts d.deliver refl).0

  pub carried_on : apply_exit ((applied d payload filled output ack).filled + length more) (written_at (applied d payload filled output ack).output (applied d payload filled output ack).filled more) (applied d payload filled output ack).ack ≡ applied d (payload ++ more) filled output ack
  carried_on = (carried_parts d.deliver refl).1

-- a buffer for an ACK is missing where there is a reply and it is shorter than a header
pub ack_missing_is : (reply : Option ℕ) (ack : List ℕ) → ack_missing reply ack ≡ (is_some reply && ltb (length ack) 10)
ack_missing_is (Some n) ack = refl
ack_missing_is None ack = refl
