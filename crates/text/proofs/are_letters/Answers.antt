use Prim.Native.Nat.{ℕ, ◌+◌, ◌-◌, ◌*◌, ◌/◌, ◌≤◌, ◌<◌}
use mathlib.Core.Path.{◌≡◌, ◌∙◌}
use native.Mathlib.Omega.{arith}
use mathlib.Core.Bool.{false}
use mathlib.Core.List.{List}
use Rattle.text.specs.Hexadecimal.{all_hex}
use Rattle.text.specs.Place.{are_letters}
use lib.ListN.{length, take, drop}
use native.Mathlib.Nat.{add-sub_cancel_left, div-lt_iff_lt-mul, le-div_iff_mul-le}
use borrow.Author.Tests.{le-leb, lt-leb}
use Rattle.text.proofs.are_letters.Goals as goal

module _ (s : List ℕ) (at count : ℕ) where
  short : length s < at + count * 2 → false ≡ are_letters s at count
  unfolding are_letters
  short h = rw (lt-leb (at + count * 2) (length s) h)

  half : (length s - at) / 2 < count → at ≤ length s → length s < at + count * 2
  half h l = let m = (div-lt_iff_lt-mul {k = 2} {x = length s - at} {y = count} (omega arith)).0 h in omega arith

  whole : count ≤ (length s - at) / 2 → at ≤ length s → at + count * 2 ≤ length s
  whole h l = let m = (le-div_iff_mul-le {k = 2} {x = count} {y = length s - at} (omega arith)).0 h in omega arith

  letters : at + count * 2 ≤ length s → all_hex (take (at + count * 2 - at) (drop at s)) ≡ are_letters s at count
  unfolding are_letters
  letters h = rw (add-sub_cancel_left at (count * 2), le-leb (at + count * 2) (length s) h)

pub returns-then-s-at : goal.returns-then-s-at
returns-then-s-at c = let a = c.args in short a.s.now a.at a.count (omega arith)

pub returns-then-room-count : goal.returns-then-room-count
returns-then-room-count c = let a = c.args in short a.s.now a.at a.count (half a.s.now a.at a.count c.if-room-count.true (omega arith))

pub returns : goal.returns
returns c = let a = c.args in
    c.is_hex_text.ensures ∙ letters a.s.now a.at a.count (whole a.s.now a.at a.count c.if-room-count.false (omega arith))
