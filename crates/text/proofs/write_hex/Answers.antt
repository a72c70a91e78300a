use Prim.Native.Nat.{ℕ, ◌+◌, ◌-◌, ◌*◌, ◌/◌, ◌≤◌, ◌<◌}
use mathlib.Core.Path.{◌≡◌, ◌∙◌}
use native.Mathlib.Omega.{arith}
use mathlib.Core.List.{List, ◌++◌}
use Rattle.text.specs.Hexadecimal.{hex_text}
use Rattle.text.specs.Place.{written_at}
use lib.ListN.{length, take, drop}
use native.Mathlib.Nat.{div-lt_iff_lt-mul, le-div_iff_mul-le}
use Rattle.octets.proofs.Laws.{part_written}
use Rattle.text.proofs.Hex.{length_hex}
use Rattle.text.proofs.Places.{place_over, place_written}
use Rattle.text.proofs.write_hex.Goals as goal

module _ (src buffer : List ℕ) (at : ℕ) where
  half : (length buffer - at) / 2 < length src → at ≤ length buffer → length buffer < at + length (hex_text src)
  half h l =
      let m = (div-lt_iff_lt-mul {k = 2} {x = length buffer - at} {y = length src} (omega arith)).0 h in
      let k = length_hex src in omega arith

  whole : length src ≤ (length buffer - at) / 2 → at ≤ length buffer → at + length (hex_text src) ≤ length buffer
  whole h l =
      let m = (le-div_iff_mul-le {k = 2} {x = length src} {y = length buffer - at} (omega arith)).0 h in
      let k = length_hex src in omega arith

  written : {part : List ℕ} → part ≡ hex_text src
      → take at buffer ++ (part ++ drop (at + length src * 2 - at) (drop at buffer)) ≡ written_at buffer at (hex_text src)
  written {part} e = part_written buffer part (hex_text src) at (length src * 2) e ∙ rw (length_hex src)

pub returns-then-out-at : goal.returns-then-out-at
returns-then-out-at c = let a = c.args in let k = length_hex a.src.now in place_over a.out.now a.at (hex_text a.src.now) (omega arith)

pub returns-then-room-src : goal.returns-then-room-src
returns-then-room-src c = let a = c.args in
    place_over a.out.now a.at (hex_text a.src.now) (half a.src.now a.out.now a.at c.if-room-src.true (omega arith))

pub returns : goal.returns
returns c = let a = c.args in
    let w = whole a.src.now a.out.now a.at c.if-room-src.false (omega arith) in
    let l = length_hex a.src.now in
    place_written a.out.now (hex_text a.src.now) a.at w (omega arith) (written a.src.now a.out.now a.at c.write_hex_unchecked.ensures)
