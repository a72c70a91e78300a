use Rattle.std.specs.Prelude.{Err, None, Ok, Some}
use Prim.Native.Nat.{ℕ, ◌+◌, ◌-◌, ◌*◌, ◌≤◌, ◌<◌}
use mathlib.Core.Path.{◌≡◌, sym, ◌∙◌}
use native.Mathlib.Omega.{arith}
use mathlib.Core.Bool.{true, false}
use mathlib.Core.List.{List, ◌++◌}
use Rattle.text.specs.Hexadecimal.{all_hex, octets_of}
use Rattle.text.specs.Place.{hex_exit, letters_at, are_letters, read_hex}
use lib.ListN.{length, take, drop, length-drop}
use lib.Seq.{length-take-le}
use lib.Dec.{leb}
use native.Mathlib.Nat.{add-sub_cancel_left}
use borrow.Author.Tests.{le-leb, lt-leb, leb-true}
use Rattle.refusal.specs.declared.Refusal.TheVariants.{Full}
use Rattle.text.proofs.Hex.{both}
use borrow.Author.Rules.{rules}
use Rattle.text.proofs.read_hex.Goals as goal

module _ (s : List ℕ) (at count : ℕ) (out : List ℕ) where
  other : are_letters s at count ≡ false → hex_exit out (Ok None) ≡ read_hex s at count out
  unfolding read_hex
  other e = rw e

  module _ (e : are_letters s at count ≡ true) where
    bound : at + count * 2 ≤ length s
    unfolding are_letters
    bound = leb-true (at + count * 2) (length s) (both (leb (at + count * 2) (length s)) (all_hex (letters_at s at count)) e).0

    full : length out < count → hex_exit out (Err Full) ≡ read_hex s at count out
    unfolding read_hex
    full h = rw (e, lt-leb count (length out) h)

    module _ (h : count ≤ length out) where
      lent : count ≡ length (take count out)
      lent = sym (length-take-le count out h)

      long : length (take (at + count * 2 - at) (drop at s)) ≡ length (take count out) * 2
      long =
          let b = bound in
          rw (add-sub_cancel_left at (count * 2), length-take-le (count * 2) (drop at s) (simp length-drop (omega arith)), length-take-le count out h)

      letters : all_hex (take (at + count * 2 - at) (drop at s)) ≡ true
      unfolding are_letters
      letters = rw (add-sub_cancel_left at (count * 2)) (both (leb (at + count * 2) (length s)) (all_hex (letters_at s at count)) e).1

      done : {last : List ℕ} → last ≡ octets_of (take (at + count * 2 - at) (drop at s))
          → hex_exit (last ++ drop count out) (Ok (Some (at + count * 2))) ≡ read_hex s at count out
      unfolding read_hex
      done d = rw (d, e, le-leb count (length out) h, add-sub_cancel_left at (count * 2))

pub returns-then-not-are_letters : goal.returns-then-not-are_letters
returns-then-not-are_letters c = let a = c.args in
    other a.s.now a.at a.count a.out.now (sym c.are_letters.ensures ∙ c.if-not-are_letters.true)

pub returns-then-out-count : goal.returns-then-out-count
returns-then-out-count c = let a = c.args in
    let e = sym c.are_letters.ensures ∙ c.if-not-are_letters.false in
    full a.s.now a.at a.count a.out.now e c.if-out-count.true

pub overflow_mul-next : goal.overflow_mul-next
overflow_mul-next c = let a = c.args in
    let e = sym c.are_letters.ensures ∙ c.if-not-are_letters.false in
    let b = bound a.s.now a.at a.count a.out.now e in search rules

pub overflow_add-next : goal.overflow_add-next
overflow_add-next c = let a = c.args in
    let e = sym c.are_letters.ensures ∙ c.if-not-are_letters.false in
    let b = bound a.s.now a.at a.count a.out.now e in search rules

pub slice_bounds-read_hex_unchecked-end : goal.slice_bounds-read_hex_unchecked-end
slice_bounds-read_hex_unchecked-end c = let a = c.args in
    let e = sym c.are_letters.ensures ∙ c.if-not-are_letters.false in
    let b = bound a.s.now a.at a.count a.out.now e in search rules

pub slice_bounds-read_hex_unchecked-end-3 : goal.slice_bounds-read_hex_unchecked-end-3
slice_bounds-read_hex_unchecked-end-3 c = let a = c.args in
    let e = sym c.are_letters.ensures ∙ c.if-not-are_letters.false in
    lent a.s.now a.at a.count a.out.now e (omega arith)

pub read_hex_unchecked-requires : goal.read_hex_unchecked-requires
read_hex_unchecked-requires c = let a = c.args in
    let e = sym c.are_letters.ensures ∙ c.if-not-are_letters.false in
    (long a.s.now a.at a.count a.out.now e (omega arith), letters a.s.now a.at a.count a.out.now e (omega arith))

pub returns : goal.returns
returns c = let a = c.args in
    let e = sym c.are_letters.ensures ∙ c.if-not-are_letters.false in
    done a.s.now a.at a.count a.out.now e c.if-out-count.false c.read_hex_unchecked.ensures
