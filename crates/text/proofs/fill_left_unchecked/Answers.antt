use Prim.Native.Nat.{ℕ, ◌-◌, ◌≤◌}
use mathlib.Core.Path.{◌≡◌, sym, ap, ◌∙◌}
use native.Mathlib.Omega.{arith}
use mathlib.Core.List.{List, ◌++◌}
use lib.ListN.{length, take, drop, replicate, length-append, length-drop}
use lib.Seq.{length-take-le, take_at}
use Rattle.octets.proofs.Laws.{tail_written}
use Rattle.text.specs.Decimal.{left_in}
use Rattle.text.specs.Letters.{blank}
use Rattle.text.proofs.fill_left_unchecked.Goals as goal

module _ (word part : List ℕ) (h : length word ≤ length part) where
  lent : length word ≡ length (take (length word) part)
  lent = sym (length-take-le (length word) part h)

  -- after the front came back as the word, and the rest as blanks
  module _ {front : List ℕ} (e : front ≡ word) where
    long : length (front ++ drop (length word) part) ≡ length part
    long = let q = ap length e in simp (length-append, length-drop) (omega arith)

    rest : length (take (length (front ++ drop (length word) part) - length word) (drop (length word) (front ++ drop (length word) part)))
        ≡ length part - length word
    rest =
        length-take-le (length (front ++ drop (length word) part) - length word) (drop (length word) (front ++ drop (length word) part))
        (rw length-drop (omega arith))
        ∙ ap (λ (k : ℕ). k - length word) long

    written : {blanks : List ℕ}
        → blanks ≡ replicate (length (take (length (front ++ drop (length word) part) - length word) (drop (length word) (front ++ drop (length word) part)))) blank
        → take (length word) (front ++ drop (length word) part)
        ++ (blanks ++ drop (length (front ++ drop (length word) part) - length word) (drop (length word) (front ++ drop (length word) part)))
        ≡ left_in (length part) word
    unfolding left_in
    written {blanks} b =
        let l = long in
        tail_written (front ++ drop (length word) part) blanks (replicate (length part - length word) blank) (length word) (omega arith)
        (b ∙ ap (λ (k : ℕ). replicate k blank) rest)
        ∙ ap (λ (x : List ℕ). x ++ replicate (length part - length word) blank) (take_at front (drop (length word) part) (length word) (ap length e) ∙ e)

pub slice_bounds-copy_unchecked-end-2 : goal.slice_bounds-copy_unchecked-end-2
slice_bounds-copy_unchecked-end-2 c = lent c.args.word.now c.args.part.now c.requires

pub copy_unchecked-requires : goal.copy_unchecked-requires
copy_unchecked-requires c = lent c.args.word.now c.args.part.now c.requires

pub returns : goal.returns
returns c = written c.args.word.now c.args.part.now c.requires c.copy_unchecked.ensures c.fill_blanks.ensures
