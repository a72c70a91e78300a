use Prim.Native.Nat.{ℕ, ◌-◌, ◌≤◌}
use mathlib.Core.Path.{◌≡◌, sym, ap, ◌∙◌}
use native.Mathlib.Omega.{arith}
use mathlib.Core.List.{List, ◌++◌}
use Rattle.text.specs.Decimal.{digits, right_in}
use Rattle.octets.proofs.Laws.{tail_written}
use lib.ListN.{length, take, drop, replicate, length-append, length-drop, length-replicate}
use lib.Seq.{length-take-le, take_at}
use Rattle.text.specs.Letters.{blank}
use Rattle.text.proofs.fill_right_unchecked.Goals as goal

module _ (part : List ℕ) (k n : ℕ) (e : k ≡ length (digits n)) (h : length (digits n) ≤ length part) where
  lent : length part - k ≡ length (take (length part - k) part)
  lent = sym (length-take-le (length part - k) part (omega arith))

  module _ {blanks : List ℕ} (b : blanks ≡ replicate (length (take (length part - k) part)) blank) where
    long : length blanks ≡ length part - k
    long = ap length b ∙ length-replicate (length (take (length part - k) part)) blank ∙ sym lent

    written : {last : List ℕ} → last ≡ digits n
        → take (length part - k) (blanks ++ drop (length part - k) part)
        ++ (last ++ drop (length (blanks ++ drop (length part - k) part) - (length part - k)) (drop (length part - k) (blanks ++ drop (length part - k) part)))
        ≡ right_in (length part) (digits n)
    unfolding right_in
    written {last} d =
        let f : length part - k ≤ length (blanks ++ drop (length part - k) part) = simp (length-append, length-drop) (let l = long in omega arith) in
        tail_written (blanks ++ drop (length part - k) part) last (digits n) (length part - k) f d
        ∙ ap (λ (x : List ℕ). x ++ digits n) (take_at blanks (drop (length part - k) part) (length part - k) long ∙ b ∙ ap (λ (i : ℕ). replicate i blank) (sym lent))
        ∙ rw e

pub slice_bounds-fill_blanks-end-2 : goal.slice_bounds-fill_blanks-end-2
slice_bounds-fill_blanks-end-2 c = lent c.args.part.now c.decimal_length.result c.args.n c.decimal_length.ensures c.requires

pub returns : goal.returns
returns c = let l = c.decimal_length in
    written c.args.part.now l.result c.args.n l.ensures c.requires c.fill_blanks.ensures c.fill_decimal_unchecked.ensures
