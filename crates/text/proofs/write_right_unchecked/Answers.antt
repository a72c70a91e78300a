use Prim.Native.Nat.{ℕ, ◌+◌, ◌-◌, ◌≤◌}
use mathlib.Core.Path.{◌≡◌, ap, ◌∙◌}
use native.Mathlib.Omega.{arith}
use mathlib.Core.List.{List, ◌++◌}
use Rattle.text.specs.Decimal.{digits, right_in}
use Rattle.octets.proofs.Laws.{part_written}
use Rattle.text.specs.Place.{written_at}
use lib.ListN.{length, take, drop, length-drop}
use lib.Seq.{length-take-le}
use native.Mathlib.Nat.{add-sub_cancel_left}
use Rattle.text.proofs.Numbers.{right_long, right_again}
use Rattle.text.proofs.write_right_unchecked.Goals as goal

module _ (buffer : List ℕ) (at k width n : ℕ) (e : k ≡ length (right_in width (digits n))) (h : at + length (right_in width (digits n)) ≤ length buffer) where
  lent : length (take (at + k - at) (drop at buffer)) ≡ k
  lent = rw (add-sub_cancel_left at k) (length-take-le k (drop at buffer) (simp length-drop (omega arith)))

  fits : length (digits n) ≤ length (take (at + k - at) (drop at buffer))
  fits = let l = lent in let r = right_long width (digits n) in omega arith

  written : {part : List ℕ} → part ≡ right_in (length (take (at + k - at) (drop at buffer))) (digits n)
      → take at buffer ++ (part ++ drop (at + k - at) (drop at buffer)) ≡ written_at buffer at (right_in width (digits n))
  written {part} p =
      part_written buffer part (right_in width (digits n)) at k (p ∙ ap (λ (w : ℕ). right_in w (digits n)) (lent ∙ e) ∙ right_again width (digits n)) ∙ rw e

pub fill_right_unchecked-requires : goal.fill_right_unchecked-requires
fill_right_unchecked-requires c = fits c.args.out.now c.args.at c.right_length.result c.args.width c.args.n c.right_length.ensures c.requires

pub returns : goal.returns
returns c = let l = c.right_length in (
  ap (λ (k : ℕ). c.args.at + k) l.ensures,
  written c.args.out.now c.args.at l.result c.args.width c.args.n l.ensures c.requires c.fill_right_unchecked.ensures,
)
