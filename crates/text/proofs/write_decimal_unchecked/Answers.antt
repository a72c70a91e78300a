use Prim.Native.Nat.{ℕ, ◌+◌, ◌-◌}
use mathlib.Core.Path.{◌≡◌, ap, ◌∙◌}
use mathlib.Core.List.{List, ◌++◌}
use Rattle.text.specs.Decimal.{digits}
use Rattle.octets.proofs.Laws.{part_written}
use Rattle.text.specs.Place.{written_at}
use lib.ListN.{length, take, drop}
use Rattle.text.proofs.write_decimal_unchecked.Goals as goal

written : (buffer part : List ℕ) (at k n : ℕ) → k ≡ length (digits n) → part ≡ digits n
    → take at buffer ++ (part ++ drop (at + k - at) (drop at buffer)) ≡ written_at buffer at (digits n)
written buffer part at k n l e = part_written buffer part (digits n) at k e ∙ rw l

pub returns : goal.returns
returns c = let a = c.args in
    let l = c.decimal_length-k.ensures in
    (ap (λ (k : ℕ). a.at + k) l, written a.out.now _ a.at _ a.n l c.fill_decimal_unchecked.ensures)
