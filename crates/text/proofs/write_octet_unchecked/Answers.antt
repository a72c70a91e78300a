use Prim.Native.Nat.{ℕ, suc, ◌<◌}
use mathlib.Core.Path.{◌≡◌, refl, ◌∙◌}
use mathlib.Core.List.{List, [], ◌∷◌}
use Rattle.text.specs.Place.{written_at}
use lib.ListN.{length, take, drop, set}
use lib.Seq.{set_split, append_snoc}
use native.Mathlib.Numerals.{add-one}
use Rattle.text.proofs.write_octet_unchecked.Goals as goal

one : (l : List ℕ) (at b : ℕ) → at < length l → set l at b ≡ written_at l at (b ∷ [])
one l at b h = set_split l at b h ∙ rw (add-one at, append_snoc (take at l) b (drop (suc at) l))

pub returns : goal.returns
returns c = (refl, one c.args.out.now c.args.at c.args.b c.requires)
