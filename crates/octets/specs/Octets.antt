-- Octets: numbers below 256.
use Rattle.std.specs.Prelude.{ℕ, ◌<◌, List, slice_index}

pub record Below (n : ℕ) (l : List ℕ) : Type 0 where
  pub at : (i : ℕ) → slice_index l i < n

abbrev pub Octets : List ℕ → Type 0
Octets l = Below 256 l
