-- 16-bit integers.
use Rattle.std.specs.Prelude.{ℕ, List}
use Rattle.octets.specs.Octets.{Below}

abbrev pub Integers16 : List ℕ → Type 0
Integers16 l = Below 65536 l
