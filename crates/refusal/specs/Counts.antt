-- Document 01, "Turned away", line 8, of one counter.
use Rattle.std.specs.Prelude.{ℕ, Bool, leb}
use Rattle.bounds.specs.Bounds.{count_limit}

-- "stands at 2^60 or more"
abbrev pub count_full : ℕ → Bool
count_full n = leb count_limit n
