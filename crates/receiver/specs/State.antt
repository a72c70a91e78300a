-- Document 01, "Turned away" 9 and 8, of a receiver: its base, its fill mark, its three counters.
use Rattle.std.specs.Prelude.{ℕ, List, [], ◌∷◌, Bool, length, ltb}
use Rattle.bounds.specs.Bounds.{seq_num_limit}
use Rattle.refusal.specs.Clauses.{any_of}
use Rattle.refusal.specs.Counts.{count_full}

-- 9: the base above 4,294,901,760; the fill mark above the output's length
unfoldable pub state_broken : ℕ → ℕ → List ℕ → Bool
state_broken base filled output = any_of (ltb seq_num_limit base ∷ ltb (length output) filled ∷ [])

-- 8
unfoldable pub counts_broken : ℕ → ℕ → ℕ → Bool
counts_broken a b c = any_of (count_full a ∷ count_full b ∷ count_full c ∷ [])
