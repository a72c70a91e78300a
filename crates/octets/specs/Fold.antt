-- The reference's `fold_bytes`: the sum of the bytes, modulo 65,536.
use Rattle.std.specs.Prelude.{ℕ, ◌+◌, ◌%◌, List, [], ◌∷◌}

unfoldable pub sum : List ℕ → ℕ
sum [] = 0
sum (x ∷ xs) = x + sum xs

unfoldable pub fold_bytes : List ℕ → ℕ
fold_bytes bytes = sum bytes % 65536
