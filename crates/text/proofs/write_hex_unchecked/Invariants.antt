use Prim.Native.Nat.{ℕ, ◌*◌, ◌≤◌}
use mathlib.Core.Path.{◌≡◌}
use mathlib.Core.List.{List, ◌++◌}
use Rattle.text.specs.Hexadecimal.{hex_text}
use lib.ListN.{length, take, drop}
use Rattle.text.proofs.write_hex_unchecked.Given as goal

pub record Left (src part : List ℕ) (i j : ℕ) : Type 0 where
  pub place : j ≡ i * 2
  pub within : i ≤ length src
  pub long : length part ≡ length src * 2
  pub joined : take j part ++ hex_text (drop i src) ≡ hex_text src

abbrev pub invariant-loop-i : goal.invariant-loop-i
invariant-loop-i l = Left l.src l.part l.i (l.i * 2) × (length l.part ≡ length l.initial.part)
