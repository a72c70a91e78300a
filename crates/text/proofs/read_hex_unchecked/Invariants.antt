use Prim.Native.Nat.{ℕ, ◌*◌, ◌≤◌}
use mathlib.Core.Path.{◌≡◌}
use mathlib.Core.Bool.{true}
use mathlib.Core.List.{List, ◌++◌}
use Rattle.text.specs.Hexadecimal.{all_hex, octets_of}
use lib.ListN.{length, take, drop}
use Rattle.text.proofs.read_hex_unchecked.Given as goal

pub record Left (part dst : List ℕ) (i j : ℕ) : Type 0 where
  pub place : j ≡ i * 2
  pub within : i ≤ length dst
  pub long : length part ≡ length dst * 2
  pub letters : all_hex (drop j part) ≡ true
  pub joined : take i dst ++ octets_of (drop j part) ≡ octets_of part

-- the two letters at j

abbrev pub invariant-loop-i : goal.invariant-loop-i
invariant-loop-i l = Left l.part l.dst l.i (l.i * 2) × (length l.dst ≡ length l.initial.dst)
