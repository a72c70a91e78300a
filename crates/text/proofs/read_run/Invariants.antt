use Prim.Native.Nat.{◌≤◌, max}
use mathlib.Core.Path.{◌≡◌}
use Rattle.text.proofs.Runs.{run_from}
use lib.ListN.{length, drop}
use Rattle.text.proofs.read_run.Given as goal

abbrev pub invariant-loop-i : goal.invariant-loop-i
invariant-loop-i l = (run_from l.max l.sum l.i (drop l.i l.s) ≡ run_from l.max 0 l.at (drop l.at l.s)) × (l.sum ≤ l.max) × (l.i ≤ max l.at (length l.s))
