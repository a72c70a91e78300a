use mathlib.Core.Path.{◌≡◌}
use lib.ListN.{length}
use Rattle.bench_ffi.proofs.ends.acknowledged.Given as goal

abbrev pub invariant-loop-raw : goal.invariant-loop-raw
invariant-loop-raw l = length l.store ≡ length l.initial.store
