use mathlib.Core.Path.{◌≡◌}
use lib.ListN.{length}
use Rattle.bench_ffi.proofs.timing.started.Given as goal

abbrev pub invariant-loop-key : goal.invariant-loop-key
invariant-loop-key l = (length l.keys ≡ length l.initial.keys) × (length l.deadlines ≡ length l.initial.deadlines)
