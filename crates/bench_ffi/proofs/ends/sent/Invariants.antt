use mathlib.Core.Path.{◌≡◌}
use lib.ListN.{length}
use Rattle.bench_ffi.proofs.ends.sent.Given as goal

abbrev pub invariant-loop-out : goal.invariant-loop-out
invariant-loop-out l = length l.store ≡ length l.initial.store
