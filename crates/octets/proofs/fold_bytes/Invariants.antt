use Rattle.std.proofs.Common.{◌≡◌, ◌+◌, ◌%◌, ◌<◌, drop}
use Rattle.octets.specs.Fold.{fold_bytes}
use Rattle.octets.specs.Fold.{sum as sum_of}
use Rattle.octets.proofs.fold_bytes.Given as goal

abbrev pub invariant-loop-b : goal.invariant-loop-b
invariant-loop-b l = (l.sum < 65536) × ((l.sum + sum_of (drop l.b-index l.bytes)) % 65536 ≡ fold_bytes l.bytes)
