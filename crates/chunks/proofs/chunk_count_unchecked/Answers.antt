use Rattle.std.proofs.Common.{arith}
use Rattle.chunks.proofs.Laws.{count_is}
use Rattle.chunks.proofs.chunk_count_unchecked.Goals as goal

pub returns : goal.returns
returns c = omega (arith, count_is c.args.chunk_size c.args.file.now c.requires)
