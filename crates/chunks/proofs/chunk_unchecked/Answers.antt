use Rattle.std.proofs.Common.{arith}
use Rattle.chunks.proofs.Laws.{chunk_start, chunk_is}
use Rattle.chunks.proofs.chunk_unchecked.Goals as goal

pub slice_bounds-result-count : goal.slice_bounds-result-count
slice_bounds-result-count c = omega (arith, chunk_start _ _ _ c.requires.chunk_size_nonzero.0 c.requires.seq_num_in_bounds)

pub slice_bounds-result-start : goal.slice_bounds-result-start
slice_bounds-result-start c = omega (arith, chunk_start _ _ _ c.requires.chunk_size_nonzero.0 c.requires.seq_num_in_bounds)

pub returns : goal.returns
returns c = rw c.min-end.ensures (chunk_is _ _ _ c.requires.chunk_size_nonzero.0 c.requires.seq_num_in_bounds)
