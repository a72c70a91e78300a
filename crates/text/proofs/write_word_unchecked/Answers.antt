use mathlib.Core.Path.{refl}
use Rattle.octets.proofs.Laws.{part_written}
use lib.ListN.{length}
use Rattle.text.proofs.write_word_unchecked.Goals as goal

pub returns : goal.returns
returns c = let a = c.args in
    (refl, part_written a.out.now _ a.word.now a.at (length a.word.now) c.copy_unchecked.ensures)
