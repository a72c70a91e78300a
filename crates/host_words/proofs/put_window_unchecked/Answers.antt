use Rattle.host_words.specs.Words.{with_window}
use Rattle.host_words.proofs.put_window_unchecked.Goals as goal

pub returns : goal.returns
unfolding with_window
returns c = rw (c.put_word-5.ensures, c.put_word-4.ensures, c.put_word-3.ensures, c.put_word-2.ensures, c.put_word.ensures)
