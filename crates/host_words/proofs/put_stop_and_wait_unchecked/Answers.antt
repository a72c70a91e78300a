use Rattle.host_words.specs.Words.{with_window, with_stop_and_wait}
use Rattle.host_words.proofs.put_stop_and_wait_unchecked.Goals as goal

pub returns : goal.returns
unfolding with_stop_and_wait with_window
returns c = rw (c.put_word-7.ensures, c.put_word-6.ensures, c.put_word-5.ensures, c.put_word-4.ensures, c.put_word-3.ensures, c.put_word-2.ensures, c.put_word.ensures, c.next_number-next.ensures)
