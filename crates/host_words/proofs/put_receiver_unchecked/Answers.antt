use Rattle.host_words.proofs.put_receiver_unchecked.Goals as goal

pub returns : goal.returns
returns c = rw (c.put_fields.ensures, c.receiver_fields.ensures)
