use Rattle.host_words.proofs.next_number.Goals as goal

pub returns-then-in_flight : goal.returns-then-in_flight
returns-then-in_flight c = rw c.if-in_flight.true
