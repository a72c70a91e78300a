use native.Mathlib.Omega.{arith}
use Rattle.text.proofs.Places.{place_over, place_written}
use Rattle.text.proofs.write_word.Goals as goal

pub returns-then-out-at : goal.returns-then-out-at
returns-then-out-at c = let a = c.args in place_over a.out.now a.at a.word.now (omega arith)

pub returns-then-room-word : goal.returns-then-room-word
returns-then-room-word c = let a = c.args in place_over a.out.now a.at a.word.now (omega arith)

pub returns : goal.returns
returns c = let a = c.args in
    let e = c.write_word_unchecked-next.ensures in
    place_written a.out.now a.word.now a.at (omega arith) e.0 e.1
