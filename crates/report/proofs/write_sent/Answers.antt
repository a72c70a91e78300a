use mathlib.Core.Path.{ap}
use native.Mathlib.Omega.{arith}
use lib.ListN.{length}
use Rattle.report.proofs.Lines.{again_word, first_word, same_written}
use Rattle.report.proofs.write_sent.Goals as goal

pub write_word_unchecked-requires : goal.write_word_unchecked-requires
write_word_unchecked-requires c = let p = c.requires in
    let e = ap length (again_word c.args.again (omega arith)) in omega arith

pub returns-then-again-eq1 : goal.returns-then-again-eq1
returns-then-again-eq1 c = let a = c.args in
    same_written a.out.now a.at (again_word a.again (omega arith)) c.write_word_unchecked.ensures

pub write_word_unchecked-requires-2 : goal.write_word_unchecked-requires-2
write_word_unchecked-requires-2 c = let p = c.requires in
    let e = ap length (first_word c.args.again c.if-again-eq1.false) in omega arith

pub returns : goal.returns
returns c = let a = c.args in
    same_written a.out.now a.at (first_word a.again c.if-again-eq1.false) c.write_word_unchecked-2.ensures
