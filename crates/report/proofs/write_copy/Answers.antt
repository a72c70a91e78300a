use mathlib.Core.Path.{ap}
use native.Mathlib.Omega.{arith}
use lib.ListN.{length}
use Rattle.report.proofs.Lines.{blank_copy, number_copy, same_written}
use Rattle.report.proofs.write_copy.Goals as goal

pub write_word_unchecked-requires : goal.write_word_unchecked-requires
write_word_unchecked-requires c = let a = c.args in
    let p = c.requires in
    let e = ap length (blank_copy a.copies a.index a.n (omega arith)) in omega arith

pub returns-then-copies-index : goal.returns-then-copies-index
returns-then-copies-index c = let a = c.args in
    same_written a.out.now a.at (blank_copy a.copies a.index a.n (omega arith)) c.write_word_unchecked.ensures

pub write_right_unchecked-requires : goal.write_right_unchecked-requires
write_right_unchecked-requires c = let a = c.args in
    let p = c.requires in
    let e = ap length (number_copy a.copies a.index a.n (omega arith)) in omega arith

pub returns : goal.returns
returns c = let a = c.args in
    same_written a.out.now a.at (number_copy a.copies a.index a.n (omega arith)) c.write_right_unchecked.ensures
