use Rattle.std.specs.Prelude.{Some}
use mathlib.Core.Path.{◌≡◌, refl, sym, ap, ◌∙◌}
use native.Mathlib.Omega.{arith}
use mathlib.Core.Bool.{true, false}
use Rattle.text.proofs.Runs.{run_from_start, from_end, from_other, from_large, from_next, tenth_small, tenth_large}
use lib.ListN.{drop, get_or}
use Rattle.text.specs.Decimal.{is_digit}
use Rattle.text.proofs.read_run.Goals as goal

pub loop-i-init : goal.loop-i-init
loop-i-init c = (refl, omega arith, omega arith)

pub returns-then-not-is_digit : goal.returns-then-not-is_digit
returns-then-not-is_digit c = let l = c.loop-i in
    let a = c.args in
    let e : is_digit (get_or a.s.now l.i 0) ≡ false = sym c.is_digit.ensures ∙ c.if-not-is_digit.true in
    sym (from_other a.s.now a.max l.sum l.i (omega arith) e) ∙ l.invariant.0 ∙ run_from_start a.max a.at (drop a.at a.s.now)

pub digit_value-d-requires : goal.digit_value-d-requires
digit_value-d-requires c = sym c.is_digit.ensures ∙ c.if-not-is_digit.false

pub returns-then-max-sum : goal.returns-then-max-sum
returns-then-max-sum c = let l = c.loop-i in
    let a = c.args in
    let e : is_digit (get_or a.s.now l.i 0) ≡ true = sym c.is_digit.ensures ∙ c.if-not-is_digit.false in
    let t = tenth_small a.max l.sum c.if-max-sum.true in
    sym (from_large a.s.now a.max l.sum l.i (omega arith) e (omega arith)) ∙ l.invariant.0 ∙ run_from_start a.max a.at (drop a.at a.s.now)

pub overflow_mul-tens : goal.overflow_mul-tens
overflow_mul-tens c = let l = c.loop-i in
    let a = c.args in
    let t = tenth_large a.max l.sum c.if-max-sum.false in omega arith

pub overflow_sub-max : goal.overflow_sub-max
overflow_sub-max c = let l = c.loop-i in
    let a = c.args in
    tenth_large a.max l.sum c.if-max-sum.false

pub returns-then-max-tens : goal.returns-then-max-tens
returns-then-max-tens c = let l = c.loop-i in
    let a = c.args in
    let e : is_digit (get_or a.s.now l.i 0) ≡ true = sym c.is_digit.ensures ∙ c.if-not-is_digit.false in
    let d = c.digit_value-d.ensures.0 in
    sym (from_large a.s.now a.max l.sum l.i (omega arith) e (omega arith)) ∙ l.invariant.0 ∙ run_from_start a.max a.at (drop a.at a.s.now)

pub overflow_add-sum : goal.overflow_add-sum
overflow_add-sum c = let l = c.loop-i in
    let a = c.args in
    let t = tenth_large a.max l.sum c.if-max-sum.false in omega arith

pub loop-i-preserved : goal.loop-i-preserved
loop-i-preserved c = let l = c.loop-i in
    let a = c.args in
    let e : is_digit (get_or a.s.now l.i 0) ≡ true = sym c.is_digit.ensures ∙ c.if-not-is_digit.false in
    let t = tenth_large a.max l.sum c.if-max-sum.false in
    let d = c.digit_value-d.ensures.0 in
    (rw d (sym (from_next a.s.now a.max l.sum l.i (omega arith) e (omega arith)) ∙ l.invariant.0), omega arith, omega arith)

pub returns : goal.returns
returns c = let l = c.loop-i in
    let a = c.args in
    let m = c.max.ensures in
    let e : c.max.result ≡ l.i = omega arith in
    ap ((λ x. Some (l.sum, x))) e ∙ sym (from_end a.s.now a.max l.sum l.i (omega arith)) ∙ l.invariant.0 ∙ run_from_start a.max a.at (drop a.at a.s.now)
