use native.Mathlib.Omega.{arith}
use mathlib.Core.Path.{◌≡◌, ◌∙◌, ap}
use Prim.Native.Nat.{ℕ, ◌-◌, ◌+◌, ◌<◌}
use mathlib.Core.List.{List}
use lib.ListN.{take, get_or, length}
use native.Mathlib.Nat.{sub-zero}
use Rattle.schedule.specs.Record.{free_from}
use Rattle.schedule.specs.Internal.{block_size, first_unset, place_marks}
use Rattle.schedule.specs.declared.Block.{Block}
use Rattle.schedule.proofs.FreePlaces.{some_left, free_head}
use Rattle.schedule.proofs.Marks.{marks_length, unset_free, unset_none}
use Rattle.schedule.proofs.places.lowest_unmarked.Goals as goal

less : (n b : ℕ) → n - (b + block_size) ≡ n - b - block_size
less n b = omega arith

pub loop-base-init : goal.loop-base-init
loop-base-init c = let a = c.args in (some_left a.places 0 (take a.count a.s.now) c.requires.1, ap (λ (n : ℕ). free_from n 0 (take a.count a.s.now)) (sub-zero a.places))

pub first_unset-k-requires : goal.first_unset-k-requires
first_unset-k-requires c = let a = c.args in
    ap (λ (b : Block). length b.used) c.block_at-block.ensures ∙ marks_length block_size c.loop-base.base (take a.count a.s.now)

pub overflow_add-result : goal.overflow_add-result
overflow_add-result c = let a = c.args in
    let w = take a.count a.s.now in
    let e : c.first_unset-k.result ≡ first_unset (place_marks block_size c.loop-base.base w) = c.first_unset-k.ensures ∙ ap (λ (b : Block). first_unset b.used) c.block_at-block.ensures in
    let some : 0 < length (free_from (a.places - c.loop-base.base) c.loop-base.base w) = rw c.loop-base.invariant.1 c.requires.1 in
    let q = ap (λ (x : ℕ). c.loop-base.base + x) e ∙ unset_free block_size (a.places - c.loop-base.base) c.loop-base.base w some (omega arith) in
    let h = (free_head (a.places - c.loop-base.base) c.loop-base.base w some).0 in
    omega arith

pub returns-then-k-lt256 : goal.returns-then-k-lt256
returns-then-k-lt256 c = let a = c.args in
    let w = take a.count a.s.now in
    let e : c.first_unset-k.result ≡ first_unset (place_marks block_size c.loop-base.base w) = c.first_unset-k.ensures ∙ ap (λ (b : Block). first_unset b.used) c.block_at-block.ensures in
    let some : 0 < length (free_from (a.places - c.loop-base.base) c.loop-base.base w) = rw c.loop-base.invariant.1 c.requires.1 in
    ap (λ (x : ℕ). c.loop-base.base + x) e ∙ unset_free block_size (a.places - c.loop-base.base) c.loop-base.base w some (omega arith) ∙ ap (λ (xs : List ℕ). get_or xs 0 0) c.loop-base.invariant.1

pub loop-base-preserved : goal.loop-base-preserved
loop-base-preserved c = let a = c.args in
    let w = take a.count a.s.now in
    let e : c.first_unset-k.result ≡ first_unset (place_marks block_size c.loop-base.base w) = c.first_unset-k.ensures ∙ ap (λ (b : Block). first_unset b.used) c.block_at-block.ensures in
    let some : 0 < length (free_from (a.places - c.loop-base.base) c.loop-base.base w) = rw c.loop-base.invariant.1 c.requires.1 in
    let f = unset_none block_size (a.places - c.loop-base.base) c.loop-base.base w some (omega arith) in
    (omega (arith, f.0), ap (λ (n : ℕ). free_from n (c.loop-base.base + block_size) w) (less a.places c.loop-base.base) ∙ f.1 ∙ c.loop-base.invariant.1)

pub returns : goal.returns
returns c = absurd (omega arith)

-- no place is free in the last block: that can't be
pub returns-else-k-lt256 : goal.returns-else-k-lt256
returns-else-k-lt256 c = let a = c.args in
    let w = take a.count a.s.now in
    let e : c.first_unset-k.result ≡ first_unset (place_marks block_size c.loop-base.base w) = c.first_unset-k.ensures ∙ ap (λ (b : Block). first_unset b.used) c.block_at-block.ensures in
    let some : 0 < length (free_from (a.places - c.loop-base.base) c.loop-base.base w) = rw c.loop-base.invariant.1 c.requires.1 in
    let f = (unset_none block_size (a.places - c.loop-base.base) c.loop-base.base w some (omega arith)).0 in
    absurd (omega (arith, f))
