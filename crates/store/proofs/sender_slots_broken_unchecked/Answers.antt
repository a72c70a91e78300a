use native.Mathlib.Omega.{arith}
use native.Mathlib.Nat.{mod-lt, sub-zero}
use Rattle.store.proofs.Tests.{slot_in}
use Rattle.store.proofs.Scans.{sender_scan}
use Prim.Native.Nat.{ℕ, ◌-◌, ◌%◌, min}
use mathlib.Core.Path.{◌≡◌}
use Rattle.store.proofs.sender_slots_broken_unchecked.Goals as goal

sub_min : (a b : ℕ) → a - b ≡ a - min a b
sub_min a b = omega arith

pub mark_unchecked-acknowledged-requires : goal.mark_unchecked-acknowledged-requires
mark_unchecked-acknowledged-requires c = slot_in c.args.store.now c.args.base c.args.window c.requires.0 c.requires.1

pub overflow_sub-window : goal.overflow_sub-window
overflow_sub-window c = omega (arith, mod-lt c.args.base c.requires.0)

pub sender_part_broken_unchecked-to_the_end-requires : goal.sender_part_broken_unchecked-to_the_end-requires
sender_part_broken_unchecked-to_the_end-requires c = (omega (arith, mod-lt c.args.base c.requires.0), c.requires.1)

pub sender_part_broken_unchecked-from_the_start-requires : goal.sender_part_broken_unchecked-from_the_start-requires
sender_part_broken_unchecked-from_the_start-requires c = (omega arith, omega (arith, mod-lt c.args.base c.requires.0, c.requires.1))

pub returns : goal.returns
returns c = let a = c.args in
    rw (c.mark_unchecked-acknowledged.ensures, c.sender_part_broken_unchecked-to_the_end.ensures, c.sender_part_broken_unchecked-from_the_start.ensures, c.saturating_sub-behind.ensures, sub_min c.args.count (c.args.window - c.args.base % c.args.window), sub-zero)
    (sender_scan a.selective a.store.now a.window a.base a.count c.requires.0)
