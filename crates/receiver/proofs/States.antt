-- What a receiver's state that isn't broken is like.
use Prim.Native.Nat.{ℕ, ◌≤◌, ◌<◌}
use mathlib.Core.Path.{◌≡◌}
use mathlib.Core.Bool.{false}
use mathlib.Core.List.{List}
use borrow.Author.Tests.{ltb-false, leb-false}
use lib.ListN.{length}
use Rattle.bounds.specs.Bounds.{count_limit}
use Rattle.refusal.proofs.Laws.{none_of}
use Rattle.receiver.specs.State.{state_broken, counts_broken}

pub state_low : (base filled : ℕ) (output : List ℕ) → state_broken base filled output ≡ false → (base ≤ 4294901760) × (filled ≤ length output)
unfolding state_broken
state_low base filled output e = let none = none_of _ e in (ltb-false _ _ none.0, ltb-false _ _ none.1.0)

pub counts_low : (a b c : ℕ) → counts_broken a b c ≡ false → (a < count_limit) × (b < count_limit) × (c < count_limit)
unfolding counts_broken
counts_low a b c e = let none = none_of _ e in (leb-false _ _ none.0, leb-false _ _ none.1.0, leb-false _ _ none.1.1.0)
