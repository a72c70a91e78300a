use native.Mathlib.Omega.{arith}
use mathlib.Core.Path.{◌≡◌, refl}
use Prim.Native.Nat.{ℕ, ◌≤◌, ◌<◌, ◌-◌, ◌+◌}
use mathlib.Core.List.{List, [], ◌∷◌, ◌++◌}
use lib.ListN.{length, set, get_or, length-set, take, drop}
use Rattle.schedule.specs.Record.{vacant}
use Rattle.schedule.proofs.Lists.{shifted, shift_read, shift_more, shift_last}
use Rattle.schedule.proofs.order.remove_first.Goals as goal

turn : (i : ℕ) (l s : List (List ℕ)) → i + 1 ≤ length l - 1 → s ≡ shifted i l → set s i (get_or s (i + 1) []) ≡ shifted (i + 1) l
turn i l s h e = rw (e, shift_read [] i l (omega arith)) (shift_more [] i l (omega arith))

last_of : (i n : ℕ) (l s : List (List ℕ)) → i ≡ n - 1 → 0 < n → n ≤ length l → s ≡ shifted i l → set s (n - 1) vacant ≡ drop 1 (take n l) ++ vacant ∷ drop n l
last_of i n l s q p h e = rw (e, q) (shift_last vacant [] n l p h)

pub loop-i-init : goal.loop-i-init
loop-i-init c = refl

pub loop-i-preserved : goal.loop-i-preserved
loop-i-preserved c = turn c.loop-i.i c.args.s.now c.loop-i.s (omega arith) c.loop-i.invariant

pub shape_of-s : goal.shape_of-s
shape_of-s c = simp length-set (omega arith)

pub returns : goal.returns
returns c = last_of c.loop-i.i c.args.count c.args.s.now c.loop-i.s (omega arith) (omega arith) (omega arith) c.loop-i.invariant
