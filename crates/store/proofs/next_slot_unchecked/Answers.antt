use mathlib.Core.Path.{◌≡◌, sym, ap, ◌∙◌}
use Prim.Native.Nat.{ℕ, ◌+◌, ◌%◌, ◌<◌}
use native.Mathlib.Omega.{arith}
use native.Mathlib.Nat.{mod_self, mod-eq_of_lt}
use Rattle.store.proofs.next_slot_unchecked.Goals as goal

pub returns-then-next-window : goal.returns-then-next-window
returns-then-next-window c = let e : c.args.slot + 1 ≡ c.args.window = omega arith in
    sym (ap (λ (n : ℕ). n % c.args.window) e ∙ mod_self c.args.window)

pub returns-else-next-window : goal.returns-else-next-window
returns-else-next-window c = let h : c.args.slot + 1 < c.args.window = omega arith in
    sym (mod-eq_of_lt h)
