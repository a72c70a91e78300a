-- A run's answer and slices allow one end only.
use native.Mathlib.Omega.{arith}
use mathlib.Core.Path.{◌≡◌, refl, sym, ◌∙◌}
use mathlib.Core.Bool.{Bool, true, false, true≢false}
use Rattle.step.specs.declared.End.{End}
use Rattle.step.specs.declared.End.TheVariants.{Ended, RollsSpent, EventsFull, ScheduleFull}
use Rattle.run_ends.specs.Ends.{Line, Stopped, AllCarried, LastNotCarried, EndWhy}
use Rattle.run_ends.specs.Ends.EndWhy.{carried, forward_stopped, reverse_stopped}

contrary : {A : Type 0} {b : Bool} → b ≡ true → b ≡ false → A
contrary p q = absurd (true≢false (sym p ∙ q))

-- the tests exclude one another
stop_unique : (x : Line) (e f : End) → Stopped e x → Stopped f x → e ≡ f
stop_unique x RollsSpent RollsSpent p q = refl
stop_unique x RollsSpent EventsFull p q = contrary p q.0
stop_unique x RollsSpent ScheduleFull p q = contrary p q.0
stop_unique x EventsFull RollsSpent p q = contrary q p.0
stop_unique x EventsFull EventsFull p q = refl
stop_unique x EventsFull ScheduleFull p q = contrary q.1 p.1
stop_unique x ScheduleFull RollsSpent p q = contrary q p.0
stop_unique x ScheduleFull EventsFull p q = contrary p.1 q.1
stop_unique x ScheduleFull ScheduleFull p q = refl
stop_unique x Ended f p q = absurd p
stop_unique x RollsSpent Ended p q = absurd q
stop_unique x EventsFull Ended p q = absurd q
stop_unique x ScheduleFull Ended p q = absurd q

not_both : {A : Type 0} (x : Line) → AllCarried x → LastNotCarried x → A
not_both x p q = absurd (omega (arith, p, q))

pub end_unique : {e f : End} {x y : Line} → EndWhy e x y → EndWhy f x y → e ≡ f
end_unique (carried p a b) (carried q c d) = p ∙ sym q
end_unique {x = x} (carried p a b) (forward_stopped c d w) = not_both x a c
end_unique {y = y} (carried p a b) (reverse_stopped c d w) = not_both y b d
end_unique {x = x} (forward_stopped a b v) (carried q c d) = not_both x c a
end_unique {e} {f} {x} (forward_stopped a b v) (forward_stopped c d w) = stop_unique x e f v w
end_unique {x = x} (forward_stopped a b v) (reverse_stopped c d w) = not_both x c a
end_unique {y = y} (reverse_stopped a b v) (carried q c d) = not_both y d b
end_unique {x = x} (reverse_stopped a b v) (forward_stopped c d w) = not_both x a c
end_unique {e} {f} {y = y} (reverse_stopped a b v) (reverse_stopped c d w) = stop_unique y e f v w
