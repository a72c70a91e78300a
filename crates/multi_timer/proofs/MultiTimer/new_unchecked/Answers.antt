use Rattle.std.proofs.Common.{ℕ, List, ap₂}
use Rattle.multi_timer.specs.MultiTimer.{timers_exit, timers, new_unchecked}
use Rattle.multi_timer.proofs.MultiTimer.new_unchecked.Goals as goal

pub returns : goal.returns
unfolding new_unchecked
returns c = ap₂ (λ (k d : List ℕ). timers_exit (timers 0 0) k d) (c.fill.ensures.after (λ y e. e)) (c.fill-2.ensures.after (λ y e. e))
