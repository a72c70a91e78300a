use Rattle.std.proofs.Common.{◌≡◌, ◌≤◌, take, leb}
use Rattle.std.specs.List.{count_by}
use Rattle.multi_timer.proofs.checks.due_count.Given as goal

abbrev pub invariant-loop-deadline : goal.invariant-loop-deadline
invariant-loop-deadline l = (l.n ≤ l.deadline-index) × (l.n ≡ count_by (λ d. leb d l.time) (take l.deadline-index l.deadline-items))
