-- The first calls and the bounds' edges, by computation.
use Rattle.std.specs.Prelude.{Err, Ok, Some}
use Rattle.std.proofs.Common.{◌≡◌, true, false, refl}
use Rattle.refusal.specs.Order.{verdict, decide, first_of, numbered, or_else, order}
use Rattle.refusal.specs.declared.Refusal.TheVariants.{Time}
use Rattle.timer.specs.Timer.{timer, timer_result, started_at_unchecked, new_timer, started_at, is_active, is_expired_at, remaining_at}

pub first_calls : (is_active new_timer ≡ Ok false) × (started_at new_timer 3 2 ≡ timer_result (timer (Some 5) 1) (Ok 1))
unfolding is_active started_at new_timer started_at_unchecked decide verdict first_of numbered or_else order
first_calls = (refl, refl)

-- before, at and past the deadline
pub deadline_edges : (is_expired_at (timer (Some 5) 1) 4 ≡ Ok false) × (is_expired_at (timer (Some 5) 1) 5 ≡ Ok true) × (remaining_at (timer (Some 5) 1) 6 ≡ Ok (Some 0))
unfolding is_expired_at remaining_at decide verdict first_of numbered or_else order
deadline_edges = (refl, refl, refl)

-- check 10: 86,400 s from 86,400 s on, and a nanosecond more of the time, or of the duration
pub start_edges : ((started_at new_timer 86400000000000 86400000000000).answer ≡ Ok 1)
    × (started_at new_timer 86400000000001 86400000000000 ≡ timer_result new_timer (Err Time))
    × (started_at new_timer 0 86400000000001 ≡ timer_result new_timer (Err Time))
unfolding started_at new_timer decide verdict first_of numbered or_else order
start_edges = (refl, refl, refl)
