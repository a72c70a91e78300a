-- Document 01, `timing/timer.rs` and "Turned away", check 10; the reference's RetransmissionTimer.
use Rattle.std.specs.Prelude.{ℕ, ◌+◌, ◌-◌, ◌%◌, ◌^◌, Bool, true, false, ◌&&◌, ◌||◌, [], ◌∷◌, ◌==◌, nat_le, nat_lt, Err}
use Rattle.std.specs.Prelude.{None, Ok, Option, Result, Some}
use Rattle.bounds.specs.Bounds.{max_time}
use Rattle.duration.specs.Bounds.{start_late}
use Rattle.refusal.specs.Order.{check, verdict, decide}
use Rattle.refusal.specs.declared.Refusal.TheVariants.{Time}
use Rattle.timer.specs.declared.RetransmissionTimer.{RetransmissionTimer}
use Rattle.timer.specs.declared.TimerResult.{TimerResult}
use Rattle.refusal.specs.declared.Refusal.{Refusal}

-- ---- check 10
abbrev pub deadline_too_late : Option ℕ → Bool
deadline_too_late None = false
deadline_too_late (Some d) = nat_lt max_time d

-- held, given and to be stored
abbrev pub start_too_late : RetransmissionTimer → ℕ → ℕ → Bool
start_too_late t now duration = deadline_too_late t.deadline || start_late now duration

abbrev pub read_too_late : RetransmissionTimer → ℕ → Bool
read_too_late t now = deadline_too_late t.deadline || nat_lt max_time now

-- ---- what the calls do
-- one more at start and cancel; after 2 ^ 64 - 1 comes 0
abbrev pub next_generation : ℕ → ℕ
next_generation g = (g + 1) % 2 ^ 64

abbrev pub timer : Option ℕ → ℕ → RetransmissionTimer
timer d g = record { deadline = d; generation = g }

abbrev pub timer_result : RetransmissionTimer → Result ℕ Refusal → TimerResult
timer_result t a = record { timer = t; answer = a }

unfoldable pub started_at_unchecked : RetransmissionTimer → ℕ → ℕ → RetransmissionTimer
started_at_unchecked t now duration = timer (Some (now + duration)) (next_generation t.generation)

unfoldable pub cancelled_unchecked : RetransmissionTimer → RetransmissionTimer
cancelled_unchecked t = timer None (next_generation t.generation)

abbrev pub active : Option ℕ → Bool
active None = false
active (Some d) = true

-- at the deadline it is expired
abbrev pub expired_at : Option ℕ → ℕ → Bool
expired_at None now = false
expired_at (Some d) now = nat_le d now

abbrev pub deadline_remaining : Option ℕ → ℕ → Result (Option ℕ) Refusal
deadline_remaining None now = Ok None
deadline_remaining (Some d) now = Ok (Some (d - now))

-- ---- the entry points
unfoldable pub new_timer : RetransmissionTimer
new_timer = timer None 0

unfoldable pub started_at : RetransmissionTimer → ℕ → ℕ → TimerResult
started_at t now duration =
    decide (verdict (check (start_too_late t now duration) Time ∷ []))
    (λ r. timer_result t (Err r))
    (timer_result (started_at_unchecked t now duration) (Ok (next_generation t.generation)))

unfoldable pub cancelled : RetransmissionTimer → TimerResult
cancelled t =
    decide (verdict (check (deadline_too_late t.deadline) Time ∷ []))
    (λ r. timer_result t (Err r))
    (timer_result (cancelled_unchecked t) (Ok (next_generation t.generation)))

unfoldable pub is_active : RetransmissionTimer → Result Bool Refusal
is_active t =
    decide (verdict (check (deadline_too_late t.deadline) Time ∷ [])) Err
    (Ok (active t.deadline))

unfoldable pub remaining_at : RetransmissionTimer → ℕ → Result (Option ℕ) Refusal
remaining_at t now =
    decide (verdict (check (read_too_late t now) Time ∷ [])) Err
    (deadline_remaining t.deadline now)

unfoldable pub is_expired_at : RetransmissionTimer → ℕ → Result Bool Refusal
is_expired_at t now =
    decide (verdict (check (read_too_late t now) Time ∷ [])) Err
    (Ok (expired_at t.deadline now))

-- an event of an older generation is stale
unfoldable pub is_expired_for_at : RetransmissionTimer → ℕ → ℕ → Result Bool Refusal
is_expired_for_at t expected now =
    decide (verdict (check (read_too_late t now) Time ∷ [])) Err
    (Ok (t.generation == expected && expired_at t.deadline now))
