-- Document 01, "Bounds of a setup" and "Turned away", check 10, of a start; in nanoseconds.
use Rattle.std.specs.Prelude.{ℕ, ◌+◌, Bool, ◌||◌, nat_lt}
use Rattle.bounds.specs.Bounds.{max_duration, max_time}

-- the time and the duration that are given, and the deadline that is to be stored
abbrev pub start_late : ℕ → ℕ → Bool
start_late now duration = nat_lt max_time now || (nat_lt max_duration duration || nat_lt max_time (now + duration))
