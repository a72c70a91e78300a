-- What only the functions below a session's cite.
use Rattle.std.specs.Prelude.{ℕ, min}
use Rattle.session.specs.declared.Timeout.{Timeout}
use Rattle.session.specs.declared.Timeout.TheVariants as timeout

-- how many of so many outstanding numbers a Go-Back-N timeout sends again
abbrev pub resend_count : ℕ → Timeout → ℕ
resend_count n timeout.All = n
resend_count n timeout.Earliest = min 1 n
resend_count n (timeout.Number m) = n
