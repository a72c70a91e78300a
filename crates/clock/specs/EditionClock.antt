-- RFC 6298, section 5, (5.1) to (5.6), and document 01, "The edition clock". The timer runs while it has a deadline.
use Rattle.std.specs.Prelude.{ℕ, Bool, true, false, cond}
use Rattle.timer.specs.Timer.{active, started_at_unchecked}
use Rattle.timer.specs.declared.RetransmissionTimer.{RetransmissionTimer}
use Rattle.clock.specs.declared.Due.{Due}
use Rattle.clock.specs.declared.Due.TheVariants.{Idle}

abbrev pub is_running : RetransmissionTimer → Bool
is_running t = active t.deadline

-- (5.1): every time a packet with data is sent, also again, a timer that isn't running is started to expire after
-- the RTO. An expiry has stopped it, the earliest packet is sent again, (5.4), and the RTO is doubled, (5.5), so this
-- is (5.6) too.
unfoldable pub on_send : RetransmissionTimer → ℕ → ℕ → RetransmissionTimer
on_send t now rto = cond (is_running t) t (started_at_unchecked t now rto)

-- The idle rule. (5.2) turns the timer off when an ACK leaves nothing outstanding; document 01 departs from it: the
-- timer runs on, restarted as by (5.3), and an expiry with nothing outstanding then only stops it.
abbrev pub on_last_ack : RetransmissionTimer → ℕ → ℕ → RetransmissionTimer
on_last_ack t now rto = started_at_unchecked t now rto

abbrev pub idle_expiry : Due
idle_expiry = Idle

-- (5.3): an ACK of new data restarts the timer, to expire after the current RTO
unfoldable pub on_ack : Bool → RetransmissionTimer → ℕ → ℕ → RetransmissionTimer
on_ack true t now rto = started_at_unchecked t now rto
on_ack false t now rto = on_last_ack t now rto
