-- Where the source's own timing departs from (5.3): two segments sent at 0 with an RTO of 1 s, and the ACK of the first at
-- 10 ms. The source's timer runs on from the second's last sending; the edition clock restarts it, as the RFC does.
use Rattle.std.specs.Prelude.{Some}
use mathlib.Core.Path.{◌≡◌, refl}
use mathlib.Core.Bool.{true}
use mathlib.Core.List.{[], ◌∷◌}
use lib.ListN.{replicate}
use Rattle.timer.specs.Timer.{new_timer, started_at_unchecked}
use Rattle.notes.specs.Notes.{SegMetas, new_notes, sent, expiry}
use Rattle.clock.specs.EditionClock.{on_ack}
use Rattle.clock.specs.Clock.{ClockState, timer_of, new_clock, arm_oldest, Accepted, rearm_after_ack}
use Rattle.clock.specs.declared.Timing.TheVariants.{Single, Edition}
use Rattle.edition_clock.specs.Section5.{min_rto, on_new_ack}
use Rattle.edition_clock.specs.AlongARun.{timer_with}

abbrev clock : ClockState
clock = new_clock [] []

abbrev two : SegMetas
two = sent (sent (new_notes (replicate 7 0 ∷ replicate 7 0 ∷ [])) 0 0 min_rto) 1 0 min_rto

abbrev first : Accepted
first = record { time = 10000000; seq = 0; rto = min_rto; oldest = Some 1 }

pub source_5_3_smallest : (timer_of (rearm_after_ack Single clock two first)).deadline ≡ Some 1000000000
unfolding rearm_after_ack arm_oldest expiry sent new_notes new_clock new_timer started_at_unchecked
source_5_3_smallest = refl

pub edition_5_3_smallest : timer_with (rearm_after_ack Edition clock two first) min_rto ≡ on_new_ack true 10000000 min_rto
unfolding rearm_after_ack on_ack new_clock new_timer started_at_unchecked
edition_5_3_smallest = refl
