-- The reference's `submit` (`app/transfer.rs`): a datagram to the forward line, with the note on its segment, its event
-- and its timer. Its count `retx_submitted` is its callers'.
use Rattle.std.specs.Prelude.{ℕ, ◌+◌, ◌≤◌, ◌<◌, ◌≡◌, Bool, false, cond, List, ltb, eqb, Float, length, set, Err, Ok}
use Rattle.std.specs.Prelude.{Option, Result}
use Rattle.bounds.specs.Bounds.{max_datagram, max_duration}
use Rattle.schedule.specs.State.{copies}
use Rattle.schedule.specs.declared.Deliveries.{Deliveries}
use Rattle.path.specs.Direction.{Direction, Good}
use Rattle.path.specs.Path.{left_by_carry, carry, stop_of}
use Rattle.path.specs.declared.Stop.{Stop}
use Rattle.notes.specs.Notes.{SegMetas, sent, sent_again, set_dropped, Timely, ScheduledBelow}
use Rattle.events.specs.Events.{forward_event, row_of}
use Rattle.multi_timer.specs.MultiTimer.{start_full}
use Rattle.clock.specs.Clock.{ClockState, timers_of, Submission, arm_after_submit, Held}
use Rattle.clock.specs.declared.Timing.{Timing}
use Rattle.clock.specs.declared.Timing.TheVariants.{PerNumber}
use Rattle.path.specs.declared.Stop.TheVariants as stop

-- what a submission works on: the forward direction of the line, the notes, the events in the first `written` rows, the
-- timers
pub record Outgoing : Type 0 where
  pub forward : Direction
  pub metas : SegMetas
  pub written : ℕ
  pub events : List (List ℕ)
  pub clock : ClockState

abbrev pub outgoing : Direction → SegMetas → ℕ → List (List ℕ) → ClockState → Outgoing
outgoing forward metas written events clock =
    record { forward = forward; metas = metas; written = written; events = events; clock = clock }

pub record SubmitExit : Type 0 where
  pub outgoing : Outgoing
  pub stop : Option Stop

abbrev pub submit_exit : Outgoing → Option Stop → SubmitExit
submit_exit o s = record { outgoing = o; stop = s }

-- what is noted before the channel is asked: this stands also where the packet ends the run
unfoldable pub note_before : SegMetas → ℕ → Bool → ℕ → ℕ → SegMetas
note_before m seq retransmission now rto = cond retransmission (sent_again m seq now rto) (sent m seq now rto)

-- and when it has answered: whether a segment's first datagram was dropped
unfoldable pub note_after : SegMetas → ℕ → Bool → Deliveries → SegMetas
note_after m seq retransmission ds = cond retransmission m (set_dropped m seq (eqb (copies ds) 0))

abbrev pub entry_free : Outgoing → Bool
entry_free o = ltb o.written (length o.events)

-- a packet that was carried gets its event, and its timer is armed; one that ends the run gets nothing more
abbrev pub on_carriage : Result (Deliveries × ℕ) Stop → Timing → Submission → Outgoing → Outgoing
on_carriage (Ok (ds, fold)) timing x o =
    let metas = note_after o.metas x.seq x.retransmission ds in
    let event = forward_event x.seq x.retransmission ds fold in
    outgoing o.forward metas (o.written + 1) (set o.events o.written (row_of event))
    (arm_after_submit timing o.clock metas x)
on_carriage (Err s) timing x o = o

unfoldable pub submit : Timing → List Float → Submission → List ℕ → Outgoing → SubmitExit
submit timing rolls x wire o =
    let c = carry o.forward rolls (entry_free o) x.time wire in
    let metas = note_before o.metas x.seq x.retransmission x.time x.rto in
    submit_exit
    (on_carriage c.result.answer timing x (outgoing (left_by_carry c) metas o.written o.events o.clock))
    (stop_of c.result.answer)

-- what every submission keeps
pub record GoodOutgoing (o : Outgoing) (rolls : List Float) (now : ℕ) : Type 0 where
  pub forward : Good o.forward rolls
  pub notes : Timely o.metas now
  pub scheduled : ScheduledBelow o.metas
  pub clock : Held o.clock
  pub events : o.written ≤ length o.events

-- and what one asks beside it: a datagram, an RTO within its bound, a row for the number's note, an entry for its timer
pub record CanSubmit (t : Timing) (rolls : List Float) (x : Submission) (wire : List ℕ) (o : Outgoing) : Type 0 where
  pub good : GoodOutgoing o rolls x.time
  pub short : length wire ≤ max_datagram
  pub rto : x.rto ≤ max_duration
  pub row : x.seq < length o.metas.rows
  pub entry : t ≡ PerNumber
      → start_full (timers_of o.clock) o.clock.keys o.clock.deadlines x.seq ≡ false
