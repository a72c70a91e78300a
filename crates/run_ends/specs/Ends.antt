-- Document 01, "Turned away", the ends of a run: how a run of `run_transfer` ended and why, by its answer and what it
-- left in the lent slices alone.
use Rattle.std.specs.Prelude.{ℕ, ◌+◌, ◌*◌, ◌≡◌, Bool, true, false, List, [], ◌∷◌, ltb, Float, length, Ok, Result}
use Rattle.refusal.specs.Refusal.{ascii}
use Rattle.rows.specs.Rows.{as_number}
use Rattle.schedule.specs.Record.{record_length}
use Rattle.schedule.specs.State.{Schedule, schedule, copies, lacks_room}
use Rattle.schedule.specs.Schedule.{scheduler}
use Rattle.channel.specs.Faults.{deliveries_of}
use Rattle.channel.specs.declared.ChannelConfig.{ChannelConfig}
use Rattle.path.specs.Rolls.{packet_rolls, rolls_at}
use Rattle.session.specs.Sending.{window_of}
use Rattle.setup.specs.declared.TransferConfig.{TransferConfig}
use Rattle.step.specs.State.{Given, Lent}
use Rattle.step.specs.declared.End.{End}
use Rattle.step.specs.declared.End.TheVariants.{Ended, RollsSpent, EventsFull, ScheduleFull}
use Rattle.transfer.specs.Start.{reverse_config}
use Rattle.transfer.specs.declared.Outcome.{Outcome}
use Rattle.refusal.specs.declared.Refusal.{Refusal}

-- ---- the words
abbrev pub word_of : End → List ℕ
word_of Ended = ascii "ended"
word_of RollsSpent = ascii "rolls spent"
word_of EventsFull = ascii "events full"
word_of ScheduleFull = ascii "schedule full"

-- ---- one direction of the line at the end: how many packets were due on it and how many it carried; the rolls given
-- for it, its setup, its records and places; whether an event entry is free
pub record Line : Type 0 where
  pub due : ℕ
  pub carried : ℕ
  pub rolls : List Float
  pub config : ChannelConfig
  pub records : List (List ℕ)
  pub places : List ℕ
  pub entry_free : Bool

-- each number that the sender used was due once, and then as often as it was to be sent again
abbrev pub forward_line : TransferConfig → Given → Outcome → Lent → Line
forward_line c g o l = record {
  due = (window_of o.sender).next_seq_num + o.driver.retx_submitted;
  carried = o.forward.packets_seen;
  rolls = g.forward_rolls;
  config = c.channel;
  records = l.forward_records;
  places = l.forward_places;
  entry_free = ltb o.driver.events (length l.events);
}

-- an ACK has no event
abbrev pub reverse_line : TransferConfig → Given → Outcome → Lent → Line
reverse_line c g o l = record {
  due = o.driver.ack_sent;
  carried = o.reverse.packets_seen;
  rolls = g.reverse_rolls;
  config = reverse_config c.channel;
  records = l.reverse_records;
  places = l.reverse_places;
  entry_free = true;
}

-- ---- what the next packet would find: each carried one used eight rolls
abbrev pub rolls_used : Line → ℕ
rolls_used x = x.carried * packet_rolls

abbrev pub rolls_spent : Line → Bool
rolls_spent x = ltb (length x.rolls) (rolls_used x + packet_rolls)

-- a record that waits has a length, an unused one is zeros
unfoldable pub waiting_count : List (List ℕ) → ℕ
waiting_count [] = 0
waiting_count (r ∷ rs) = as_number (ltb 0 (record_length r)) + waiting_count rs

abbrev pub schedule_left : Line → Schedule
schedule_left x = schedule x.records x.places (scheduler (waiting_count x.records) 0)

-- fewer free places or unused records than the copies that the next eight rolls grant
abbrev pub schedule_full : Line → Bool
schedule_full x =
    lacks_room (schedule_left x) (copies (deliveries_of x.config (rolls_at x.rolls (rolls_used x))))

-- ---- why a packet that was due was not carried, tested in this order
abbrev pub Stopped : End → Line → Type 0
Stopped Ended x = ⊥
Stopped RollsSpent x = rolls_spent x ≡ true
Stopped EventsFull x = (rolls_spent x ≡ false) × (x.entry_free ≡ false)
Stopped ScheduleFull x = (rolls_spent x ≡ false) × (x.entry_free ≡ true) × (schedule_full x ≡ true)

-- all packets of a line were carried, or all but the last
abbrev pub AllCarried : Line → Type 0
AllCarried x = x.due ≡ x.carried

abbrev pub LastNotCarried : Line → Type 0
LastNotCarried x = x.due ≡ x.carried + 1

-- ---- the end of a run: every packet that was due was carried, or all but one, which couldn't be
pub data EndWhy (e : End) (forward reverse : Line) : Type 0 where
  carried : e ≡ Ended → AllCarried forward → AllCarried reverse → EndWhy e forward reverse
  forward_stopped : LastNotCarried forward → AllCarried reverse → Stopped e forward → EndWhy e forward reverse
  reverse_stopped : AllCarried forward → LastNotCarried reverse → Stopped e reverse → EndWhy e forward reverse

-- of a run's answer, and what it left; each packet that the forward line carried has its event
pub record EndsSo (c : TransferConfig) (g : Given) (o : Outcome) (after : Lent) : Type 0 where
  pub why : EndWhy o.end (forward_line c g o after) (reverse_line c g o after)
  pub events : o.driver.events ≡ o.forward.packets_seen

-- a call that wasn't refused
pub record IsOutcome (a : Result Outcome Refusal) : Type 0 where
  pub outcome : Outcome
  pub is : a ≡ Ok outcome
