-- Document 01's two lines for the one byte 0x41, and lines with no copy and with two.
use mathlib.Core.Path.{◌≡◌, refl}
use mathlib.Core.Bool.{false}
use mathlib.Core.List.{[], ◌∷◌, ◌++◌}
use Rattle.refusal.specs.Refusal.{ascii}
use Rattle.events.specs.Events.{ForwardEvent, event_of}
use Rattle.text.specs.Decimal.{digits_in, digits}
use Rattle.trace.specs.Text.{parted, line, joined, columns, head_line, event_line, event_lines, events_text}

abbrev first : ForwardEvent
first = record { seq = 0; retransmission = false; delays = 5 ∷ []; folds = 510 ∷ [] }

pub record KnownValues : Type 0 where
  pub one : events_text (first ∷ []) ≡ ascii "seq\tagain\tdelays\tfolds\n" ++ ascii "0\t0\t5\t510\n"
  pub lost : event_line (event_of (7 ∷ 1 ∷ 0 ∷ 0 ∷ 0 ∷ 0 ∷ 0 ∷ [])) ≡ ascii "7\t1\t-\t-\n"
  pub twice : event_line (event_of (12 ∷ 0 ∷ 2 ∷ 5 ∷ 60 ∷ 300 ∷ 300 ∷ [])) ≡ ascii "12\t0\t5,60\t300,300\n"

pub known_values : KnownValues
unfolding digits_in digits parted line joined columns head_line event_of event_line event_lines events_text
known_values = record { one = refl; lost = refl; twice = refl }
