-- The page for the job bag (docs/REFERENCE.md, section 10): the forward events of a run in columns, between a head line
-- and a line of totals.
use Rattle.std.specs.Prelude.{ℕ, ◌+◌, Bool, true, false, cond, List, [], ◌∷◌, ◌++◌, ltb, length, get_or, Err}
use Rattle.refusal.specs.Refusal.{ascii}
use Rattle.refusal.specs.Order.{verdict, decide}
use Rattle.rows.specs.Rows.{as_number}
use Rattle.events.specs.Events.{ForwardEvent, events_of}
use Rattle.lent_events.specs.Checks.{event_checks}
use Rattle.text.specs.Letters.{line_feed}
use Rattle.text.specs.Decimal.{digits, right_in, left_in}
use Rattle.text.specs.Place.{PlaceExit, place_exit, place}

-- a text at the right or the left end of a column
pub data Side : Type 0 where
  Right : Side
  Left : Side

pub record Column : Type 0 where
  pub side : Side
  pub width : ℕ
  pub text : List ℕ

abbrev pub right : ℕ → List ℕ → Column
right width text = record { side = Right; width = width; text = text }

abbrev pub left : ℕ → List ℕ → Column
left width text = record { side = Left; width = width; text = text }

unfoldable pub aligned : Side → ℕ → List ℕ → List ℕ
aligned Right width text = right_in width text
aligned Left width text = left_in width text

-- columns side by side, and a line feed
unfoldable pub line : List Column → List ℕ
line [] = line_feed ∷ []
line (c ∷ cs) = aligned c.side c.width c.text ++ line cs

abbrev pub seq_width : ℕ
seq_width = 10

abbrev pub sent_width : ℕ
sent_width = 8

-- a copy's delay or fold
abbrev pub copy_width : ℕ
copy_width = 13

-- what is left blank at the end
abbrev pub margin_width : ℕ
margin_width = 2

abbrev pub total_width : ℕ
total_width = 24

-- what stands in a line, of the head or of an event
pub record Entries : Type 0 where
  pub seq : List ℕ
  pub sent : List ℕ
  pub delay1 : List ℕ
  pub delay2 : List ℕ
  pub fold1 : List ℕ
  pub fold2 : List ℕ

abbrev pub in_places : Entries → List Column
in_places e =
    right seq_width e.seq
    ∷ left sent_width e.sent
    ∷ right copy_width e.delay1
    ∷ right copy_width e.delay2
    ∷ right copy_width e.fold1
    ∷ right copy_width e.fold2
    ∷ left margin_width []
    ∷ []

abbrev pub head_entries : Entries
head_entries =
    record {
      seq = ascii "seq";
      sent = ascii "sent";
      delay1 = ascii "delay1";
      delay2 = ascii "delay2";
      fold1 = ascii "fold1";
      fold2 = ascii "fold2";
    }

unfoldable pub head_line : List ℕ
head_line = line (in_places head_entries)

-- sent first or again
unfoldable pub sent_word : Bool → List ℕ
sent_word false = ascii "first"
sent_word true = ascii "again"

-- the number of a copy, counted from 0; nothing where there is no such copy
unfoldable pub of_copy : ℕ → List ℕ → List ℕ
of_copy index ns = cond (ltb index (length ns)) (digits (get_or ns index 0)) []

abbrev pub event_entries : ForwardEvent → Entries
event_entries e =
    record {
      seq = digits e.seq;
      sent = sent_word e.retransmission;
      delay1 = of_copy 0 e.delays;
      delay2 = of_copy 1 e.delays;
      fold1 = of_copy 0 e.folds;
      fold2 = of_copy 1 e.folds;
    }

unfoldable pub event_line : ForwardEvent → List ℕ
event_line e = line (in_places (event_entries e))

unfoldable pub event_lines : List ForwardEvent → List ℕ
event_lines [] = []
event_lines (e ∷ es) = event_line e ++ event_lines es

-- the copies of all events
unfoldable pub copy_count : List ForwardEvent → ℕ
copy_count [] = 0
copy_count (e ∷ es) = length e.delays + copy_count es

-- the events marked again
unfoldable pub repeat_count : List ForwardEvent → ℕ
repeat_count [] = 0
repeat_count (e ∷ es) = as_number e.retransmission + repeat_count es

abbrev pub totals : List ForwardEvent → List Column
totals es =
    right total_width (digits (length es))
    ∷ right total_width (digits (copy_count es))
    ∷ right total_width (digits (repeat_count es))
    ∷ []

unfoldable pub last_line : List ForwardEvent → List ℕ
last_line es = line (totals es)

unfoldable pub page : List ForwardEvent → List ℕ
page es = head_line ++ (event_lines es ++ last_line es)

-- the page at the front of a lent buffer and its length; 9, 10, or 5 where the buffer is shorter
unfoldable pub write_report : List ℕ → ℕ → List (List ℕ) → PlaceExit
write_report buffer count rows =
    decide (verdict (event_checks count rows)) (λ r. place_exit buffer (Err r))
    (place buffer 0 (page (events_of count rows)))
