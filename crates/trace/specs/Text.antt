-- The text of a run's forward events (document 01, at its end): a head line, then a line for each event.
use Rattle.std.specs.Prelude.{ℕ, cond, List, [], ◌∷◌, ◌++◌, map, length, ltb, Err}
use Rattle.refusal.specs.Refusal.{ascii}
use Rattle.refusal.specs.declared.Refusal.TheVariants.{State}
use Rattle.rows.specs.Rows.{as_number}
use Rattle.events.specs.Events.{ForwardEvent, events_of}
use Rattle.text.specs.Letters.{tab, comma, line_feed}
use Rattle.text.specs.Decimal.{digits}
use Rattle.text.specs.Place.{PlaceExit, place_exit, place}

-- texts with a letter between each and the next
unfoldable pub parted : ℕ → List (List ℕ) → List ℕ
parted letter [] = []
parted letter (t ∷ []) = t
parted letter (t ∷ u ∷ ts) = t ++ (letter ∷ []) ++ parted letter (u ∷ ts)

-- fields parted by tabs, and a line feed
unfoldable pub line : List (List ℕ) → List ℕ
line fields = parted tab fields ++ (line_feed ∷ [])

-- several numbers joined by commas, none as a hyphen
unfoldable pub joined : List ℕ → List ℕ
joined [] = ascii "-"
joined (n ∷ ns) = parted comma (map digits (n ∷ ns))

unfoldable pub columns : ℕ → ℕ → List ℕ → List ℕ → List ℕ
columns seq again delays folds = line (digits seq ∷ digits again ∷ joined delays ∷ joined folds ∷ [])

-- the number, 0 first or 1 again, the delays in ms and the folds of the copies
unfoldable pub event_line : ForwardEvent → List ℕ
event_line e = columns e.seq (as_number e.retransmission) e.delays e.folds

unfoldable pub event_lines : List ForwardEvent → List ℕ
event_lines [] = []
event_lines (e ∷ es) = event_line e ++ event_lines es

unfoldable pub head_line : List ℕ
head_line = line (ascii "seq" ∷ ascii "again" ∷ ascii "delays" ∷ ascii "folds" ∷ [])

unfoldable pub events_text : List ForwardEvent → List ℕ
events_text es = head_line ++ event_lines es

-- a text of the events in the first rows at the front of a lent buffer; 9 where the rows are fewer than the count
abbrev pub from_rows : List ℕ → ℕ → List (List ℕ) → (List ForwardEvent → List ℕ) → PlaceExit
from_rows buffer count rows text =
    cond (ltb (length rows) count) (place_exit buffer (Err State)) (place buffer 0 (text (events_of count rows)))

unfoldable pub write_events : List ℕ → ℕ → List (List ℕ) → PlaceExit
write_events buffer count rows = from_rows buffer count rows events_text
