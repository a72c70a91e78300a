-- The reference's `ForwardEvent` (`app/transfer.rs`), one submission to the forward channel, and how it lies in a row.
use Rattle.std.specs.Prelude.{ℕ, ◌≤◌, ◌≡◌, Bool, List, [], ◌∷◌, map, length, get_or, take, replicate}
use Rattle.rows.specs.Rows.{as_number, is_set}
use Rattle.schedule.specs.State.{copies}
use Rattle.schedule.specs.declared.Deliveries.{Deliveries}
use Rattle.schedule.specs.declared.Deliveries.TheVariants.{Lost, One, Two}

pub record ForwardEvent : Type 0 where
  pub seq : ℕ
  pub retransmission : Bool
  -- of each copy, in ms; none if the datagram was dropped
  pub delays : List ℕ
  pub folds : List ℕ

abbrev pub delays_of : Deliveries → List ℕ
delays_of Lost = []
delays_of (One d) = d ∷ []
delays_of (Two d e) = d ∷ e ∷ []

-- `submit`: all copies of a datagram have the same bytes, so the same fold
abbrev pub forward_event : ℕ → Bool → Deliveries → ℕ → ForwardEvent
forward_event seq retransmission ds fold =
    record { seq = seq; retransmission = retransmission; delays = delays_of ds; folds = replicate (copies ds) fold }

-- the number, whether it is sent again, how many copies, their delays, their folds; 0 where there is no copy
unfoldable pub row_of : ForwardEvent → List ℕ
row_of e =
    e.seq
    ∷ as_number e.retransmission
    ∷ length e.delays
    ∷ get_or e.delays 0 0
    ∷ get_or e.delays 1 0
    ∷ get_or e.folds 0 0
    ∷ get_or e.folds 1 0
    ∷ []

abbrev pub of_copies : ℕ → ℕ → ℕ → List ℕ
of_copies n a b = take n (a ∷ b ∷ [])

unfoldable pub event_of : List ℕ → ForwardEvent
event_of row =
    record {
      seq = get_or row 0 0;
      retransmission = is_set (get_or row 1 0);
      delays = of_copies (get_or row 2 0) (get_or row 3 0) (get_or row 4 0);
      folds = of_copies (get_or row 2 0) (get_or row 5 0) (get_or row 6 0);
    }

-- the reference's `forward_events`: the events in the first rows
unfoldable pub events_of : ℕ → List (List ℕ) → List ForwardEvent
events_of written rows = map event_of (take written rows)

-- at most two copies, and a fold for each
pub record FitsRow (e : ForwardEvent) : Type 0 where
  pub copies : length e.delays ≤ 2
  pub same : length e.folds ≡ length e.delays
