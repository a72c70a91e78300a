-- app/transfer.rs, `Driver`: a run at a moment, with all that it is lent.
use Rattle.std.specs.Prelude.{ℕ, ◌-◌, List, Float}
use Rattle.chunks.specs.Chunks.{chunks_of}
use Rattle.multi_timer.specs.MultiTimer.{timers_exit}
use Rattle.path.specs.Direction.{direction}
use Rattle.notes.specs.Notes.{seg_metas}
use Rattle.session.specs.Sending.{sender_end}
use Rattle.receiving.specs.Receiving.{inbound}
use Rattle.receiving.specs.declared.ServeForwardResult.{ServeForwardResult}
use Rattle.acks.specs.declared.ServeResult.{ServeResult}
use Rattle.submission.specs.Submission.{Outgoing, outgoing}
use Rattle.sending.specs.Retransmit as retransmit
use Rattle.sending.specs.declared.PumpResult.{PumpResult}
use Rattle.sending.specs.declared.Resends.{Resends}
use Rattle.timeouts.specs.Timeouts.{FireState, fire_state}
use Rattle.timeouts.specs.declared.FireResult.{FireResult}
use Rattle.arrivals.specs.Arrivals.{ArrivalState, arrival_state}
use Rattle.arrivals.specs.declared.Arrivals.{Arrivals}
use Rattle.step.specs.declared.Plan.{Plan}
use Rattle.step.specs.declared.State.{State}

-- what a run is given: the file and the rolls of both directions
pub record Given : Type 0 where
  pub file : List ℕ
  pub forward_rolls : List Float
  pub reverse_rolls : List Float

abbrev pub given : List ℕ → List Float → List Float → Given
given file forward reverse = record { file = file; forward_rolls = forward; reverse_rolls = reverse }

abbrev pub chunks_for : Plan → Given → List (List ℕ)
chunks_for p g = chunks_of p.chunk_size g.file

-- both lines, both ends and the clock; what was sent again; the events in the first `written` rows; the time; how many
-- moves in time and rounds at this moment are left
pub record RunState : Type 0 where
  pub arrivals : ArrivalState
  pub resends : Resends
  pub written : ℕ
  pub events : List (List ℕ)
  pub time : ℕ
  pub moves : ℕ
  pub rounds : ℕ

abbrev pub run_state : ArrivalState → Resends → ℕ → List (List ℕ) → ℕ → ℕ → ℕ → RunState
run_state arrivals resends written events time moves rounds = record {
  arrivals = arrivals;
  resends = resends;
  written = written;
  events = events;
  time = time;
  moves = moves;
  rounds = rounds;
}

-- what the timers and the window work on
abbrev pub outgoing_of : RunState → Outgoing
outgoing_of s =
    let a = s.arrivals in
    outgoing a.forward a.inbound.metas s.written s.events a.clock

abbrev pub fire_of : RunState → FireState
fire_of s = fire_state s.arrivals.sender s.arrivals.estimator s.resends (outgoing_of s)

-- the run with what a part of a round left
abbrev pub with_arrivals : RunState → ArrivalState → RunState
with_arrivals s a = run_state a s.resends s.written s.events s.time s.moves s.rounds

abbrev pub with_fired : RunState → FireState → RunState
with_fired s x =
    let a = s.arrivals in
    let b = a.inbound in
    let o = x.outgoing in
    run_state
    (arrival_state o.forward (inbound b.side b.store b.output o.metas b.reverse) x.sender
    x.estimator o.clock a.received a.duplicates)
    x.resends o.written o.events s.time s.moves s.rounds

abbrev pub exhausted : RunState → RunState
exhausted s =
    run_state s.arrivals (retransmit.exhausted s.resends) s.written s.events s.time s.moves
    s.rounds

-- at a time, with so many moves and rounds left
abbrev pub at : RunState → ℕ → ℕ → ℕ → RunState
at s time moves rounds =
    run_state s.arrivals s.resends s.written s.events time moves rounds

-- the same of what a step passes by value
abbrev pub less_state : State → State
less_state s = record {
  arrivals = s.arrivals;
  resends = s.resends;
  events = s.events;
  now = s.now;
  moves = s.moves;
  rounds = s.rounds - 1;
}

abbrev pub arrived_state : State → Arrivals → State
arrived_state s a = record {
  arrivals = a;
  resends = s.resends;
  events = s.events;
  now = s.now;
  moves = s.moves;
  rounds = s.rounds;
}

abbrev pub forward_state : State → ServeForwardResult → State
forward_state s x =
    arrived_state s
    (record {
      forward = x.forward;
      receiving = x.side;
      notes = x.notes;
      reverse = x.reverse;
      acks = s.arrivals.acks;
    })

abbrev pub reverse_state : State → ServeResult → State
reverse_state s x =
    let a = s.arrivals in
    arrived_state s
    (record {
      forward = a.forward;
      receiving = a.receiving;
      notes = a.notes;
      reverse = x.reverse;
      acks = x.side;
    })

abbrev pub fired_state : State → FireResult → State
fired_state s x =
    let a = s.arrivals in
    let o = x.outbound in
    record {
      arrivals = record {
        forward = o.forward;
        receiving = a.receiving;
        notes = o.notes;
        reverse = a.reverse;
        acks = record {
          sender = x.sender;
          estimator = x.estimator;
          clock = o.clock;
          ack_received = a.acks.ack_received;
          duplicate_acks = a.acks.duplicate_acks;
        };
      };
      resends = x.resends;
      events = o.events;
      now = s.now;
      moves = s.moves;
      rounds = s.rounds;
    }

abbrev pub pumped_state : State → PumpResult → State
pumped_state s x =
    fired_state s
    (record {
      sender = x.sender;
      estimator = s.arrivals.acks.estimator;
      resends = s.resends;
      outbound = x.outbound;
      progress = x.progress;
      stop = x.stop;
    })

-- ---- the eleven lent slices, and a run's state with them
pub record Lent : Type 0 where
  pub sender_store : List ℕ
  pub receiver_store : List ℕ
  pub output : List ℕ
  pub rows : List (List ℕ)
  pub events : List (List ℕ)
  pub forward_records : List (List ℕ)
  pub forward_places : List ℕ
  pub reverse_records : List (List ℕ)
  pub reverse_places : List ℕ
  pub keys : List ℕ
  pub deadlines : List ℕ

abbrev pub lent : List ℕ → List ℕ → List ℕ → List (List ℕ) → List (List ℕ) → List (List ℕ) → List ℕ → List (List ℕ)
    → List ℕ → List ℕ → List ℕ → Lent
lent sender receiver output rows events forward forward_places reverse reverse_places keys deadlines = record {
  sender_store = sender;
  receiver_store = receiver;
  output = output;
  rows = rows;
  events = events;
  forward_records = forward;
  forward_places = forward_places;
  reverse_records = reverse;
  reverse_places = reverse_places;
  keys = keys;
  deadlines = deadlines;
}

abbrev pub run_of : State → Lent → RunState
run_of s l =
    let a = s.arrivals in
    let k = a.acks in
    run_state
    (arrival_state (direction l.forward_records l.forward_places a.forward)
    (inbound a.receiving l.receiver_store l.output (seg_metas a.notes l.rows)
    (direction l.reverse_records l.reverse_places a.reverse))
    (sender_end k.sender l.sender_store) k.estimator (timers_exit k.clock l.keys l.deadlines)
    k.ack_received k.duplicate_acks)
    s.resends s.events l.events s.now s.moves s.rounds
