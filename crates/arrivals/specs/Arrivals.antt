-- app/transfer.rs, `run_transfer`: at a moment what is due on the forward line, and then what is due on the reverse
-- line, is handed over.
use Rattle.std.specs.Prelude.{ℕ, ◌+◌, ◌≤◌, Bool, cond, ◌||◌, List, Float, None, Option}
use Rattle.rto.specs.declared.RtoEstimator.{RtoEstimator}
use Rattle.path.specs.Direction.{Direction}
use Rattle.path.specs.Path.{is_going}
use Rattle.path.specs.declared.Stop.{Stop}
use Rattle.path.specs.declared.Stop.TheVariants as stop
use Rattle.clock.specs.Clock.{ClockState}
use Rattle.clock.specs.declared.Timing.{Timing}
use Rattle.session.specs.Sending.{SenderEnd}
use Rattle.acks.specs.Acks.{AckState, ack_state}
use Rattle.acks.specs.Good.{GoodAcks}
use Rattle.acks.specs.Reverse.{ServeExit, serve_reverse}
use Rattle.receiving.specs.Receiving.{Inbound, inbound, ServeForwardExit, serve_forward}
use Rattle.receiving.specs.Good.{CanServeForward}

-- both directions of the line (the reverse one in `inbound`), both ends with their lent memory, the notes, the
-- estimator, the timers, and the counts of ACKs
pub record ArrivalState : Type 0 where
  pub forward : Direction
  pub inbound : Inbound
  pub sender : SenderEnd
  pub estimator : RtoEstimator
  pub clock : ClockState
  pub received : ℕ
  pub duplicates : ℕ

abbrev pub arrival_state : Direction → Inbound → SenderEnd → RtoEstimator → ClockState → ℕ → ℕ → ArrivalState
arrival_state forward b sender estimator clock received duplicates = record {
  forward = forward;
  inbound = b;
  sender = sender;
  estimator = estimator;
  clock = clock;
  received = received;
  duplicates = duplicates;
}

-- what a call leaves, whether something was handed over, and whether the run goes on
pub record ArrivalExit : Type 0 where
  pub state : ArrivalState
  pub progress : Bool
  pub stop : Option Stop

abbrev pub arrival_exit : ArrivalState → Bool → Option Stop → ArrivalExit
arrival_exit s progress st = record { state = s; progress = progress; stop = st }

abbrev pub acks_of : ArrivalState → AckState
acks_of s = ack_state s.sender s.estimator s.clock s.inbound.metas s.received s.duplicates

abbrev pub with_forward : ArrivalState → ServeForwardExit → ArrivalState
with_forward s x =
    arrival_state x.forward x.inbound s.sender s.estimator s.clock s.received s.duplicates

abbrev pub with_reverse : ArrivalState → ServeExit → ArrivalState
with_reverse s x =
    let b = s.inbound in
    let a = x.state in
    arrival_state s.forward (inbound b.side b.store b.output a.metas x.reverse) a.sender
    a.estimator a.clock a.received a.duplicates

abbrev pub reverse_served : ArrivalState → Bool → ServeExit → ArrivalExit
reverse_served s progress x = arrival_exit (with_reverse s x) (progress || x.progress) (None)

-- the run may end at an ACK that a datagram of the forward line is answered with
unfoldable pub serve_arrivals : Timing → List Float → ℕ → ℕ → ArrivalState → ArrivalExit
serve_arrivals t rolls total now s =
    let a = serve_forward rolls total now s.forward s.inbound in
    let u = with_forward s a in
    cond (is_going a.stop) (reverse_served u a.progress (serve_reverse t now u.inbound.reverse (acks_of u)))
    (arrival_exit u a.progress a.stop)

-- what is due forward can be handed over, what ACKs work on is good, and no more came back than was scheduled
pub record CanServeArrivals (rolls : List Float) (now : ℕ) (s : ArrivalState) : Type 0 where
  pub forward : CanServeForward s.forward s.inbound rolls now
  pub acks : GoodAcks (acks_of s) now
  pub replies : s.received + s.inbound.reverse.path.scheduler.count
      ≤ s.inbound.reverse.path.scheduler.next_order
