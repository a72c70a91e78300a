-- The two loops one after the other: what the second asks, and each end.
use Prim.Native.Nat.{ℕ, ◌+◌, ◌≤◌, ◌<◌}
use native.Mathlib.Omega.{arith}
use mathlib.Core.Path.{◌≡◌, ap}
use mathlib.Core.Bool.{Bool, true, false, cond}
use mathlib.Core.List.{List}
use lib.Ieee.{Float}
use Rattle.bounds.specs.Bounds.{count_limit}
use Rattle.path.specs.Path.{is_going}
use Rattle.path.proofs.Laws.{orders_low}
use Rattle.clock.specs.declared.Timing.{Timing}
use Rattle.acks.specs.Reverse.{serve_reverse, CanServeReverse}
use Rattle.acks.proofs.Laws.{good_can_serve_reverse}
use Rattle.receiving.specs.Receiving.{ServeForwardExit, serve_forward}
use Rattle.receiving.proofs.Laws.{serve_good, serve_timely, serve_orders}
use Rattle.arrivals.specs.Arrivals.{ArrivalState, ArrivalExit, arrival_exit, acks_of, with_forward, reverse_served, serve_arrivals, CanServeArrivals}

module _ (rolls : List Float) (total now : ℕ) (s : ArrivalState) where
  abbrev pub served : ServeForwardExit
  served = serve_forward rolls total now s.forward s.inbound

  -- no more came back than was scheduled
  pub replies_few : CanServeArrivals rolls now s → s.received + served.inbound.reverse.path.scheduler.count ≤ served.inbound.reverse.path.scheduler.next_order
  replies_few can =
      fewer s.received s.inbound.reverse.path.scheduler.count s.inbound.reverse.path.scheduler.next_order served.inbound.reverse.path.scheduler.count
      served.inbound.reverse.path.scheduler.next_order can.replies (serve_orders rolls total now s.forward s.inbound).alike
    where
      fewer : (received c n e o : ℕ) → received + c ≤ n → e + n ≡ c + o → received + e ≤ o
      fewer received c n e o h k = omega arith

  pub can_serve_reverse : CanServeArrivals rolls now s → CanServeReverse served.inbound.reverse (acks_of (with_forward s served)) now
  can_serve_reverse can =
      let g = serve_good rolls total now s.forward s.inbound can.forward in
      let low = orders_low served.inbound.reverse rolls g.good.reverse in
      let few = replies_few can in
      good_can_serve_reverse g.good.reverse
      (record {
        sender = can.acks.sender;
        estimator = can.acks.estimator;
        clock = can.acks.clock;
        notes = serve_timely rolls total now s.forward s.inbound can.acks.notes;
        scheduled = g.good.scheduled;
        duplicates = can.acks.duplicates;
      })
      (below s.received served.inbound.reverse.path.scheduler.count served.inbound.reverse.path.scheduler.next_order count_limit few low)
    where
      below : (a b o l : ℕ) → a + b ≤ o → o < l → a + b ≤ l
      below a b o l h k = omega arith

-- ---- the two ends
module _ (t : Timing) (rolls : List Float) (total now : ℕ) (s : ArrivalState) where
  abbrev by_stop : Bool → ArrivalExit
  by_stop g =
      let a = served rolls total now s in
      let u = with_forward s a in
      cond g (reverse_served u a.progress (serve_reverse t now u.inbound.reverse (acks_of u))) (arrival_exit u a.progress a.stop)

  by_stop_lem : {g : Bool} → is_going (served rolls total now s).stop ≡ g → serve_arrivals t rolls total now s ≡ by_stop g
  unfolding serve_arrivals
  by_stop_lem e = ap by_stop e

  -- an ACK of the forward line's ended the run
  pub arrivals_stop : is_going (served rolls total now s).stop ≡ false → serve_arrivals t rolls total now s ≡ arrival_exit (with_forward s (served rolls total now s)) (served rolls total now s).progress (served rolls total now s).stop
  arrivals_stop e = by_stop_lem e

  pub arrivals_both : is_going (served rolls total now s).stop ≡ true
      → serve_arrivals t rolls total now s ≡ reverse_served (with_forward s (served rolls total now s)) (served rolls total now s).progress (serve_reverse t now (served rolls total now s).inbound.reverse (acks_of (with_forward s (served rolls total now s))))
  arrivals_both e = by_stop_lem e
