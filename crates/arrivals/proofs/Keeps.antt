-- What the arrivals of a moment keep of a run.
use Prim.Native.Nat.{ℕ, ◌+◌, ◌≤◌}
use native.Mathlib.Omega.{arith}
use mathlib.Core.Path.{◌≡◌, refl, ap, ◌∙◌}
use mathlib.Core.Bool.{Bool, true, false, cond}
use mathlib.Core.List.{List}
use lib.Ieee.{Float}
use lib.ListN.{length}
use Rattle.path.specs.Direction.{Good}
use Rattle.path.specs.Path.{is_going}
use Rattle.path.proofs.Laws.{TakeKeeps}
use Rattle.notes.specs.declared.Notes.{Notes}
use Rattle.clock.specs.Timers.{GoodTimers}
use Rattle.clock.specs.declared.Timing.{Timing}
use Rattle.clock.specs.declared.Timing.TheVariants.{PerNumber}
use Rattle.session.specs.GoodSender.{is_selective}
use Rattle.session.proofs.Laws.{AckKeepsSender, sender_keeps_same}
use Rattle.acks.specs.Good.{GoodAcks}
use Rattle.acks.specs.Reverse.{ServeExit, serve_reverse}
use Rattle.acks.proofs.Laws.{serve_reverse_good, serve_reverse_direction_good, serve_reverse_counts, serve_reverse_keeps, serve_reverse_keeps_direction, serve_reverse_timers}
use Rattle.receiving.specs.Good.{GoodInbound}
use Rattle.receiving.proofs.Laws.{serve_good, serve_forward_good, serve_keeps_forward, serve_keeps_sizes, serve_counts, serve_timely}
use Rattle.arrivals.specs.Arrivals.{ArrivalState, ArrivalExit, arrival_exit, reverse_served, acks_of, with_forward, with_reverse, serve_arrivals, CanServeArrivals}
use Rattle.arrivals.proofs.Serving.{served, replies_few, can_serve_reverse}

-- a state and the state after it
pub record ArrivalKeeps (rolls : List Float) (now : ℕ) (s after : ArrivalState) : Type 0 where
  pub forward : TakeKeeps s.forward after.forward
  pub forward_good : (frolls : List Float) → Good s.forward frolls → Good after.forward frolls
  pub inbound : GoodInbound after.inbound rolls
  pub good : GoodAcks (acks_of after) now
  pub datas : after.inbound.side.data_received + after.forward.path.scheduler.count ≤ s.inbound.side.data_received + s.forward.path.scheduler.count
  pub replies : after.received + after.inbound.reverse.path.scheduler.count ≤ after.inbound.reverse.path.scheduler.next_order
  pub sender : AckKeepsSender s.sender after.sender
  pub timeouts : after.estimator.stats.timeout_count ≡ s.estimator.stats.timeout_count
  pub backoffs : after.estimator.stats.backoff_count ≡ s.estimator.stats.backoff_count
  pub noted : after.inbound.metas.notes.count ≡ s.inbound.metas.notes.count
  pub rows : length after.inbound.metas.rows ≡ length s.inbound.metas.rows
  pub keys : length after.clock.keys ≡ length s.clock.keys
  pub deadlines : length after.clock.deadlines ≡ length s.clock.deadlines
  pub store : length after.inbound.store ≡ length s.inbound.store
  pub output : length after.inbound.output ≡ length s.inbound.output

module _ (t : Timing) (rolls : List Float) (total now : ℕ) (s : ArrivalState) (can : CanServeArrivals rolls now s) where
  abbrev pub between : ArrivalState
  between = with_forward s (served rolls total now s)

  abbrev pub replied : ServeExit
  replied = serve_reverse t now between.inbound.reverse (acks_of between)

  -- ---- after the forward line
  after_forward : ArrivalKeeps rolls now s between
  after_forward =
      let f = s.forward in
      let b = s.inbound in
      let g = serve_good rolls total now f b can.forward in
      let k = serve_keeps_sizes rolls total now f b can.forward in
      record {
        forward = serve_keeps_forward rolls total now f b can.forward;
        forward_good = λ frolls good. serve_forward_good rolls total now f b frolls good;
        inbound = g.good;
        good = record {
          sender = can.acks.sender;
          estimator = can.acks.estimator;
          clock = can.acks.clock;
          notes = serve_timely rolls total now f b can.acks.notes;
          scheduled = g.good.scheduled;
          duplicates = can.acks.duplicates;
        };
        datas = (serve_counts rolls total now f b).datas.1;
        replies = replies_few rolls total now s can;
        sender = sender_keeps_same s.sender;
        timeouts = refl;
        backoffs = refl;
        noted = k.count;
        rows = k.rows;
        keys = refl;
        deadlines = refl;
        store = k.store;
        output = k.output;
      }

  -- ---- and after the reverse line
  after_both : ArrivalKeeps rolls now s (with_reverse between replied)
  after_both =
      let d = between.inbound.reverse in
      let a = acks_of between in
      let on = can_serve_reverse rolls total now s can in
      let f = after_forward in
      let r = serve_reverse_good t now d a on in
      let k = serve_reverse_keeps t now d a on in
      let c = (serve_reverse_counts t now d a).received.1 in
      let o = (serve_reverse_keeps_direction t now d a on).orders in
      let b = f.inbound in
      record {
        forward = f.forward;
        forward_good = f.forward_good;
        inbound = record {
          receiver = b.receiver;
          acks = b.acks;
          duplicates = b.duplicates;
          noted = r.good.notes.fits;
          scheduled = r.good.scheduled;
          reverse = serve_reverse_direction_good t now d a rolls b.reverse;
        };
        good = r.good;
        datas = f.datas;
        replies = omega (arith, c, o, f.replies);
        sender = k.sender;
        timeouts = k.timeouts;
        backoffs = k.backoffs;
        noted = ap (λ (n : Notes). n.count) k.notes ∙ f.noted;
        rows = k.rows ∙ f.rows;
        keys = k.keys;
        deadlines = k.deadlines;
        store = f.store;
        output = f.output;
      }

  -- whatever holds of the state after the forward line where its ACK ended the run, and of the state after both
  pub either_exit : (P : ArrivalExit → Type 0) → (is_going (served rolls total now s).stop ≡ false → P (arrival_exit between (served rolls total now s).progress (served rolls total now s).stop))
      → (is_going (served rolls total now s).stop ≡ true → P (reverse_served between (served rolls total now s).progress replied)) → P (serve_arrivals t rolls total now s)
  unfolding serve_arrivals
  either_exit P stopped both = by_stop_lem (is_going (served rolls total now s).stop) stopped both
    where
      by_stop_lem : (g : Bool) → (g ≡ false → P (arrival_exit between (served rolls total now s).progress (served rolls total now s).stop)) → (g ≡ true → P (reverse_served between (served rolls total now s).progress replied))
          → P (cond g (reverse_served between (served rolls total now s).progress replied) (arrival_exit between (served rolls total now s).progress (served rolls total now s).stop))
      by_stop_lem true stopped both = both refl
      by_stop_lem false stopped both = stopped refl

  pub arrivals_keep : ArrivalKeeps rolls now s (serve_arrivals t rolls total now s).state
  arrivals_keep = either_exit (λ (x : ArrivalExit). ArrivalKeeps rolls now s x.state) (λ e. after_forward) (λ e. after_both)

  pub arrivals_timers : (t ≡ PerNumber → is_selective s.sender.sender.state ≡ true) → GoodTimers t s.sender s.clock → GoodTimers t (serve_arrivals t rolls total now s).state.sender (serve_arrivals t rolls total now s).state.clock
  arrivals_timers selective g =
      either_exit (λ (x : ArrivalExit). GoodTimers t x.state.sender x.state.clock) (λ e. g)
      (λ e. serve_reverse_timers t now between.inbound.reverse (acks_of between) (can_serve_reverse rolls total now s can) selective g)
