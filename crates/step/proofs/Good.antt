-- What a step asks is met, and kept while the run goes on.
use Prim.Native.Nat.{◌+◌, ◌≤◌, ◌<◌}
use native.Mathlib.Omega.{arith}
use mathlib.Core.Path.{◌≡◌, ◌∙◌}
use mathlib.Core.Bool.{true, false}
use lib.ListN.{length}
use Rattle.bounds.specs.Bounds.{count_limit}
use Rattle.window.specs.State.{numbers_broken}
use Rattle.path.specs.Path.{is_going}
use Rattle.path.proofs.Laws.{orders_low, records_within}
use Rattle.clock.specs.Clock.{Held}
use Rattle.clock.proofs.Laws.{timers_within}
use Rattle.session.specs.Sending.{window_of}
use Rattle.session.proofs.Laws.{unbroken_numbers}
use Rattle.receiving.proofs.Laws.{good_can_serve}
use Rattle.timeouts.specs.Good.{GoodFire}
use Rattle.timeouts.proofs.Laws.{sender_unbroken}
use Rattle.timeouts.specs.Timeouts.{FireExit}
use Rattle.arrivals.specs.Arrivals.{serve_arrivals, CanServeArrivals}
use Rattle.arrivals.proofs.Laws.{arrivals_keep, arrivals_timers}
use Rattle.departures.specs.Departures.{send_due, CanSendDue}
use Rattle.departures.proofs.Laws.{send_due_departs}
use Rattle.step.specs.State.{Given, chunks_for, RunState, fire_of, with_arrivals, with_fired}
use Rattle.step.specs.Step.{round_less}
use Rattle.step.specs.Good.{GoodPlan, GoodRun}
use Rattle.step.specs.declared.Plan.{Plan}

module _ {p : Plan} {g : Given} {s : RunState} (good : GoodRun p g s) where
  -- ---- what the arrivals ask
  pub good_fire : GoodFire p.timing g.forward_rolls s.arrivals.received s.time (fire_of s)
  good_fire =
      record {
        outgoing = good.outgoing;
        sender = good.sender;
        estimator = good.estimator;
        counted = good.counted;
        rows = let n = good.next in let r = good.rows in omega (arith, n, r);
        timers = timers_within s.arrivals.sender good.timers;
        entries = good.timers.entries;
        selective = good.selective;
      }

  few_datas : s.arrivals.inbound.side.data_received + s.arrivals.forward.path.scheduler.count ≤ count_limit
  few_datas = let low = orders_low s.arrivals.forward g.forward_rolls good.outgoing.forward in let h = good.arrived.datas in omega (arith, low, h)

  few_replies : s.arrivals.received < count_limit
  few_replies = let low = orders_low s.arrivals.inbound.reverse g.reverse_rolls good.inbound.reverse in let h = good.arrived.replies in omega (arith, low, h)

  pub can_arrive : CanServeArrivals g.reverse_rolls s.time s.arrivals
  can_arrive =
      let o = good.outgoing in
      record {
        forward = good_can_serve o.forward good.inbound few_datas o.notes.within;
        acks = record { sender = sender_unbroken good_fire; estimator = good.estimator; clock = o.clock; notes = o.notes; scheduled = o.scheduled; duplicates = good.duplicates };
        replies = good.arrived.replies;
      }

  -- ---- what they keep
  pub arrived_good : GoodRun p g (with_arrivals (round_less s) (serve_arrivals p.timing g.reverse_rolls p.total_chunks s.time s.arrivals).state)
  arrived_good =
      let k = arrivals_keep p.timing g.reverse_rolls p.total_chunks s.time s.arrivals can_arrive in
      let c = good.counted in
      let o = good.outgoing in
      let used = k.forward.used in
      let orders = k.forward.orders in
      record {
        outgoing = record { forward = k.forward_good g.forward_rolls o.forward; notes = k.good.notes; scheduled = k.good.scheduled; clock = k.good.clock; events = o.events };
        inbound = k.inbound;
        sender = record { state = k.good.sender.state; clean = k.good.sender.clean };
        estimator = k.good.estimator;
        duplicates = k.good.duplicates;
        arrived = record { datas = let h = good.arrived.datas in let m = k.datas in omega (arith, h, m, orders); replies = k.replies };
        counted = record {
          sent = rw (used, k.sender.sent) c.sent;
          again = rw (used, k.sender.again) c.again;
          submitted = rw used c.submitted;
          premature = c.premature;
          timeouts = rw (used, k.timeouts) c.timeouts;
          backoffs = rw (used, k.backoffs) c.backoffs;
        };
        next = rw k.sender.next good.next;
        rows = rw k.rows good.rows;
        timers = arrivals_timers p.timing g.reverse_rolls p.total_chunks s.time s.arrivals can_arrive good.selective good.timers;
        selective = λ e. k.sender.selective ∙ good.selective e;
      }

  -- ---- what the timers and the window ask
  pub can_send_due : GoodPlan p g → CanSendDue p.timing g.forward_rolls p.chunk_size g.file p.total_chunks s.time (fire_of s)
  can_send_due plan =
      record {
        fire = record { samples = s.arrivals.received; few = few_replies; good = good_fire };
        next = good.next;
        few = plan.few;
        rows = good.rows;
        some = plan.some;
        short = plan.short;
        whole = plan.whole;
      }

  -- ---- what they keep
  abbrev pub sent_exit : FireExit
  sent_exit = send_due p.max_retransmissions p.timing g.forward_rolls (chunks_for p g) s.time (fire_of s)

  pub sent_good : GoodPlan p g → is_going sent_exit.stop ≡ true → sent_exit.state.resends.exhausted ≡ false → GoodRun p g (with_fired s sent_exit.state)
  sent_good plan on left =
      let d = send_due_departs p.max_retransmissions (can_send_due plan) good_fire good.timers on left in
      let f = d.good in
      let b = good.inbound in
      record {
        outgoing = f.outgoing;
        inbound = record { receiver = b.receiver; acks = b.acks; duplicates = b.duplicates; noted = f.outgoing.notes.fits; scheduled = f.outgoing.scheduled; reverse = b.reverse };
        sender = f.sender;
        estimator = f.estimator;
        duplicates = good.duplicates;
        arrived = record { datas = let h = good.arrived.datas in let m = d.orders.alike in omega (arith, h, m); replies = good.arrived.replies };
        counted = f.counted;
        next = d.next;
        rows = rw d.rows good.rows;
        timers = d.timers;
        selective = f.selective;
      }

  -- ---- what the next deadline asks
  pub can_settle : ((s.arrivals.forward.path.scheduler.count ≤ length s.arrivals.forward.records) × (s.arrivals.inbound.reverse.path.scheduler.count ≤ length s.arrivals.inbound.reverse.records))
      × (Held s.arrivals.clock × (numbers_broken (window_of s.arrivals.sender.sender) ≡ false))
  can_settle =
      ((records_within s.arrivals.forward good.outgoing.forward.sound, records_within s.arrivals.inbound.reverse good.inbound.reverse.sound), (good.outgoing.clock, unbroken_numbers s.arrivals.sender good.sender.state))
