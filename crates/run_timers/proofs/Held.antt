-- What every step keeps of the timers, by the timing, and what it says of a run's state.
use Rattle.std.specs.Prelude.{Some}
use Prim.Native.Nat.{ℕ, ◌+◌, ◌-◌, ◌≤◌, ◌<◌}
use native.Mathlib.Omega.{arith}
use mathlib.Core.Path.{◌≡◌, refl, sym, ◌∙◌, subst}
use mathlib.Core.Bool.{true, false}
use borrow.Author.Tests.{lt-ltb, le-ltb}
use Rattle.timer.specs.Timer.{active}
use Rattle.multi_timer.specs.Map.{lookup}
use Rattle.window.specs.State.{outstanding}
use Rattle.path.specs.Path.{is_going}
use Rattle.clock.specs.Clock.{timer_of}
use Rattle.clock.specs.Timers.{HasTimer, GoodTimers}
use Rattle.clock.specs.declared.Timing.{Timing}
use Rattle.clock.specs.declared.Timing.TheVariants.{Single, PerNumber, Edition}
use Rattle.clock.proofs.Laws.{running}
use Rattle.session.specs.Sending.{window_end, has_outstanding}
use Rattle.timeouts.specs.Timeouts.{FireState}
use Rattle.timeouts.specs.Good.{GoodFire}
use Rattle.arrivals.specs.Arrivals.{serve_arrivals}
use Rattle.departures.specs.Departures.{send_due, CanSendDue}
use Rattle.setup.specs.declared.TransferConfig.{TransferConfig}
use Rattle.step.specs.State.{Given, chunks_for, RunState, fire_of, with_arrivals}
use Rattle.step.specs.Step.{round_less}
use Rattle.step.specs.Good.{GoodPlan, GoodRun}
use Rattle.step.specs.declared.Plan.{Plan}
use Rattle.step.proofs.Laws.{arrives, can_arrive, arrived_good, good_fire, can_send_due, after_both, both_exit}
use Rattle.run_timers.specs.Timed.{window_in, Unacknowledged, largest_rto, Timed}
use Rattle.run_timers.proofs.Due.{due_in, is_due_lem}
use Rattle.run_timers.proofs.Each.{Each, arrivals_each, departures_each}
use Rattle.run_timers.proofs.Single.{Runs, arrivals_run, departures_run}
use Rattle.run_timers.proofs.Ahead.{near_later, Ahead, arrivals_ahead}
use Rattle.run_timers.proofs.Sends.{departures_ahead}
use Rattle.run_timers.proofs.Steps.{Kept, Holds, Lasting}

-- ---- what is kept on each timing
abbrev RunsKept : ℕ → Kept
RunsKept limit a again now = Runs limit a.sender a.clock a.inbound.metas.notes.count again

abbrev OnlyEach : Kept
OnlyEach a again now = Each a.sender a.clock

abbrev AheadKept : ℕ → Timing → Kept
AheadKept top t a again now = Ahead top t now a.estimator a.clock a.inbound.metas

abbrev pub SingleKept : ℕ → ℕ → Timing → Kept
SingleKept limit top t a again now = RunsKept limit a again now × AheadKept top t a again now

abbrev pub EachKept : ℕ → Timing → Kept
EachKept top t a again now = OnlyEach a again now × AheadKept top t a again now

abbrev pub EditionKept : ℕ → Kept
EditionKept top a again now =
    (has_outstanding a.sender.sender ≡ true → active (timer_of a.clock).deadline ≡ true) × ((d : ℕ) → (timer_of a.clock).deadline ≡ Some d → d ≤ now + top)

ahead_lasting : (top : ℕ) (t : Timing) → Lasting (AheadKept top t)
ahead_lasting top t a again now later l h = record { estimator = h.estimator; notes = h.notes; near = near_later (omega arith) h.near }

pub single_lasting : (limit top : ℕ) (t : Timing) → Lasting (SingleKept limit top t)
single_lasting limit top t a again now later l h = (h.0, ahead_lasting top t a again now later l h.1)

pub each_lasting : (top : ℕ) (t : Timing) → Lasting (EachKept top t)
each_lasting top t a again now later l h = (h.0, ahead_lasting top t a again now later l h.1)

pub edition_lasting : (top : ℕ) → Lasting (EditionKept top)
edition_lasting top a again now later l h = (h.0, λ d e. let k = h.1 d e in omega (arith, l, k))

pub single_other : {A : Type 0} {t : Timing} → t ≡ Single → t ≡ PerNumber → A
single_other e f = let z : ◌≡◌ {A = ℕ} 0 1 = cc in absurd (omega arith)

module _ {p : Plan} {g : Given} (plan : GoodPlan p g) where
  abbrev after : RunState → RunState
  after s = with_arrivals (round_less s) (arrives p g s).state

  runs_both : (limit : ℕ) → p.max_retransmissions ≤ limit → p.timing ≡ Single → (s : RunState) → GoodRun p g s → Holds (RunsKept limit) s → is_going (both_exit p g s).stop ≡ true → Holds (RunsKept limit) (after_both p g s)
  runs_both limit enough e s good q = on_timing p.timing e (can_send_due (arrived_good good) plan) (good_fire (arrived_good good)) arrived
    where
      arrived : Holds (RunsKept limit) (after s)
      arrived =
          subst (λ (t : Timing). RunsKept limit (serve_arrivals t g.reverse_rolls p.total_chunks s.time s.arrivals).state s.resends.retx_submitted s.time) (sym e)
          (arrivals_run limit s.time s.resends.retx_submitted g.reverse_rolls p.total_chunks s.arrivals (can_arrive good) q)

      OfFire : FireState → Type 0
      OfFire f = Runs limit f.sender f.outgoing.clock f.outgoing.metas.notes.count f.resends.retx_submitted

      on_timing : (t : Timing) → t ≡ Single → CanSendDue t g.forward_rolls p.chunk_size g.file p.total_chunks s.time (fire_of (after s)) → GoodFire t g.forward_rolls (after s).arrivals.received s.time (fire_of (after s)) → OfFire (fire_of (after s))
          → is_going (send_due p.max_retransmissions t g.forward_rolls (chunks_for p g) s.time (fire_of (after s))).stop ≡ true → OfFire (send_due p.max_retransmissions t g.forward_rolls (chunks_for p g) s.time (fire_of (after s))).state
      on_timing Single i can f h = departures_run limit p.max_retransmissions s.time g.forward_rolls enough (fire_of (after s)) can f h
      on_timing PerNumber i can f h = single_other i refl
      on_timing Edition i can f h = let z : ◌≡◌ {A = ℕ} 0 1 = cc in absurd (omega arith)

  only_each_both : p.timing ≡ PerNumber → (s : RunState) → GoodRun p g s → Holds OnlyEach s → is_going (both_exit p g s).stop ≡ true → Holds OnlyEach (after_both p g s)
  only_each_both e s good q = on_timing p.timing e (can_send_due (arrived_good good) plan) (good_fire (arrived_good good)) arrived
    where
      arrived : Holds OnlyEach (after s)
      arrived =
          subst (λ (t : Timing). OnlyEach (serve_arrivals t g.reverse_rolls p.total_chunks s.time s.arrivals).state 0 s.time) (sym e)
          (arrivals_each s.time g.reverse_rolls p.total_chunks s.arrivals (can_arrive good) (good.selective e) q)

      OfFire : FireState → Type 0
      OfFire f = Each f.sender f.outgoing.clock

      on_timing : (t : Timing) → t ≡ PerNumber → CanSendDue t g.forward_rolls p.chunk_size g.file p.total_chunks s.time (fire_of (after s)) → GoodFire t g.forward_rolls (after s).arrivals.received s.time (fire_of (after s)) → OfFire (fire_of (after s))
          → is_going (send_due p.max_retransmissions t g.forward_rolls (chunks_for p g) s.time (fire_of (after s))).stop ≡ true → OfFire (send_due p.max_retransmissions t g.forward_rolls (chunks_for p g) s.time (fire_of (after s))).state
      on_timing Single i can f h = single_other refl i
      on_timing PerNumber i can f h = departures_each p.max_retransmissions s.time g.forward_rolls _ (fire_of (after s)) can f h
      on_timing Edition i can f h = let z : ◌≡◌ {A = ℕ} 0 1 = cc in absurd (omega arith)

  ahead_both : (top : ℕ) (s : RunState) → GoodRun p g s → Holds (AheadKept top p.timing) s → Holds (AheadKept top p.timing) (after_both p g s)
  ahead_both top s good q =
      departures_ahead top p.timing s.time g.forward_rolls p.max_retransmissions (fire_of (after s)) (can_send_due (arrived_good good) plan) (good_fire (arrived_good good))
      (arrivals_ahead top p.timing s.time g.reverse_rolls p.total_chunks s.arrivals (can_arrive good) q)

  pub single_both : (limit top : ℕ) → p.max_retransmissions ≤ limit → p.timing ≡ Single → (s : RunState) → GoodRun p g s → Holds (SingleKept limit top p.timing) s → is_going (both_exit p g s).stop ≡ true → Holds (SingleKept limit top p.timing) (after_both p g s)
  single_both limit top enough e s good q on = (runs_both limit enough e s good q.0 on, ahead_both top s good q.1)

  pub each_both : (top : ℕ) → p.timing ≡ PerNumber → (s : RunState) → GoodRun p g s → Holds (EachKept top p.timing) s → is_going (both_exit p g s).stop ≡ true → Holds (EachKept top p.timing) (after_both p g s)
  each_both top e s good q on = (only_each_both e s good q.0 on, ahead_both top s good q.1)

-- ---- what it says between steps and at the end
some_left : (low high : ℕ) → low < high → 0 < high - low
some_left low high h = omega arith

none_left : (low high : ℕ) → high ≤ low → high - low ≤ 0
none_left low high h = omega arith

pub record Held (top : ℕ) (p : Plan) (s : RunState) : Type 0 where
  pub set : (p.timing ≡ PerNumber → ⊥) → (window_in s).send_base < (window_in s).next_seq_num → active (timer_of s.arrivals.clock).deadline ≡ true
  pub off : p.timing ≡ Single → (window_in s).next_seq_num ≤ (window_in s).send_base → active (timer_of s.arrivals.clock).deadline ≡ false
  pub each : p.timing ≡ PerNumber → (n : ℕ) → Unacknowledged s n → HasTimer s.arrivals.clock n
  pub near : (p.timing ≡ PerNumber → ⊥) → (d : ℕ) → (timer_of s.arrivals.clock).deadline ≡ Some d → d ≤ s.time + top
  pub each_near : p.timing ≡ PerNumber → (n d : ℕ) → lookup n (running s.arrivals.clock) ≡ Some d → d ≤ s.time + top

pub single_held : {limit : ℕ} (top : ℕ) (p : Plan) (s : RunState) → p.timing ≡ Single → Holds (SingleKept limit top p.timing) s → Held top p s
single_held top p s e q =
    record {
      set = λ i o. q.0.runs ∙ lt-ltb 0 (outstanding (window_in s)) (some_left (window_in s).send_base (window_in s).next_seq_num o);
      off = λ i o. q.0.runs ∙ le-ltb 0 (outstanding (window_in s)) (none_left (window_in s).send_base (window_in s).next_seq_num o);
      each = λ i. single_other e i;
      near = λ i d f. q.1.near.timer e d f;
      each_near = λ i. single_other e i;
    }

pub each_held : (top : ℕ) (p : Plan) (s : RunState) → p.timing ≡ PerNumber → Holds (EachKept top p.timing) s → Held top p s
each_held top p s e q =
    record {
      set = λ i. absurd (i e);
      off = λ i. single_other i e;
      each = λ i n u. q.0.each n (is_due_lem (window_end s.arrivals.sender) n (record { from = u.from; below = u.below; plain = u.plain }));
      near = λ i. absurd (i e);
      each_near = λ i n d f. q.1.near.numbers e n d f;
    }

edition_other : {A : Type 0} {t : Timing} → t ≡ Edition → t ≡ Single → A
edition_other e f = let z : ◌≡◌ {A = ℕ} 0 1 = cc in absurd (omega arith)

pub edition_each : {A : Type 0} {t : Timing} → t ≡ Edition → t ≡ PerNumber → A
edition_each e f = let z : ◌≡◌ {A = ℕ} 0 1 = cc in absurd (omega arith)

pub edition_held : (top : ℕ) (p : Plan) (s : RunState) → p.timing ≡ Edition → Holds (EditionKept top) s → Held top p s
edition_held top p s e q =
    record {
      set = λ i o. q.0 (lt-ltb 0 (outstanding (window_in s)) (some_left (window_in s).send_base (window_in s).next_seq_num o));
      off = λ i. edition_other e i;
      each = λ i. edition_each e i;
      near = λ i d f. q.1 d f;
      each_near = λ i. edition_each e i;
    }

pub held_timed : (c : TransferConfig) (p : Plan) (s : RunState) → GoodTimers p.timing s.arrivals.sender s.arrivals.clock → Held (largest_rto c.rto) p s → Timed c p s
held_timed c p s g h =
    record {
      set = h.set;
      off = h.off;
      each = h.each;
      only = λ i n t. let d = due_in (window_end s.arrivals.sender) n (g.due n t) in record { from = d.from; below = d.below; plain = d.plain };
      near = h.near;
      each_near = h.each_near;
    }
