-- Every step of a run, also the last, makes its calls; so does the run.
use Rattle.std.specs.Prelude.{None, Option, Some}
use Prim.Native.Nat.{ℕ, zero, suc, ◌≤◌}
use mathlib.Core.Path.{◌≡◌, refl, sym, subst}
use mathlib.Core.Bool.{Bool, true, false, cond, ◌||◌}
use mathlib.Core.List.{List}
use native.Mathlib.Omega.{arith}
use lib.Dec.{eqb}
use lib.ListN.{length}
use Rattle.bounds.specs.Bounds.{seq_num_limit}
use Rattle.chunks.specs.Chunks.{chunks_of}
use Rattle.path.specs.Path.{is_going}
use Rattle.path.specs.declared.Stop.{Stop}
use Rattle.protocol.specs.declared.ProtocolType.{ProtocolType}
use Rattle.path.specs.Direction.{Direction}
use Rattle.clock.specs.Clock.{due}
use Rattle.clock.specs.declared.Timing.{Timing}
use Rattle.clock.specs.declared.Timing.TheVariants as timing
use Rattle.clock.specs.declared.Due.TheVariants as ran
use Rattle.session.specs.Sending.{has_outstanding}
use Rattle.session.specs.declared.Timeout.TheVariants as timeout
use Rattle.receiving.specs.Receiving.{Inbound}
use Rattle.receiving.specs.Good.{CanServeForward}
use Rattle.channel.proofs.Laws.{NoFaults}
use Rattle.receiving.proofs.Laws.{can_hand_over, turn_good}
use Rattle.sending.specs.Sending.{pump_sends}
use Rattle.timeouts.specs.Timeouts.{FireState, FireExit, timeout_of}
use Rattle.timeouts.specs.Good.{GoodFire}
use Rattle.timeouts.proofs.Laws.{stopped_good, cancelled_good, fire_number_good, numbers_timing}
use Rattle.arrivals.specs.Arrivals.{ArrivalState, ArrivalExit, acks_of, CanServeArrivals}
use Rattle.arrivals.proofs.Laws.{served, can_serve_reverse, between, either_exit}
use Rattle.departures.specs.Departures.{pump_of, pumped, is_going_on, send_due, CanSendDue}
use Rattle.departures.proofs.Laws.{fired, can_pump_lem}
use Rattle.completion.proofs.Laws.{Start, chunks_in, end_of, good_can_time_out}
use Rattle.prefixes.proofs.Laws.{Prefixed, prefixed_turn, prefixed_served, prefixed_acked, prefixed_pumped, PrefixedFire, prefixed_fired, turn_not_refused}
use Rattle.step.specs.State.{Given, RunState, with_arrivals, exhausted, at}
use Rattle.step.specs.Settle.{StepExit, step_exit, over, unless_stopped, settle}
use Rattle.step.specs.Step.{round_less, step}
use Rattle.step.specs.Good.{GoodPlan, GoodRun}
use Rattle.step.specs.declared.Plan.{Plan}
use Rattle.step.specs.declared.End.{End}
use Rattle.step.specs.declared.End.TheVariants as end
use Rattle.step.specs.declared.Course.TheVariants.{Going, Over}
use Rattle.step.proofs.Laws.{arrives, step_is, settle_cases, going_cases, after_both, both_exit, step_good, can_arrive, arrived_good, good_fire, can_send_due}
use Rattle.transfer.specs.Run.{is_over, run_at_most_for, run_at_most, run_for, run, steps_left}
use Rattle.transfer.proofs.Laws.{not_over}
use Rattle.run_history.proofs.Tells.{Origin, Moment, moment, Told, Over as Ended, Goes, told_over}
use Rattle.run_history.proofs.Arrivals.{arrivals_told}
use Rattle.run_history.proofs.Returns.{returns_told}
use Rattle.run_history.proofs.Departures.{goes_both, both_go, fire_moment, Fired, fires_told, pumps_told}

-- a run's state as its calls made it
abbrev pub moment_at : RunState → Moment
moment_at s =
    let a = s.arrivals in
    moment a.forward a.inbound a.sender a.estimator a.received a.duplicates s.resends s.written s.events

-- ---- Q: whatever the parts of a round keep, a step keeps, where it looks at no time, no round and no ceiling
module _ (Q : RunState → Type 0) (moved : (u : RunState) (time moves rounds : ℕ) → Q u → Q (at u time moves rounds)) (spent : (u : RunState) → Q u → Q (exhausted u)) (p : Plan) (g : Given) (s : RunState) where
  settled : (u : RunState) → Q u → Q (settle p u).state
  settled u q = settle_cases p u (λ (x : StepExit). Q x.state) (λ time. q) (λ t e h. spent u q) (λ t e h k z. moved u _ _ _ q) (λ t e h k z. moved u _ _ _ q)

  by_stop_lem : (st : Option Stop) (u : RunState) (rest : StepExit) → Q u → (is_going st ≡ true → Q rest.state) → Q (unless_stopped st u rest).state
  by_stop_lem (None) u rest q h = h refl
  by_stop_lem (Some why) u rest q h = q

  either : (b : Bool) (x y : StepExit) → Q x.state → Q y.state → Q (cond b x y).state
  either true x y p q = p
  either false x y p q = q

  pub step_keeps : Q s → Q (with_arrivals (round_less s) (arrives p g s).state) → (is_going (arrives p g s).stop ≡ true → Q (after_both p g s)) → Q (step p g s).state
  step_keeps q a b =
      subst (λ (x : StepExit). Q x.state) (sym (step_is p g s))
      (either (eqb s.rounds 0) (over (exhausted s) end.Ended s.time) _ (spent s q)
      (by_stop_lem (arrives p g s).stop (with_arrivals (round_less s) (arrives p g s).state) _ a
      (λ on. by_stop_lem (both_exit p g s).stop (after_both p g s) _ (b on)
      (λ going. either (after_both p g s).resends.exhausted (over (after_both p g s) end.Ended s.time) _ (b on)
      (either ((arrives p g s).progress || (both_exit p g s).progress) (step_exit (after_both p g s) Going) (settle p (after_both p g s)) (b on) (settled (after_both p g s) (b on)))))))

-- ---- and where it goes on, what they keep while none ends the run
no_course : {X : Type 0} {e : End} {time : ℕ} → Over e time ≡ Going → X
no_course e = let z : ◌≡◌ {A = ℕ} 0 1 = cc in absurd (omega arith)

module _ (Q : RunState → Type 0) (moved : (u : RunState) (time moves rounds : ℕ) → Q u → Q (at u time moves rounds)) (p : Plan) (g : Given) (s : RunState) where
  pub step_goes : (is_going (arrives p g s).stop ≡ true → is_going (both_exit p g s).stop ≡ true → (after_both p g s).resends.exhausted ≡ false → Q (after_both p g s)) → (step p g s).course ≡ Going → Q (step p g s).state
  step_goes b =
      going_cases p g s (λ (x : StepExit). Q x.state) (λ h k x more r. b h k x)
      (λ h k x r e. settle_cases p (after_both p g s) (λ (y : StepExit). y.course ≡ Going → Q y.state) (λ time z. no_course z) (λ t e h z. no_course z) (λ t e h k l z. no_course z) (λ t e m n l z. moved (after_both p g s) _ _ _ (b h k x)) e)

-- ---- a run: Q while it goes on, E at the end
module _ (Q E : RunState → Type 0) (p : Plan) (g : Given) (plan : GoodPlan p g) (at_end : (s : RunState) → Q s → E s) (step_ends : (s : RunState) → GoodRun p g s → Q s → E (step p g s).state)
    (step-goes-on : (s : RunState) → GoodRun p g s → Q s → (step p g s).course ≡ Going → Q (step p g s).state) where
  run_most : (n : ℕ) (s : RunState) → GoodRun p g s → Q s → E (run_at_most n p g s).state
  unfolding run_at_most_for
  run_most zero s good q = at_end s q
  run_most (suc n) s good q = by_course (is_over (step p g s).course) refl (λ more next. run_most n (step p g s).state more next)
    where
      by_course : (b : Bool) → is_over (step p g s).course ≡ b → (GoodRun p g (step p g s).state → Q (step p g s).state → E (run_at_most n p g (step p g s).state).state) → E (cond b (step p g s) (run_at_most n p g (step p g s).state)).state
      by_course true e more = step_ends s good q
      by_course false e more = let c = not_over (step p g s).course e in more (step_good plan good c) (step-goes-on s good q c)

  pub run_keeps : (s : RunState) → GoodRun p g s → Q s → E (run p g s).state
  unfolding run_for
  run_keeps s good q = run_most (suc (steps_left p s)) s good q

-- ---- a step's calls
module _ (b : Origin) (p : Plan) (file : List ℕ) (plan : GoodPlan p (record { file = file; forward_rolls = b.forward_rolls; reverse_rolls = b.reverse_rolls })) (y : ProtocolType) (w tries : ℕ) (sending receiving output : List ℕ) (room : length file ≤ length output) (same : b.chunks ≡ chunks_of p.chunk_size file) (none : NoFaults b.reverse) where
  abbrev g : Given
  g = record { file = file; forward_rolls = b.forward_rolls; reverse_rolls = b.reverse_rolls }

  abbrev begins : Start
  begins = record { protocol = y; window = w; limit = tries; sending = sending; receiving = receiving; output = output; size = p.chunk_size; file = file }

  few : length (chunks_in begins) ≤ seq_num_limit
  few = let m = plan.few in let n = plan.whole in omega (arith, m, n)

  -- the prefixes of the chunks, by which no Data is refused
  abbrev PrefixedAt : ArrivalState → Type 0
  PrefixedAt a = Prefixed begins a.sender (end_of a.inbound) a.inbound.output a.forward

  pub record Goes_on (s : RunState) : Type 0 where
    pub told : Told b (moment_at s)
    pub prefixed : PrefixedAt s.arrivals
    pub left : s.resends.exhausted ≡ false

  module _ (s : RunState) (good : GoodRun p g s) (q : Goes_on s) where
    abbrev can : CanServeArrivals b.reverse_rolls s.time s.arrivals
    can = can_arrive good

    abbrev middle : ArrivalState
    middle = between p.timing b.reverse_rolls p.total_chunks s.time s.arrivals can

    abbrev arrived : RunState
    arrived = with_arrivals (round_less s) (arrives p g s).state

    -- ---- what is due on both lines
    forward_told : Goes b (moment_at (with_arrivals (round_less s) middle)) (is_going (served b.reverse_rolls p.total_chunks s.time s.arrivals).stop)
    forward_told =
        arrivals_told b s.arrivals.sender s.arrivals.estimator s.arrivals.received s.arrivals.duplicates s.resends s.written s.events none p.total_chunks s.time
        (λ (f : Direction) (i : Inbound). CanServeForward f i b.reverse_rolls s.time × Prefixed begins s.arrivals.sender (end_of i) i.output f)
        (λ f i n e k. (turn_good b.reverse_rolls p.total_chunks s.time f i k.0 n e, prefixed_turn b.reverse_rolls p.total_chunks s.time n k.0 e k.1))
        (λ f i n e k. can_hand_over b.reverse_rolls p.total_chunks s.time f i k.0 n e)
        (λ f i n e k t. turn_not_refused b.reverse_rolls p.total_chunks s.time k.1 room few k.0 n e t)
        (λ f i k. (k.0.sound, k.0.times)) s.arrivals.forward s.arrivals.inbound (can.forward, q.prefixed) q.told

    forward_prefixed : PrefixedAt middle
    forward_prefixed = prefixed_served b.reverse_rolls p.total_chunks s.time can.forward q.prefixed

    arrived_told : Goes b (moment_at arrived) (is_going (arrives p g s).stop) × PrefixedAt (arrives p g s).state
    arrived_told =
        either_exit p.timing b.reverse_rolls p.total_chunks s.time s.arrivals can (λ (x : ArrivalExit). Goes b (moment_at (with_arrivals (round_less s) x.state)) (is_going x.stop) × PrefixedAt x.state) (λ e. (forward_told, forward_prefixed))
        (λ e.
        let told = returns_told b middle.forward middle.inbound s.resends s.written s.events p.timing s.time middle.inbound.reverse (acks_of middle) (can_serve_reverse b.reverse_rolls p.total_chunks s.time s.arrivals can) (forward_told.0 e) in
        (((λ on. told), told_over told), prefixed_acked p.timing s.time middle.inbound.reverse (acks_of middle) forward_prefixed))

  -- ---- what the timers and the window send
  module _ {s : FireState} {samples now : ℕ} (a : ArrivalState) (can : CanSendDue p.timing b.forward_rolls p.chunk_size file p.total_chunks now s) (good : GoodFire p.timing b.forward_rolls samples now s) where
    abbrev Sent : FireExit → Type 0
    Sent x = Fired b a.inbound a.received a.duplicates x × PrefixedFire begins (end_of a.inbound) a.inbound.output x.state

    abbrev timers : FireExit
    timers = fired p.max_retransmissions can

    abbrev sends : Bool → FireExit
    sends t = cond t (pumped timers (pump_sends p.timing b.forward_rolls (chunks_in begins) timers.state.estimator.current_rto now (pump_of timers.state))) timers

    as_numbers : due p.timing s.outgoing.clock now (has_outstanding s.sender.sender) ≡ ran.Numbers → GoodFire timing.PerNumber b.forward_rolls samples now s
    as_numbers e = subst (λ (u : Timing). GoodFire u b.forward_rolls samples now s) (numbers_timing p.timing s.outgoing.clock now (has_outstanding s.sender.sender) e) good

    timers_sent : Told b (fire_moment b a.inbound a.received a.duplicates s) → s.resends.exhausted ≡ false → PrefixedFire begins (end_of a.inbound) a.inbound.output s → Sent timers
    timers_sent q left h = (
      fires_told b a.inbound a.received a.duplicates p.max_retransmissions now can.fire.few can.fire.good left q,
      prefixed_fired begins (end_of a.inbound) a.inbound.output p.max_retransmissions b.forward_rolls now (λ (x : FireState). GoodFire timing.PerNumber b.forward_rolls samples now x) (λ n x k e. good_can_time_out (cancelled_good k n) (timeout.Number n))
          (λ n x k e on. fire_number_good k p.max_retransmissions n e on) p.timing s (λ e k. as_numbers k) (λ e k. good_can_time_out (stopped_good good) (timeout_of p.timing)) h,
    )

    sent_told : Told b (fire_moment b a.inbound a.received a.duplicates s) → s.resends.exhausted ≡ false → PrefixedFire begins (end_of a.inbound) a.inbound.output s
        → Sent (send_due p.max_retransmissions p.timing b.forward_rolls (chunks_in begins) now s)
    unfolding send_due
    sent_told q left h = by_test_lem (is_going_on timers) refl (timers_sent q left h)
      where
        by_test_lem : (t : Bool) → is_going_on timers ≡ t → Sent timers → Sent (sends t)
        by_test_lem true e x =
            let on = can_pump_lem p.max_retransmissions can e in
            let u = pumps_told b a.inbound a.received a.duplicates same timers.state.estimator timers.state.resends (pump_of timers.state) on (x.0.0 e) in
            (((λ k. u.0 (goes_both (is_going (sends true).stop) timers.state.resends.exhausted k).0), u.1), prefixed_pumped begins (end_of a.inbound) a.inbound.output on x.1)
        by_test_lem false e x = x

  -- ---- both, and the run
  module _ (s : RunState) (good : GoodRun p g s) (q : Goes_on s) where
    departed : is_going (arrives p g s).stop ≡ true → Sent (arrives p g s).state (can_send_due (arrived_good good) plan) (good_fire (arrived_good good)) (both_exit p g s)
    departed on = sent_told (arrives p g s).state (can_send_due (arrived_good good) plan) (good_fire (arrived_good good)) ((arrived_told s good q).0.0 on) q.left (arrived_told s good q).1

    step_ended : Ended b (moment_at (step p g s).state)
    step_ended = step_keeps (λ (u : RunState). Ended b (moment_at u)) (λ u time moves rounds h. h) (λ u h. h) p g s (told_over q.told) (arrived_told s good q).0.1 (λ on. (departed on).0.1)

    step_told : (step p g s).course ≡ Going → Goes_on (step p g s).state
    step_told =
        step_goes Goes_on (λ u time moves rounds h. record { told = h.told; prefixed = h.prefixed; left = h.left }) p g s
        (λ on more left. record { told = (departed on).0.0 (both_go _ _ more left); prefixed = (departed on).1; left = left })

  pub run_told : (s : RunState) → GoodRun p g s → Goes_on s → Ended b (moment_at (run p g s).state)
  run_told = run_keeps Goes_on (λ (u : RunState). Ended b (moment_at u)) p g plan (λ s q. told_over q.told) step_ended step_told
