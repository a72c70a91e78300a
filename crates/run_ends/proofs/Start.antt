-- Runs that end before their first packet.
use Rattle.std.specs.Prelude.{None}
use Prim.Native.Nat.{ℕ, zero, suc, ◌-◌}
use native.Mathlib.Omega.{arith}
use mathlib.Core.Path.{◌≡◌, refl, sym, ap, ◌∙◌, subst}
use mathlib.Core.Bool.{Bool, true, false, cond, not, ◌&&◌, ◌||◌}
use mathlib.Core.List.{List, []}
use lib.Dec.{eqb}
use lib.Ieee.{Float}
use borrow.Author.Tests.{le-leb, lt-leb}
use Rattle.protocol.specs.declared.ProtocolType.{ProtocolType}
use Rattle.protocol.specs.declared.ProtocolType.TheVariants.{StopAndWait, GoBackN, SelectiveRepeat}
use Rattle.timer.specs.Timer.{new_timer}
use Rattle.multi_timer.specs.Map.{entries_of, keys_of, keep, deadlines_of, earliest}
use Rattle.multi_timer.specs.MultiTimer.{new_unchecked}
use Rattle.path.specs.Direction.{Direction}
use Rattle.path.specs.Path.{new_path, is_going, deadline_of}
use Rattle.clock.specs.Clock.{new_clock, due}
use Rattle.clock.specs.Clock as clock
use Rattle.clock.specs.declared.Timing.{Timing}
use Rattle.clock.specs.declared.Timing.TheVariants as timing
use Rattle.clock.specs.declared.Due.TheVariants as ran
use Rattle.session.specs.Sending.{has_outstanding}
use Rattle.session.specs.Receiving.{new_receiver, filled}
use Rattle.acks.specs.Acks.{AckState}
use Rattle.acks.specs.Reverse.{ServeExit, serve_exit, serve_reverse}
use Rattle.acks.specs.Reverse as acks
use Rattle.receiving.specs.Receiving.{Inbound, ServeForwardExit, serve_forward_exit, serve_forward}
use Rattle.receiving.specs.Receiving as receiving
use Rattle.arrivals.specs.Arrivals.{ArrivalState, ArrivalExit, arrival_exit, acks_of, with_forward, reverse_served, serve_arrivals}
use Rattle.sending.specs.Sending.{PumpState, PumpExit, pump_exit, next_number, pump_most, pump_sends}
use Rattle.sending.specs.Retransmit.{ceiling_met, exhausted}
use Rattle.sending.proofs.Laws.{unused}
use Rattle.timeouts.specs.Timeouts.{FireState, FireExit, fire_exit, with_resends}
use Rattle.timeouts.proofs.Laws.{timers_met, timers_due_lem}
use Rattle.departures.specs.Departures.{pump_of, pumped, is_going_on, send_due}
use Rattle.setup.specs.Setup.{CanStart}
use Rattle.setup.specs.declared.TransferConfig.{TransferConfig}
use Rattle.step.specs.State.{Given, chunks_for, RunState, Lent, fire_of, with_arrivals, with_fired}
use Rattle.step.specs.State as state
use Rattle.step.specs.Settle.{StepExit, step_exit, over, unless_stopped, sender_idle, next_deadline, move_to, settle}
use Rattle.step.specs.Step.{round_less, step_for}
use Rattle.step.specs.declared.Plan.{Plan}
use Rattle.step.specs.declared.End.TheVariants.{Ended}
use Rattle.step.specs.declared.Course.TheVariants.{Going}
use Rattle.transfer.specs.Start.{plan_of, plan_for, new_run, start_of}
use Rattle.transfer.specs.Run.{is_over, run_at_most_for, run_for, steps_left}
use Rattle.transfer.specs.Transfer.{outcome_of, lent_of, ended, run_transfer}
use Rattle.transfer.specs.declared.Ceilings.{Ceilings}
use Rattle.run_ends.specs.AtStart.{ended_at_start, NothingSent}
use Rattle.run_ends.proofs.Transfer.{accepted_is}

-- ---- nothing waits on either line
forward_none : (rolls : List Float) (total now : ℕ) (f : Direction) (b : Inbound) → f.path.scheduler.count ≡ 0 → serve_forward rolls total now f b ≡ serve_forward_exit f b false (None)
unfolding receiving.serve_at_most
forward_none rolls total now f b e = ap (λ (n : ℕ). receiving.serve_at_most n rolls total now f b) e

reverse_none : (t : Timing) (now : ℕ) (d : Direction) (a : AckState) → d.path.scheduler.count ≡ 0 → serve_reverse t now d a ≡ serve_exit d a false
unfolding acks.serve_at_most
reverse_none t now d a e = ap (λ (n : ℕ). acks.serve_at_most n t now d a) e

arrivals_none : (t : Timing) (rolls : List Float) (total now : ℕ) (a : ArrivalState) → a.forward.path.scheduler.count ≡ 0 → a.inbound.reverse.path.scheduler.count ≡ 0 → serve_arrivals t rolls total now a ≡ arrival_exit a false (None)
unfolding serve_arrivals
arrivals_none t rolls total now a e f =
    ap (λ (x : ServeForwardExit). cond (is_going x.stop) (reverse_served (with_forward a x) x.progress (serve_reverse t now (with_forward a x).inbound.reverse (acks_of (with_forward a x)))) (arrival_exit (with_forward a x) x.progress x.stop)) (forward_none rolls total now a.forward a.inbound e)
    ∙ ap (λ (x : ServeExit). reverse_served a false x) (reverse_none t now a.inbound.reverse (acks_of a) f)

-- ---- the ceiling is met, or no timer has run out and no chunk is left
module _ (limit : ℕ) (t : Timing) (rolls : List Float) (now : ℕ) (s : FireState) where
  due_met : (chunks : List (List ℕ)) → ceiling_met limit s.resends ≡ true → send_due limit t rolls chunks now s ≡ fire_exit (with_resends s (exhausted s.resends)) false (None)
  unfolding send_due
  due_met chunks e = ap (λ (x : FireExit). cond (is_going_on x) (pumped x (pump_sends t rolls chunks x.state.estimator.current_rto now (pump_of x.state))) x) (timers_met limit t rolls now s e)

  none_less : (n : ℕ) → 0 - n ≡ 0
  none_less n = omega arith

  pump_none : (rto : ℕ) (u : PumpState) → pump_sends t rolls [] rto now u ≡ pump_exit u false (None)
  unfolding pump_most
  pump_none rto u = ap (λ (n : ℕ). pump_most n t rolls [] rto now u) (none_less (next_number u))

  due_none : ceiling_met limit s.resends ≡ false → due t s.outgoing.clock now (has_outstanding s.sender.sender) ≡ ran.Nothing → s.resends.exhausted ≡ false → send_due limit t rolls [] now s ≡ fire_exit s false (None)
  unfolding send_due
  due_none e f h =
      ap (λ (x : FireExit). cond (is_going_on x) (pumped x (pump_sends t rolls [] x.state.estimator.current_rto now (pump_of x.state))) x) (timers_due_lem limit t rolls now s e (sym f))
      ∙ ap (λ (b : Bool). cond (not b) (pumped (fire_exit s false (None)) (pump_sends t rolls [] s.estimator.current_rto now (pump_of s))) (fire_exit s false (None))) h
      ∙ ap (λ (y : PumpExit). pumped (fire_exit s false (None)) y) (pump_none s.estimator.current_rto (pump_of s))

-- ---- a step at which nothing is due
module _ (chunks : List (List ℕ)) (p : Plan) (g : Given) (s : RunState) where
  abbrev step_by : ArrivalExit → (RunState → FireExit) → StepExit
  step_by a sends =
      let s1 = with_arrivals (round_less s) a.state in
      let d = sends s1 in
      let s2 = with_fired s1 d.state in
      cond (eqb s.rounds 0) (over (state.exhausted s) Ended s.time)
      (unless_stopped a.stop s1
      (unless_stopped d.stop s2 (cond s2.resends.exhausted (over s2 Ended s.time) (cond (a.progress || d.progress) (step_exit s2 Going) (settle p s2)))))

  -- no arrivals, and x is what is sent
  quiet_step : (x : FireExit) → s.arrivals.forward.path.scheduler.count ≡ 0 → s.arrivals.inbound.reverse.path.scheduler.count ≡ 0
      → send_due p.max_retransmissions p.timing g.forward_rolls chunks s.time (fire_of s) ≡ x → step_for chunks p g s ≡ step_by (arrival_exit s.arrivals false (None)) (λ u. x)
  unfolding step_for
  quiet_step x e f h =
      ap (λ (a : ArrivalExit). step_by a (λ u. send_due p.max_retransmissions p.timing g.forward_rolls chunks s.time (fire_of u))) (arrivals_none p.timing g.reverse_rolls p.total_chunks s.time s.arrivals e f)
      ∙ ap (λ (y : FireExit). step_by (arrival_exit s.arrivals false (None)) (λ u. y)) h

-- a run whose first step is over
over_first : (chunks : List (List ℕ)) (p : Plan) (g : Given) (s : RunState) (x : StepExit) → step_for chunks p g s ≡ x → is_over x.course ≡ true → run_for chunks p g s ≡ x
unfolding run_for run_at_most_for
over_first chunks p g s x e h =
    ap (λ (y : StepExit). cond (is_over y.course) y (run_at_most_for chunks (steps_left p s) p g y.state)) e ∙ ap (λ (b : Bool). cond b x (run_at_most_for chunks (steps_left p s) p g x.state)) h

-- ---- a run just made: no timer runs
new_due : (t : Timing) (keys deadlines : List ℕ) (now : ℕ) (outstanding : Bool) → due t (new_clock keys deadlines) now outstanding ≡ ran.Nothing
unfolding due new_clock new_timer new_unchecked entries_of keys_of keep
new_due timing.Single keys deadlines now outstanding = refl
new_due timing.PerNumber keys deadlines now outstanding = refl
new_due timing.Edition keys deadlines now outstanding = refl

new_unset : (t : Timing) (keys deadlines : List ℕ) → clock.next_deadline t (new_clock keys deadlines) ≡ None
unfolding clock.next_deadline new_clock new_timer new_unchecked entries_of deadlines_of earliest
new_unset timing.Single keys deadlines = refl
new_unset timing.PerNumber keys deadlines = refl
new_unset timing.Edition keys deadlines = refl

-- what it leaves, over
record AtStart (k : Ceilings) (c : TransferConfig) (l : Lent) (x : StepExit) : Type 0 where
  over : is_over x.course ≡ true
  leaves : ended x ≡ ended_at_start k c l

module _ (k : Ceilings) (c : TransferConfig) (g : Given) (l : Lent) where
  either : (b : Bool) {x y : StepExit} → AtStart k c l x → AtStart k c l y → AtStart k c l (cond b x y)
  either true h i = h
  either false h i = i

  -- the ceiling is 0
  met_exit : (chunks : List (List ℕ)) (p : Plan) → p.max_retransmissions ≡ 0 → AtStart k c l (step_for chunks p g (new_run k c l))
  unfolding new_run new_path
  met_exit chunks p z =
      subst (AtStart k c l) (sym (quiet_step chunks p g (new_run k c l) _ refl refl (due_met p.max_retransmissions p.timing g.forward_rolls 0 (fire_of (new_run k c l)) chunks (le-leb p.max_retransmissions 0 (omega (arith, z))))))
      (either (eqb k.rounds 0) (record { over = refl; leaves = refl }) (record { over = refl; leaves = refl }))

  -- no chunk
  abbrev none : Plan
  none = plan_of c 0 k.rounds

  nothing_left : (s : RunState) → s.arrivals.inbound.side.completed ≡ false → next_deadline none.timing s.arrivals.forward s.arrivals.inbound.reverse s.arrivals.clock ≡ None → settle none s ≡ over s Ended s.time
  unfolding settle
  nothing_left s e f =
      ap (λ (b : Bool). cond (b && sender_idle 0 s.arrivals.sender.sender s.arrivals.forward.path s.arrivals.inbound.reverse.path s.arrivals.clock.answer) (over s Ended s.time) (move_to none s (next_deadline none.timing s.arrivals.forward s.arrivals.inbound.reverse s.arrivals.clock))) e
      ∙ ap (move_to none s) f

  new_settles : (s : RunState) → s.arrivals ≡ (new_run k c l).arrivals → next_deadline none.timing s.arrivals.forward s.arrivals.inbound.reverse s.arrivals.clock ≡ None
  unfolding new_run new_path next_deadline deadline_of
  new_settles s e = ap (λ (a : ArrivalState). next_deadline none.timing a.forward a.inbound.reverse a.clock) e ∙ new_unset none.timing l.keys l.deadlines

  none_exit : ceiling_met c.max_retransmissions (new_run k c l).resends ≡ false → AtStart k c l (step_for [] none g (new_run k c l))
  unfolding new_run new_path
  none_exit m =
      subst (AtStart k c l) (sym (quiet_step [] none g (new_run k c l) _ refl refl (due_none c.max_retransmissions none.timing g.forward_rolls 0 (fire_of (new_run k c l)) m (new_due none.timing l.keys l.deadlines 0 _) refl)))
      (either (eqb k.rounds 0) (record { over = refl; leaves = refl })
      (subst (AtStart k c l) (sym (nothing_left (round_less (new_run k c l)) refl (new_settles (round_less (new_run k c l)) refl))) (record { over = refl; leaves = refl })))

  -- ---- the runs
  first_over : (chunks : List (List ℕ)) (p : Plan) → AtStart k c l (step_for chunks p g (new_run k c l)) → ended (run_for chunks p g (new_run k c l)) ≡ ended_at_start k c l
  first_over chunks p a = ap ended (over_first chunks p g (new_run k c l) (step_for chunks p g (new_run k c l)) refl a.over) ∙ a.leaves

  -- no chunks: whatever the ceiling, the run ends at its start
  pub no_chunks : ended (run_for [] (plan_of c 0 k.rounds) g (new_run k c l)) ≡ ended_at_start k c l
  unfolding new_run
  no_chunks = by_ceiling c.max_retransmissions refl
    where
      by_ceiling : (n : ℕ) → c.max_retransmissions ≡ n → ended (run_for [] (plan_of c 0 k.rounds) g (new_run k c l)) ≡ ended_at_start k c l
      by_ceiling zero z = first_over [] none (met_exit [] none z)
      by_ceiling (suc n) z = first_over [] none (none_exit (lt-leb c.max_retransmissions 0 (omega (arith, z))))

  -- no packet may be sent again: the run ends before its first
  pub no_resends : CanStart (start_of c g l) → c.max_retransmissions ≡ 0 → run_transfer k c g l ≡ ended_at_start k c l
  no_resends h z = accepted_is k c g l h ∙ first_over (chunks_for (plan_for k c g) g) (plan_for k c g) (met_exit (chunks_for (plan_for k c g) g) (plan_for k c g) z)

-- ---- what such a run leaves
none_filled : (p : ProtocolType) (w : ℕ) (store : List ℕ) → filled (new_receiver p w store).receiver ≡ 0
unfolding new_receiver
none_filled StopAndWait w store = refl
none_filled GoBackN w store = refl
none_filled SelectiveRepeat w store = refl

pub start_nothing : (k : Ceilings) (c : TransferConfig) (l : Lent) → NothingSent l (outcome_of (over (new_run k c l) Ended 0)) (lent_of (new_run k c l))
unfolding new_run new_path
start_nothing k c l =
    record {
      ends = refl;
      finished = refl;
      completed = refl;
      number = (unused c.protocol c.window_size k.retries l.sender_store).next;
      carried = refl;
      events = refl;
      written = none_filled c.protocol c.window_size l.receiver_store;
      output = refl;
    }
