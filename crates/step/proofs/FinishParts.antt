-- The second half of a round, the timers and the window, each called only where something is due: what is left after each, what the next asks, and each end of the round.
use Rattle.std.specs.Prelude.{None, Option}
use mathlib.Core.Path.{◌≡◌, refl, sym, ap, ◌∙◌, subst}
use mathlib.Core.Bool.{Bool, true, false, cond, not, ◌&&◌, ◌||◌}
use Rattle.path.specs.Path.{is_going}
use Rattle.path.specs.declared.Stop.{Stop}
use Rattle.sending.specs.Sending.{PumpExit, pump_exit, can_pump, pump_sends}
use Rattle.sending.specs.Good.{CanPump}
use Rattle.sending.proofs.Laws.{pump_nothing}
use Rattle.timeouts.specs.Timeouts.{FireExit, fire_timers, timers_due}
use Rattle.timeouts.specs.Good.{CanFire}
use Rattle.timeouts.proofs.Laws.{timers_not_due}
use Rattle.departures.specs.Departures.{pump_of, with_pumped, pumped, is_going_on}
use Rattle.departures.proofs.Laws.{can_pump_lem, timers_alone, timers_and_chunks}
use Rattle.step.specs.State.{Given, chunks_for, RunState, fire_of, with_fired}
use Rattle.step.specs.Settle.{StepExit, step_exit, over, unless_stopped, settle}
use Rattle.step.specs.Good.{GoodPlan, GoodRun}
use Rattle.step.specs.Internal.{sending, ended, finish_round}
use Rattle.step.specs.declared.Plan.{Plan}
use Rattle.step.specs.declared.End.TheVariants as end
use Rattle.step.specs.declared.Course.TheVariants.{Going}
use Rattle.step.proofs.Rounds.{going_is, not_going, is_going_lem, or_false}
use Rattle.step.proofs.Good.{can_send_due, sent_good}

or_assoc : (a b c : Bool) → ((a || b) || c) ≡ (a || (b || c))
or_assoc true b c = refl
or_assoc false b c = refl

both_on : {a b : Bool} → a ≡ true → b ≡ false → (a && not b) ≡ true
both_on p q = rw (p, q)

over_off : (a : Bool) {b : Bool} → b ≡ true → (a && not b) ≡ false
over_off true e = ap not e
over_off false e = refl

module _ (p : Plan) (g : Given) (some : Bool) (u : RunState) where
  -- ---- after the timers
  abbrev pub fires : FireExit
  fires = fire_timers p.max_retransmissions p.timing g.forward_rolls u.time (fire_of u)

  pub record AfterTimers (x : RunState) (q : Bool) : Type 0 where
    pub state : x ≡ with_fired u fires.state
    pub any : q ≡ (some || fires.progress)
    pub going : is_going fires.stop ≡ true

  pub fired_due : {y : FireExit} {b : Bool} → y ≡ fires → b ≡ is_going y.stop → not b ≡ false → AfterTimers (with_fired u y.state) (some || y.progress)
  fired_due {b = b} e i n =
      record {
        state = ap (λ (z : FireExit). with_fired u z.state) e;
        any = ap (λ (z : FireExit). some || z.progress) e;
        going = ap (λ (z : FireExit). is_going z.stop) (sym e) ∙ sym i ∙ is_going_lem b n;
      }

  pub fired_not_due : timers_due p.max_retransmissions p.timing u.time u.arrivals.sender.sender u.resends u.arrivals.clock ≡ false → AfterTimers u some
  fired_not_due h =
      let t = fired_due {b = true} (sym (timers_not_due p.max_retransmissions p.timing g.forward_rolls u.time (fire_of u) h)) refl refl in
      record { state = t.state; any = sym (or_false some) ∙ t.any; going = t.going }

  pub can_fire : GoodPlan p g → GoodRun p g u → CanFire p.timing g.forward_rolls u.time (fire_of u)
  can_fire plan good = (can_send_due good plan).fire

  -- ---- after the chunks
  pub record AfterBoth (x : RunState) (q : Bool) : Type 0 where
    pub state : x ≡ with_fired u (sending p g u).state
    pub any : q ≡ (some || (sending p g u).progress)
    pub going : is_going (sending p g u).stop ≡ true
    pub left : (sending p g u).state.resends.exhausted ≡ false

  pumping : RunState → PumpExit
  pumping x = pump_sends p.timing g.forward_rolls (chunks_for p g) x.arrivals.estimator.current_rto u.time (pump_of (fire_of x))

  abbrev with_chunks : RunState → PumpExit → RunState
  with_chunks x y = with_fired x (with_pumped (fire_of x) y.state)

  module _ {x : RunState} {q : Bool} (t : AfterTimers x q) (left : x.resends.exhausted ≡ false) where
    fires_on : is_going_on fires ≡ true
    fires_on = both_on t.going (ap (λ (z : RunState). z.resends.exhausted) (sym t.state) ∙ left)

    pub can_pump_then : GoodPlan p g → GoodRun p g u → CanPump p.timing g.forward_rolls p.chunk_size g.file p.total_chunks x.arrivals.estimator.current_rto u.time (pump_of (fire_of x))
    can_pump_then plan good =
        subst (λ (z : RunState). CanPump p.timing g.forward_rolls p.chunk_size g.file p.total_chunks z.arrivals.estimator.current_rto u.time (pump_of (fire_of z))) (sym t.state)
        (can_pump_lem p.max_retransmissions (can_send_due good plan) fires_on)

    module _ {y : PumpExit} (e : y ≡ pump_sends p.timing g.forward_rolls (chunks_for p g) x.arrivals.estimator.current_rto u.time (pump_of (fire_of x))) where
      sent_is : pumped fires y ≡ sending p g u
      unfolding pumping
      sent_is =
          ap (pumped fires) (e ∙ ap pumping t.state)
          ∙ sym (timers_and_chunks p.max_retransmissions p.timing g.forward_rolls (chunks_for p g) u.time (fire_of u) fires_on)

      pub chunks_due : {b : Bool} → b ≡ is_going y.stop → not b ≡ false → AfterBoth (with_chunks x y) (q || y.progress)
      chunks_due {b} i n =
          record {
            state = ap (λ (z : RunState). with_chunks z y) t.state ∙ ap (λ (d : FireExit). with_fired u d.state) sent_is;
            any = ap (λ (c : Bool). c || y.progress) t.any ∙ or_assoc some fires.progress y.progress ∙ ap (λ (d : FireExit). some || d.progress) sent_is;
            going = ap (λ (d : FireExit). is_going d.stop) (sym sent_is) ∙ sym i ∙ is_going_lem b n;
            left = ap (λ (d : FireExit). d.state.resends.exhausted) (sym sent_is) ∙ ap (λ (z : RunState). z.resends.exhausted) (sym t.state) ∙ left;
          }

    pub chunks_not_due : GoodPlan p g → GoodRun p g u → can_pump p.total_chunks x.arrivals.sender.sender ≡ false → AfterBoth x q
    chunks_not_due plan good h =
        let b = chunks_due {y = pump_exit (pump_of (fire_of x)) false (None)} (sym (pump_nothing (can_pump_then plan good) h)) {b = true} refl refl in
        record { state = b.state; any = sym (or_false q) ∙ b.any; going = b.going; left = b.left }

  pub good_both : {x : RunState} {q : Bool} → AfterBoth x q → GoodPlan p g → GoodRun p g u → GoodRun p g x
  good_both b plan good = subst (GoodRun p g) (sym b.state) (sent_good good plan b.going b.left)

  -- ---- the same of equal states
  module _ {x y : RunState} {q r : Bool} (e : y ≡ x) (i : r ≡ q) where
    pub same_timers : AfterTimers x q → AfterTimers y r
    same_timers a = record { state = e ∙ a.state; any = i ∙ a.any; going = a.going }

    pub same_both : AfterBoth x q → AfterBoth y r
    same_both a = record { state = e ∙ a.state; any = i ∙ a.any; going = a.going; left = a.left }

  -- ---- the ends of the round
  by_ended : {y : StepExit} → y ≡ ended p some u (sending p g u) → y ≡ finish_round p g some u
  unfolding finish_round
  by_ended h = h

  abbrev ends : RunState → Bool → Bool → StepExit
  ends v t b = cond t (over v end.Ended u.time) (cond b (step_exit v Going) (settle p v))

  pub timers_stop : {y : FireExit} {b : Bool} → y ≡ fires → b ≡ is_going y.stop → not b ≡ true
      → {w : StepExit} → ((rest : StepExit) → is_going y.stop ≡ false → w ≡ unless_stopped y.stop (with_fired u y.state) rest) → w ≡ finish_round p g some u
  timers_stop {y} {b} e i n h =
      let off : is_going y.stop ≡ false = sym i ∙ not_going b n in
      let alone : y ≡ sending p g u =
      e
      ∙ sym (timers_alone p.max_retransmissions p.timing g.forward_rolls (chunks_for p g) u.time (fire_of u)
      (ap (λ (c : Bool). c && not fires.state.resends.exhausted) (ap (λ (d : FireExit). is_going d.stop) (sym e) ∙ off))) in
      let v = with_fired u y.state in
      by_ended (h (ends v v.resends.exhausted (some || y.progress)) off ∙ ap (ended p some u) alone)

  pub exhausted_end : {x : RunState} {q : Bool} → AfterTimers x q → x.resends.exhausted ≡ true → {w : StepExit} → w ≡ over x end.Ended u.time → w ≡ finish_round p g some u
  exhausted_end t out h =
      let v = with_fired u fires.state in
      let spent : v.resends.exhausted ≡ true = ap (λ (r : RunState). r.resends.exhausted) (sym t.state) ∙ out in
      let alone : fires ≡ sending p g u =
      sym (timers_alone p.max_retransmissions p.timing g.forward_rolls (chunks_for p g) u.time (fire_of u) (over_off (is_going fires.stop) spent)) in
      by_ended
      (h ∙ ap (λ (r : RunState). over r end.Ended u.time) t.state ∙ ap (λ (c : Bool). ends v c (some || fires.progress)) (sym spent)
      ∙ ap (λ (st : Option Stop). unless_stopped st v (ends v v.resends.exhausted (some || fires.progress))) (sym (going_is fires.stop t.going)) ∙ ap (ended p some u) alone)

  pub chunks_stop : {x : RunState} {q : Bool} (t : AfterTimers x q) (left : x.resends.exhausted ≡ false) {y : PumpExit} {b : Bool}
      → y ≡ pump_sends p.timing g.forward_rolls (chunks_for p g) x.arrivals.estimator.current_rto u.time (pump_of (fire_of x)) → b ≡ is_going y.stop → not b ≡ true
      → {w : StepExit} → ((rest : StepExit) → is_going y.stop ≡ false → w ≡ unless_stopped y.stop (with_chunks x y) rest) → w ≡ finish_round p g some u
  chunks_stop t left {y} {b} e i n h =
      let v = with_fired u (pumped fires y).state in
      let rest = ends v v.resends.exhausted (some || (pumped fires y).progress) in
      by_ended
      (h rest (sym i ∙ not_going b n) ∙ ap (λ (r : RunState). unless_stopped y.stop (with_chunks r y) rest) t.state ∙ ap (ended p some u) (sent_is t left e))

  module _ {x : RunState} {q : Bool} (b : AfterBoth x q) where
    by_both : {w : StepExit} → w ≡ cond q (step_exit x Going) (settle p x) → w ≡ finish_round p g some u
    by_both h =
        let d = sending p g u in
        let v = with_fired u d.state in
        by_ended
        (h ∙ ap (λ (r : RunState). cond q (step_exit r Going) (settle p r)) b.state ∙ ap (λ (c : Bool). cond c (step_exit v Going) (settle p v)) b.any
        ∙ ap (λ (c : Bool). ends v c (some || d.progress)) (sym b.left)
        ∙ ap (λ (st : Option Stop). unless_stopped st v (ends v d.state.resends.exhausted (some || d.progress))) (sym (going_is d.stop b.going)))

    pub goes_on : q ≡ true → {w : StepExit} → w ≡ step_exit x Going → w ≡ finish_round p g some u
    goes_on e h = by_both (h ∙ ap (λ (c : Bool). cond c (step_exit x Going) (settle p x)) (sym e))

    pub settles : q ≡ false → {w : StepExit} → w ≡ settle p x → w ≡ finish_round p g some u
    settles e h = by_both (h ∙ ap (λ (c : Bool). cond c (step_exit x Going) (settle p x)) (sym e))
