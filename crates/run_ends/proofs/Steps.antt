-- A step of a run, and the run: at its end every packet that was due was carried, or all but the last.
use Rattle.std.specs.Prelude.{None, Option, Some}
use Prim.Native.Nat.{ℕ, zero, suc, ◌+◌}
use mathlib.Core.Path.{◌≡◌, refl, sym, ap, ◌∙◌, subst}
use mathlib.Core.Bool.{Bool, true, false, cond, ◌||◌}
use mathlib.Core.Logic.{◌⊎◌, inl, inr}
use lib.Dec.{eqb}
use Rattle.channel.specs.declared.ChannelConfig.{ChannelConfig}
use Rattle.path.specs.declared.Stop.{Stop}
use Rattle.path.specs.declared.Stop.TheVariants as stop
use Rattle.session.specs.Sending.{window_of}
use Rattle.submission.specs.Submission.{entry_free}
use Rattle.arrivals.proofs.Laws.{arrivals_keep}
use Rattle.step.specs.State.{Given, RunState, outgoing_of, with_arrivals, exhausted, at}
use Rattle.step.specs.Settle.{StepExit, unless_stopped, settle}
use Rattle.step.specs.Step.{round_less, step}
use Rattle.step.specs.Good.{GoodPlan, GoodRun}
use Rattle.step.specs.declared.Plan.{Plan}
use Rattle.step.specs.declared.End.{End}
use Rattle.step.specs.declared.End.TheVariants as end
use Rattle.step.specs.declared.Course.{Course}
use Rattle.step.specs.declared.Course.TheVariants.{Going}
use Rattle.step.proofs.Laws.{arrives, step_is, settle_cases, after_both, both_exit, can_arrive, arrived_good, good_fire, can_send_due, step_good}
use Rattle.transfer.specs.Run.{is_over, run_at_most_for, run_at_most, run_for, run, steps_left}
use Rattle.transfer.specs.Transfer.{end_of}
use Rattle.transfer.proofs.Laws.{not_over}
use Rattle.run_ends.proofs.Lines.{LineAt, line_due}
use Rattle.run_ends.proofs.Sending.{ForwardAt, send_due_at}
use Rattle.run_ends.proofs.Receiving.{ReverseAt, arrivals_at}

-- what came of the last packet, by the run's end
abbrev pub stop_for : End → Option Stop
stop_for end.Ended = None
stop_for end.RollsSpent = Some stop.RollsSpent
stop_for end.EventsFull = Some stop.EventsFull
stop_for end.ScheduleFull = Some stop.ScheduleFull

-- c and d are the setups of the forward and the reverse line
module _ (c d : ChannelConfig) (p : Plan) (g : Given) where
  -- both lines, by what came of the last packet of each
  pub record LinesAt (forward reverse : Option Stop) (s : RunState) : Type 0 where
    pub forth : ForwardAt c g.forward_rolls forward ((window_of s.arrivals.sender.sender).next_seq_num + s.resends.retx_submitted) (outgoing_of s)
    pub back : ReverseAt d g.reverse_rolls reverse s.arrivals.inbound

  abbrev pub Going-on : RunState → Type 0
  Going-on s = LinesAt (None) (None) s

  abbrev pub EndsAt : End → RunState → Type 0
  EndsAt e s = LinesAt (stop_for e) (None) s ⊎ LinesAt (None) (stop_for e) s

  record Ends (x : StepExit) : Type 0 where
    is : EndsAt (end_of x.course) x.state

  -- ---- the parts of a step
  at_ends : (u : RunState) (time moves rounds : ℕ) → Going-on u → Going-on (at u time moves rounds)
  at_ends u time moves rounds h = record { forth = h.forth; back = h.back }

  spent_ends : (u : RunState) → Going-on u → Going-on (exhausted u)
  spent_ends u h = record { forth = h.forth; back = h.back }

  unless : (st : Option Stop) (u : RunState) (rest : StepExit) → LinesAt st (None) u ⊎ LinesAt (None) st u → (st ≡ None → Ends rest) → Ends (unless_stopped st u rest)
  unless (None) u rest h k = k refl
  unless (Some stop.RollsSpent) u rest h k = record { is = h }
  unless (Some stop.EventsFull) u rest h k = record { is = h }
  unless (Some stop.ScheduleFull) u rest h k = record { is = h }

  either : (b : Bool) {x y : StepExit} → Ends x → Ends y → Ends (cond b x y)
  either true h k = h
  either false h k = k

  settled : (u : RunState) → Going-on u → Ends (settle p u)
  settled u h =
      settle_cases p u Ends (λ time. record { is = inl h }) (λ t e i. record { is = inl (spent_ends u h) }) (λ t e i k z. record { is = inl (at_ends u t u.moves u.rounds h) })
      (λ t e i k z. record { is = inl (at_ends u t _ p.rounds h) })

  module _ (plan : GoodPlan p g) {s : RunState} (good : GoodRun p g s) (q : Going-on s) where
    abbrev middle : RunState
    middle = with_arrivals (round_less s) (arrives p g s).state

    arrived : LineAt (None) c g.forward_rolls (entry_free (outgoing_of s)) ((window_of s.arrivals.sender.sender).next_seq_num + s.resends.retx_submitted) (arrives p g s).state.forward
        × ReverseAt d g.reverse_rolls (arrives p g s).stop (arrives p g s).state.inbound
    arrived = arrivals_at d g.reverse_rolls p.total_chunks s.time c g.forward_rolls p.timing s.arrivals (can_arrive good) q.forth.line q.back

    middle_at : LinesAt (None) (arrives p g s).stop middle
    middle_at =
        let k = arrivals_keep p.timing g.reverse_rolls p.total_chunks s.time s.arrivals (can_arrive good) in
        record {
          forth = record {
            line = line_due (ap (λ (n : ℕ). n + s.resends.retx_submitted) k.sender.next) arrived.0;
            events = q.forth.events ∙ sym (ap (λ x. x.stats.packets_seen) k.forward.channel);
          };
          back = arrived.1;
        }

    both_at : (arrives p g s).stop ≡ None → LinesAt (both_exit p g s).stop (None) (after_both p g s)
    both_at e =
        record {
          forth = send_due_at c g.forward_rolls p.max_retransmissions s.time (can_send_due (arrived_good good) plan) (good_fire (arrived_good good)) middle_at.forth;
          back = subst (λ (st : Option Stop). ReverseAt d g.reverse_rolls st (arrives p g s).state.inbound) e arrived.1;
        }

    on_going : (arrives p g s).stop ≡ None → (both_exit p g s).stop ≡ None → Going-on (after_both p g s)
    on_going e f = subst (λ (st : Option Stop). LinesAt st (None) (after_both p g s)) f (both_at e)

    step_ends : Ends (step p g s)
    step_ends =
        subst Ends (sym (step_is p g s))
        (either (eqb s.rounds 0) (record { is = inl (spent_ends s q) })
        (unless (arrives p g s).stop middle _ (inr middle_at)
        (λ e. unless (both_exit p g s).stop (after_both p g s) _ (inl (both_at e))
        (λ f. either (after_both p g s).resends.exhausted (record { is = inl (on_going e f) })
        (either ((arrives p g s).progress || (both_exit p g s).progress) (record { is = inl (on_going e f) }) (settled (after_both p g s) (on_going e f)))))))

  -- ---- the run
  same : {s : RunState} → LinesAt (None) (None) s ⊎ LinesAt (None) (None) s → Going-on s
  same (inl h) = h
  same (inr h) = h

  still : {x : StepExit} → x.course ≡ Going → Ends x → Going-on x.state
  still {x} e h = same (subst (λ (k : Course). EndsAt (end_of k) x.state) e h.is)

  module _ (plan : GoodPlan p g) where
    most_ends : (n : ℕ) (s : RunState) → GoodRun p g s → Going-on s → Ends (run_at_most n p g s)
    unfolding run_at_most_for
    most_ends zero s good q = record { is = inl q }
    most_ends (suc n) s good q = by_course (is_over (step p g s).course) refl (λ more next. most_ends n (step p g s).state more next)
      where
        by_course : (b : Bool) → is_over (step p g s).course ≡ b → (GoodRun p g (step p g s).state → Going-on (step p g s).state → Ends (run_at_most n p g (step p g s).state)) → Ends (cond b (step p g s) (run_at_most n p g (step p g s).state))
        by_course true e more = step_ends plan good q
        by_course false e more = let i = not_over (step p g s).course e in more (step_good plan good i) (still i (step_ends plan good q))

    pub run_ends_at : (s : RunState) → GoodRun p g s → Going-on s → EndsAt (end_of (run p g s).course) (run p g s).state
    unfolding run_for
    run_ends_at s good q = (most_ends (suc (steps_left p s)) s good q).is
