-- A step of a run that is sized for its packets: it ends as the source does, or goes on and is sized as before.
use Rattle.std.specs.Prelude.{None, Option}
use Prim.Native.Nat.{ℕ, zero, suc, ◌+◌, ◌*◌, ◌≤◌}
use native.Mathlib.Omega.{arith}
use mathlib.Core.Path.{◌≡◌, refl, sym, ◌∙◌, subst}
use mathlib.Core.Bool.{Bool, true, false, cond, ◌||◌}
use lib.Dec.{eqb}
use Rattle.path.specs.Rolls.{packet_rolls}
use Rattle.path.specs.declared.Stop.{Stop}
use Rattle.session.specs.Sending.{window_of}
use Rattle.arrivals.proofs.Laws.{arrivals_keep}
use Rattle.step.specs.State.{Given, RunState, fire_of, with_arrivals, exhausted, at}
use Rattle.step.specs.Settle.{StepExit, over, unless_stopped, settle}
use Rattle.step.specs.Step.{round_less, step}
use Rattle.step.specs.Good.{GoodPlan, GoodRun}
use Rattle.step.specs.declared.Plan.{Plan}
use Rattle.step.specs.declared.End.{End}
use Rattle.step.specs.declared.End.TheVariants as end
use Rattle.step.specs.declared.Course.TheVariants.{Going, Over}
use Rattle.step.proofs.Laws.{arrives, step_is, settle_cases, after_both, both_exit, can_arrive, arrived_good, good_fire, can_send_due, step_good}
use Rattle.transfer.specs.Run.{is_over, run_at_most_for, run_at_most, run_for, run, steps_left}
use Rattle.transfer.specs.Transfer.{end_of}
use Rattle.transfer.proofs.Runs.{not_over}
use Rattle.sizes.proofs.Sending.{SentAt, FireGoes, send_due_sized}
use Rattle.sizes.proofs.Receiving.{Replies, arrivals_sized}

-- each chunk once, and the packets that are sent again
abbrev pub most : Plan → ℕ
most p = p.total_chunks + p.max_retransmissions

pub record Sized (p : Plan) (g : Given) (s : RunState) : Type 0 where
  pub sent : SentAt p.total_chunks p.max_retransmissions g.forward_rolls s.time (fire_of s)
  pub replies : Replies (2 * most p) g.reverse_rolls s.arrivals.inbound

-- over as the source ends, or going on
pub record Fine (p : Plan) (g : Given) (x : StepExit) : Type 0 where
  pub ends : end_of x.course ≡ end.Ended
  pub goes : x.course ≡ Going → Sized p g x.state

still_going : {e : End} {time : ℕ} → Over e time ≡ Going → ⊥
still_going e = let z : ◌≡◌ {A = ℕ} 0 1 = cc in omega arith

copies_most : (datas count next used written first again total limit : ℕ) → datas + count ≤ next → next * packet_rolls ≤ 2 * used → used ≡ written * packet_rolls → written ≡ first + again → first ≤ total → again ≤ limit → datas + count ≤ 2 * (total + limit)
copies_most datas count next used written first again total limit a b c d e f = omega arith

behind : (datas count next : ℕ) → datas + count ≤ next → count ≤ next
behind datas count next h = omega arith

module _ {p : Plan} {g : Given} {s : RunState} (plan : GoodPlan p g) (good : GoodRun p g s) (q : Sized p g s) where
  -- ---- both parts of a round go on
  few : s.arrivals.inbound.side.data_received + s.arrivals.forward.path.scheduler.count ≤ 2 * most p
  few =
      copies_most s.arrivals.inbound.side.data_received s.arrivals.forward.path.scheduler.count s.arrivals.forward.path.scheduler.next_order s.arrivals.forward.path.used s.written
      (window_of s.arrivals.sender.sender).next_seq_num s.resends.retx_submitted p.total_chunks p.max_retransmissions good.arrived.datas good.outgoing.forward.counted.orders q.sent.room.used q.sent.written q.sent.first
      q.sent.again

  arrived : ((arrives p g s).stop ≡ None) × Replies (2 * most p) g.reverse_rolls (arrives p g s).state.inbound
  arrived = arrivals_sized (2 * most p) g.reverse_rolls p.total_chunks s.time p.timing s.arrivals (can_arrive good) q.replies few

  abbrev between : RunState
  between = with_arrivals (round_less s) (arrives p g s).state

  between_sent : SentAt p.total_chunks p.max_retransmissions g.forward_rolls s.time (fire_of between)
  between_sent =
      let k = arrivals_keep p.timing g.reverse_rolls p.total_chunks s.time s.arrivals (can_arrive good) in
      let r = q.sent.room in
      record {
        room = record {
          events = r.events;
          enough = r.enough;
          records = rw k.forward.records r.records;
          places = rw k.forward.places r.places;
          used = k.forward.used ∙ r.used;
          waiting = behind (arrives p g s).state.inbound.side.data_received _ _ (arrived_good good).arrived.datas;
        };
        written = rw k.sender.next q.sent.written;
        first = rw k.sender.next q.sent.first;
        again = q.sent.again;
      }

  departed : FireGoes p.total_chunks p.max_retransmissions g.forward_rolls s.time (both_exit p g s)
  departed = send_due_sized p.total_chunks p.max_retransmissions g.forward_rolls s.time (can_send_due (arrived_good good) plan) (good_fire (arrived_good good)) between_sent

  both_sized : Sized p g (after_both p g s)
  both_sized =
      let a = arrived.1 in
      record {
        sent = departed.1;
        replies = record { enough = a.enough; records = a.records; places = a.places; none = a.none; used = a.used; waiting = a.waiting };
      }

  -- ---- the step
  over_fine : (u : RunState) (time : ℕ) → Fine p g (over u end.Ended time)
  over_fine u time = record { ends = refl; goes = λ e. absurd (still_going e) }

  at_sized : (u : RunState) (time moves rounds : ℕ) → Sized p g u → Sized p g (at u time moves rounds)
  at_sized u time moves rounds h = record { sent = h.sent; replies = h.replies }

  unless : {st : Option Stop} (u : RunState) {rest : StepExit} → st ≡ None → Fine p g rest → Fine p g (unless_stopped st u rest)
  unless u {rest} e h = subst (λ (x : Option Stop). Fine p g (unless_stopped x u rest)) (sym e) h

  either : (b : Bool) {x y : StepExit} → Fine p g x → Fine p g y → Fine p g (cond b x y)
  either true h k = h
  either false h k = k

  settle_fine : Fine p g (settle p (after_both p g s))
  settle_fine =
      settle_cases p (after_both p g s) (Fine p g) (λ time. over_fine _ time) (λ t e h. over_fine _ _) (λ t e h k z. over_fine _ _)
      (λ t e h k z. record { ends = refl; goes = λ i. at_sized (after_both p g s) _ _ _ both_sized })

  pub step_fine : Fine p g (step p g s)
  step_fine =
      subst (Fine p g) (sym (step_is p g s))
      (either (eqb s.rounds 0) (over_fine (exhausted s) s.time)
      (unless between arrived.0
      (unless (after_both p g s) departed.0
      (either (after_both p g s).resends.exhausted (over_fine (after_both p g s) s.time)
      (either ((arrives p g s).progress || (both_exit p g s).progress) (record { ends = refl; goes = λ e. both_sized }) settle_fine)))))

-- ---- the run
module _ (p : Plan) (g : Given) (plan : GoodPlan p g) where
  most_ended : (n : ℕ) (s : RunState) → GoodRun p g s → Sized p g s → end_of (run_at_most n p g s).course ≡ end.Ended
  unfolding run_at_most_for
  most_ended zero s good q = refl
  most_ended (suc n) s good q = by_course (is_over (step p g s).course) refl (λ more sized. most_ended n (step p g s).state more sized)
    where
      by_course : (b : Bool) → is_over (step p g s).course ≡ b → (GoodRun p g (step p g s).state → Sized p g (step p g s).state → end_of (run_at_most n p g (step p g s).state).course ≡ end.Ended)
          → end_of (cond b (step p g s) (run_at_most n p g (step p g s).state)).course ≡ end.Ended
      by_course true e more = (step_fine plan good q).ends
      by_course false e more = let c = not_over (step p g s).course e in more (step_good plan good c) ((step_fine plan good q).goes c)

  pub run_ended : (s : RunState) → GoodRun p g s → Sized p g s → end_of (run p g s).course ≡ end.Ended
  unfolding run_for
  run_ended s good q = most_ended (suc (steps_left p s)) s good q
