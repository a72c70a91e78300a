-- What holds of a run at every moment, and each part of a step keeps: it follows a list of calls, its parts are prefixes, and it is completed exactly where all chunks are delivered.
use Prim.Native.Nat.{ℕ}
use mathlib.Core.Path.{◌≡◌, refl, sym, subst}
use mathlib.Core.Bool.{Bool, true, false, cond}
use mathlib.Core.List.{List}
use lib.Ieee.{Float}
use lib.ListN.{length}
use Rattle.protocol.specs.declared.ProtocolType.{ProtocolType}
use Rattle.channel.specs.declared.ChannelConfig.{ChannelConfig}
use Rattle.events.specs.Events.{events_of}
use Rattle.clock.specs.Clock.{due}
use Rattle.clock.specs.declared.Timing.{Timing}
use Rattle.clock.specs.declared.Timing.TheVariants as timing
use Rattle.clock.specs.declared.Due.TheVariants as ran
use Rattle.session.specs.Sending.{has_outstanding}
use Rattle.session.specs.declared.Timeout.TheVariants as timeout
use Rattle.receiving.proofs.Laws.{CompletedIs, serve_completed_is}
use Rattle.sending.specs.Sending.{pump_sends}
use Rattle.timeouts.specs.Timeouts.{FireState, timeout_of}
use Rattle.timeouts.specs.Good.{GoodFire}
use Rattle.timeouts.proofs.Laws.{stopped_good, cancelled_good, fire_number_good, numbers_timing}
use Rattle.arrivals.specs.Arrivals.{ArrivalState, ArrivalExit, acks_of, serve_arrivals, CanServeArrivals}
use Rattle.arrivals.proofs.Laws.{served, can_serve_reverse, between, either_exit}
use Rattle.departures.specs.Departures.{pump_of, pumped, is_going_on, send_due, CanSendDue}
use Rattle.departures.proofs.Laws.{fired, can_pump_lem}
use Rattle.completion.proofs.Laws.{Start, chunks_in, end_of, Runs, runs_served, runs_acked, runs_pumped, good_can_time_out, RunsFire, runs_fired}
use Rattle.prefixes.proofs.Laws.{Prefixed, prefixed_served, prefixed_acked, prefixed_pumped, PrefixedFire, prefixed_fired}
use Rattle.step.specs.State.{Given, RunState}
use Rattle.step.specs.Step.{step}
use Rattle.step.specs.Good.{GoodPlan, GoodRun}
use Rattle.step.specs.declared.Plan.{Plan}
use Rattle.step.proofs.Laws.{arrives, can_arrive, arrived_good, good_fire, can_send_due, after_both}
use Rattle.transfer_delivery.proofs.Steps.{At, step_keeps}

-- the ends as made, for a file
abbrev pub begins : ProtocolType → ℕ → ℕ → List ℕ → List ℕ → List ℕ → ℕ → List ℕ → Start
begins p w limit sending receiving output size file =
    record { protocol = p; window = w; limit = limit; sending = sending; receiving = receiving; output = output; size = size; file = file }

pub record Holds (s : Start) (c : ChannelConfig) (rolls : List Float) (a : ArrivalState) (written : ℕ) (events : List (List ℕ)) : Type 0 where
  pub runs : Runs s c rolls a.sender (end_of a.inbound) a.inbound.output a.forward (events_of written events) a.inbound.reverse
  pub prefixed : Prefixed s a.sender (end_of a.inbound) a.inbound.output a.forward
  pub completed : CompletedIs (length (chunks_in s)) a.inbound.side

-- ---- what is due on both lines
arrivals_hold : {s : Start} {c : ChannelConfig} {rolls : List Float} {w : ℕ} {ev : List (List ℕ)} (t : Timing) (reverse_rolls : List Float) (total now : ℕ) (a : ArrivalState) → total ≡ length (chunks_in s) → CanServeArrivals reverse_rolls now a
    → Holds s c rolls a w ev → Holds s c rolls (serve_arrivals t reverse_rolls total now a).state w ev
arrivals_hold {s} {c} {rolls} {w} {ev} t reverse_rolls total now a whole can q =
    either_exit t reverse_rolls total now a can (λ (x : ArrivalExit). Holds s c rolls x.state w ev) (λ e. forward)
    (λ e. record {
      runs = runs_acked t now (acks_of (between t reverse_rolls total now a can)) (can_serve_reverse reverse_rolls total now a can) forward.runs;
      prefixed = prefixed_acked t now _ (acks_of (between t reverse_rolls total now a can)) forward.prefixed;
      completed = forward.completed;
    })
  where
    forward : Holds s c rolls (between t reverse_rolls total now a can) w ev
    forward =
        record {
          runs = runs_served reverse_rolls total now can.forward q.runs;
          prefixed = prefixed_served reverse_rolls total now can.forward q.prefixed;
          completed = subst (λ (n : ℕ). CompletedIs n (served reverse_rolls total now a).inbound.side) whole (serve_completed_is reverse_rolls total now a.forward a.inbound (subst (λ (n : ℕ). CompletedIs n a.inbound.side) (sym whole) q.completed));
        }

-- ---- the timers, and new chunks
module _ {t : Timing} {size : ℕ} {file : List ℕ} {total samples now : ℕ} {f : FireState} (rolls : List Float) (limit : ℕ) (can : CanSendDue t rolls size file total now f) (g : GoodFire t rolls samples now f) where
  abbrev Can : FireState → Type 0
  Can x = GoodFire timing.PerNumber rolls samples now x

  as_numbers : due t f.outgoing.clock now (has_outstanding f.sender.sender) ≡ ran.Numbers → Can f
  as_numbers e = subst (λ (u : Timing). GoodFire u rolls samples now f) (numbers_timing t f.outgoing.clock now (has_outstanding f.sender.sender) e) g

  sent_runs : (y : ProtocolType) (w tries : ℕ) (sending receiving output : List ℕ) (c : ChannelConfig) (a : ArrivalState) → let s = begins y w tries sending receiving output size file in RunsFire s c rolls (end_of a.inbound) a.inbound.output a.inbound.reverse f → PrefixedFire s (end_of a.inbound) a.inbound.output f
      → RunsFire s c rolls (end_of a.inbound) a.inbound.output a.inbound.reverse (send_due limit t rolls (chunks_in s) now f).state × PrefixedFire s (end_of a.inbound) a.inbound.output (send_due limit t rolls (chunks_in s) now f).state
  unfolding send_due
  sent_runs y w tries sending receiving output c a q p = by_test_lem (is_going_on (fired limit can)) refl
    where
      s : Start
      s = begins y w tries sending receiving output size file

      fires : RunsFire s c rolls (end_of a.inbound) a.inbound.output a.inbound.reverse (fired limit can).state
      fires =
          runs_fired s c rolls (end_of a.inbound) a.inbound.output a.inbound.reverse limit now Can (λ n x h e. good_can_time_out (cancelled_good h n) (timeout.Number n)) (λ n x h e on. fire_number_good h limit n e on) t f (λ e h. as_numbers h)
          (λ e h. good_can_time_out (stopped_good g) (timeout_of t)) q

      parts : PrefixedFire s (end_of a.inbound) a.inbound.output (fired limit can).state
      parts =
          prefixed_fired s (end_of a.inbound) a.inbound.output limit rolls now Can (λ n x h e. good_can_time_out (cancelled_good h n) (timeout.Number n)) (λ n x h e on. fire_number_good h limit n e on) t f (λ e h. as_numbers h)
          (λ e h. good_can_time_out (stopped_good g) (timeout_of t)) p

      by_test_lem : (b : Bool) → is_going_on (fired limit can) ≡ b
          → RunsFire s c rolls (end_of a.inbound) a.inbound.output a.inbound.reverse (cond b (pumped (fired limit can) (pump_sends t rolls (chunks_in s) (fired limit can).state.estimator.current_rto now (pump_of (fired limit can).state))) (fired limit can)).state
          × PrefixedFire s (end_of a.inbound) a.inbound.output (cond b (pumped (fired limit can) (pump_sends t rolls (chunks_in s) (fired limit can).state.estimator.current_rto now (pump_of (fired limit can).state))) (fired limit can)).state
      by_test_lem true e =
          let k = can_pump_lem limit can e in
          (runs_pumped s c rolls (end_of a.inbound) a.inbound.output a.inbound.reverse k fires, prefixed_pumped s (end_of a.inbound) a.inbound.output k parts)
      by_test_lem false e = (fires, parts)

-- ---- a step
pub step_holds : (y : ProtocolType) (w tries : ℕ) (sending receiving output : List ℕ) (c : ChannelConfig) (p : Plan) (g : Given) → GoodPlan p g → (u : RunState) → GoodRun p g u
    → At (Holds (begins y w tries sending receiving output p.chunk_size g.file) c g.forward_rolls) u → At (Holds (begins y w tries sending receiving output p.chunk_size g.file) c g.forward_rolls) (step p g u).state
step_holds y w tries sending receiving output c p g plan u good q = step_keeps (Holds (begins y w tries sending receiving output p.chunk_size g.file) c g.forward_rolls) p g u q after (λ on. both)
  where
    after : Holds (begins y w tries sending receiving output p.chunk_size g.file) c g.forward_rolls (arrives p g u).state u.written u.events
    after = arrivals_hold p.timing g.reverse_rolls p.total_chunks u.time u.arrivals plan.whole (can_arrive good) q

    both : At (Holds (begins y w tries sending receiving output p.chunk_size g.file) c g.forward_rolls) (after_both p g u)
    both =
        let h = sent_runs g.forward_rolls p.max_retransmissions (can_send_due (arrived_good good) plan) (good_fire (arrived_good good)) y w tries sending receiving output c (arrives p g u).state after.runs after.prefixed in
        record { runs = h.0; prefixed = h.1; completed = after.completed }
