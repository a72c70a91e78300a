-- The timers, and then the chunks: what the second asks, and each end.
use Prim.Native.Nat.{ℕ, ◌+◌, ◌-◌, ◌*◌, ◌^◌, ◌≤◌, ◌<◌}
use native.Mathlib.Omega.{arith}
use mathlib.Core.Path.{◌≡◌, refl, sym, ap}
use mathlib.Core.Bool.{Bool, true, false, cond, not, and-eq-true_iff, true≢false}
use mathlib.Core.List.{List}
use lib.Ieee.{Float}
use Rattle.bounds.specs.Bounds.{count_limit, max_chunks}
use Rattle.path.specs.Rolls.{packet_rolls}
use Rattle.path.specs.Path.{is_going}
use Rattle.clock.specs.declared.Timing.{Timing}
use Rattle.clock.proofs.Laws.{estimator_rto}
use Rattle.sending.specs.Sending.{pump_sends}
use Rattle.sending.specs.Good.{CanPump}
use Rattle.sending.proofs.Laws.{counted_below}
use Rattle.timeouts.specs.Timeouts.{FireState, FireExit, fire_timers}
use Rattle.timeouts.specs.Good.{GoodFire}
use Rattle.timeouts.proofs.Laws.{fire_timers_keeps, fire_timers_good}
use Rattle.departures.specs.Departures.{pump_of, pumped, is_going_on, send_due, CanSendDue}

not_true : (b : Bool) → not b ≡ true → b ≡ false
not_true true e = absurd (true≢false (sym e))
not_true false e = refl

few_left : (n used size total next : ℕ) → n * packet_rolls ≤ used → used ≤ size → size * 8 < 2 ^ 63 → total ≤ max_chunks → n + (total - next) < count_limit
few_left n used size total next h k l m = omega arith

module _ {t : Timing} {rolls : List Float} {size : ℕ} {file : List ℕ} {total now : ℕ} {s : FireState} (limit : ℕ) (can : CanSendDue t rolls size file total now s) where
  abbrev pub fired : FireExit
  fired = fire_timers limit t rolls now s

  on_going : is_going_on fired ≡ true → is_going fired.stop ≡ true
  on_going h = ((and-eq-true_iff (is_going fired.stop) (not fired.state.resends.exhausted)).0 h).0

  on_left : is_going_on fired ≡ true → fired.state.resends.exhausted ≡ false
  on_left h = not_true _ ((and-eq-true_iff (is_going fired.stop) (not fired.state.resends.exhausted)).0 h).1

  -- ---- what the chunks ask
  pub fired_good : {samples : ℕ} → GoodFire t rolls samples now s → is_going_on fired ≡ true → GoodFire t rolls samples now fired.state
  fired_good g h = fire_timers_good g limit (on_going h) (on_left h)

  pub can_pump_lem : is_going_on fired ≡ true → CanPump t rolls size file total fired.state.estimator.current_rto now (pump_of fired.state)
  can_pump_lem h =
      let k = fire_timers_keeps can.fire.good limit in
      let g = fired_good can.fire.good h in
      let o = g.outgoing in
      record {
        good = record {
          outgoing = o;
          sender = g.sender;
          sent = few_left _ _ _ total _ g.counted.sent o.forward.used o.forward.doubles.size can.few;
          again = counted_below o _ g.counted.again;
          few = can.few;
          rows = rw k.keeps.rows can.rows;
          timeout = estimator_rto _ _ g.estimator;
          timers = g.timers;
          entries = g.entries;
        };
        some = can.some;
        short = can.short;
        whole = can.whole;
      }

-- ---- the two ends
module _ (limit : ℕ) (t : Timing) (rolls : List Float) (chunks : List (List ℕ)) (now : ℕ) (s : FireState) where
  abbrev by_test : Bool → FireExit
  by_test b =
      let x = fire_timers limit t rolls now s in
      cond b (pumped x (pump_sends t rolls chunks x.state.estimator.current_rto now (pump_of x.state))) x

  by_test_lem : {b : Bool} → is_going_on (fire_timers limit t rolls now s) ≡ b → send_due limit t rolls chunks now s ≡ by_test b
  unfolding send_due
  by_test_lem e = ap by_test e

  pub timers_alone : is_going_on (fire_timers limit t rolls now s) ≡ false → send_due limit t rolls chunks now s ≡ fire_timers limit t rolls now s
  timers_alone e = by_test_lem e

  pub timers_and_chunks : is_going_on (fire_timers limit t rolls now s) ≡ true
      → send_due limit t rolls chunks now s ≡ pumped (fire_timers limit t rolls now s) (pump_sends t rolls chunks (fire_timers limit t rolls now s).state.estimator.current_rto now (pump_of (fire_timers limit t rolls now s).state))
  timers_and_chunks e = by_test_lem e
