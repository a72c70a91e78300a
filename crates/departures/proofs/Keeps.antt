-- What the departures of a moment keep while the run goes on.
use Rattle.std.specs.Prelude.{None, Option, Some}
use Prim.Native.Nat.{ℕ, ◌≤◌}
use native.Mathlib.Omega.{arith}
use mathlib.Core.Path.{◌≡◌, refl, sym, ◌∙◌}
use mathlib.Core.Bool.{Bool, true, false, cond, not, ◌&&◌, true≢false}
use mathlib.Core.List.{List}
use lib.Ieee.{Float}
use lib.ListN.{length}
use Rattle.chunks.specs.Chunks.{chunks_of}
use Rattle.path.specs.Path.{is_going}
use Rattle.path.specs.declared.Stop.{Stop}
use Rattle.path.proofs.Laws.{RiseAlike, rise_same, rise_then}
use Rattle.clock.specs.Timers.{GoodTimers}
use Rattle.clock.specs.declared.Timing.{Timing}
use Rattle.session.specs.Sending.{window_of}
use Rattle.submission.proofs.Laws.{submit_orders}
use Rattle.sending.specs.Sending.{PumpState, PumpExit, send_one, pump_sends}
use Rattle.sending.proofs.Laws.{pump_keeps, pump_can, pump_sender, pump_same, pump_next, pump_used, pump_counted, pump_timers}
use Rattle.timeouts.specs.Timeouts.{FireState}
use Rattle.timeouts.specs.Good.{GoodFire}
use Rattle.timeouts.proofs.Laws.{fire_timers_keeps, fire_timers_timers}
use Rattle.departures.specs.Departures.{pump_of, pumped, is_going_on, send_due, CanSendDue}
use Rattle.departures.proofs.Orders.{fire_timers_orders}
use Rattle.departures.proofs.Sending.{fired, fired_good, can_pump_lem}

pub record Departs (t : Timing) (rolls : List Float) (total samples now : ℕ) (s after : FireState) : Type 0 where
  pub good : GoodFire t rolls samples now after
  pub timers : GoodTimers t after.sender after.outgoing.clock
  pub orders : RiseAlike s.outgoing.forward after.outgoing.forward
  pub next : (window_of after.sender.sender).next_seq_num ≤ total
  pub rows : length after.outgoing.metas.rows ≡ length s.outgoing.metas.rows

going_is : (st : Option Stop) → is_going st ≡ true → st ≡ None
going_is (None) e = refl
going_is (Some why) e = absurd (true≢false (sym e))

send_orders : (t : Timing) (rolls : List Float) (chunks : List (List ℕ)) (rto now : ℕ) (s : PumpState) → RiseAlike s.outgoing.forward (send_one t rolls chunks rto now s).state.outgoing.forward
unfolding send_one
send_orders t rolls chunks rto now s = submit_orders t rolls _ _ s.outgoing

module _ {t : Timing} {rolls : List Float} {size : ℕ} {file : List ℕ} {total samples now : ℕ} {s : FireState} (limit : ℕ) (can : CanSendDue t rolls size file total now s) (g : GoodFire t rolls samples now s) (q : GoodTimers t s.sender s.outgoing.clock) where
  abbrev chunks_sent : PumpExit
  chunks_sent = pump_sends t rolls (chunks_of size file) (fired limit can).state.estimator.current_rto now (pump_of (fired limit can).state)

  pump_orders : is_going_on (fired limit can) ≡ true → RiseAlike (fired limit can).state.outgoing.forward chunks_sent.state.outgoing.forward
  pump_orders h =
      pump_keeps (λ (y : PumpState). RiseAlike (fired limit can).state.outgoing.forward y.outgoing.forward)
      (λ y c free p. rise_then p (send_orders t rolls (chunks_of size file) _ now y)) (pump_of (fired limit can).state) (can_pump_lem limit can h) (rise_same _)

  pumped_departs : is_going_on (fired limit can) ≡ true → chunks_sent.stop ≡ None → Departs t rolls total samples now s (pumped (fired limit can) chunks_sent).state
  pumped_departs h on =
      let f = fired_good limit can g h in
      let k = fire_timers_keeps g limit in
      let c = can_pump_lem limit can h in
      let after = pump_can c in
      let v = pump_sender c in
      let n = pump_next c (rw k.window.next can.next) in
      let same = pump_same c in
      let used = pump_used c in
      record {
        good = record {
          outgoing = after.good.outgoing;
          sender = after.good.sender;
          estimator = f.estimator;
          counted = record {
            sent = pump_counted c on f.counted.sent;
            again = up (rw v.again f.counted.again) used;
            submitted = up f.counted.submitted used;
            premature = f.counted.premature;
            timeouts = up f.counted.timeouts used;
            backoffs = up f.counted.backoffs used;
          };
          rows = let m = after.good.rows in omega (arith, n.1, m);
          timers = after.good.timers;
          entries = after.good.entries;
          selective = λ e. v.selective ∙ f.selective e;
        };
        timers = pump_timers c (fire_timers_timers g limit q);
        orders = rise_then (fire_timers_orders g limit) (pump_orders h);
        next = n.1;
        rows = same.rows ∙ k.keeps.rows;
      }
    where
      up : {a b c : ℕ} → a ≤ b → b ≤ c → a ≤ c
      up h k = omega arith

  by_test_lem : (b : Bool) → is_going_on (fired limit can) ≡ b → is_going (cond b (pumped (fired limit can) chunks_sent) (fired limit can)).stop ≡ true → (cond b (pumped (fired limit can) chunks_sent) (fired limit can)).state.resends.exhausted ≡ false
      → Departs t rolls total samples now s (cond b (pumped (fired limit can) chunks_sent) (fired limit can)).state
  by_test_lem true e on left = pumped_departs e (going_is _ on)
  by_test_lem false e on left = absurd (true≢false (sym (both (is_going (fired limit can).stop) (fired limit can).state.resends.exhausted on left) ∙ e))
    where
      both : (a b : Bool) → a ≡ true → b ≡ false → (a && not b) ≡ true
      both true false p q = refl
      both true true p q = absurd (true≢false q)
      both false b p q = absurd (true≢false (sym p))

  pub send_due_departs : is_going (send_due limit t rolls (chunks_of size file) now s).stop ≡ true → (send_due limit t rolls (chunks_of size file) now s).state.resends.exhausted ≡ false
      → Departs t rolls total samples now s (send_due limit t rolls (chunks_of size file) now s).state
  unfolding send_due
  send_due_departs on left = by_test_lem (is_going_on (fired limit can)) refl on left
