-- On the forward line the copies that wait and the orders given out rise together, over `fire_timers`.
use Rattle.std.specs.Prelude.{Option}
use Prim.Native.Nat.{ℕ}
use mathlib.Core.Path.{◌≡◌, subst}
use mathlib.Core.Bool.{true}
use mathlib.Core.List.{List}
use lib.Ieee.{Float}
use Rattle.path.proofs.Laws.{RiseAlike, rise_same, rise_then}
use Rattle.clock.specs.Clock.{cancel_number}
use Rattle.clock.specs.declared.Timing.{Timing}
use Rattle.clock.specs.declared.Timing.TheVariants as timing
use Rattle.session.specs.declared.Timeout.{Timeout}
use Rattle.session.specs.declared.Timeout.TheVariants as timeout
use Rattle.submission.specs.Submission.{Outgoing}
use Rattle.submission.proofs.Laws.{submit_orders}
use Rattle.sending.specs.Retransmit.{retransmit}
use Rattle.sending.specs.declared.Resends.{Resends}
use Rattle.timeouts.specs.Timeouts.{FireState, FireExit, with_clock, stopped, timed_out, timeout_of, expired, fire_number, fire_timers}
use Rattle.timeouts.specs.Good.{GoodFire}
use Rattle.timeouts.proofs.Laws.{timed_out_turns, numbers_keep, timers_by}

retransmit_orders : (t : Timing) (rolls : List Float) (rto now : ℕ) (oldest : Option ℕ) (seq : ℕ) (packet : List ℕ) (r : Resends) (o : Outgoing) → RiseAlike o.forward (retransmit t rolls rto now oldest seq packet r o).outgoing.forward
unfolding retransmit
retransmit_orders t rolls rto now oldest seq packet r o = submit_orders t rolls (record { time = now; seq = seq; rto = rto; retransmission = true; oldest = oldest }) packet o

module _ {t : Timing} {rolls : List Float} {samples now : ℕ} {s : FireState} (g : GoodFire t rolls samples now s) (limit : ℕ) where
  as_numbers : t ≡ timing.PerNumber → GoodFire timing.PerNumber rolls samples now s
  as_numbers e = subst (λ (u : Timing). GoodFire u rolls samples now s) e g

  timed_out_orders : (u : Timing) (of : Timeout) (x : FireState) → RiseAlike s.outgoing.forward x.outgoing.forward → RiseAlike s.outgoing.forward (timed_out limit u rolls now of x).state.outgoing.forward
  timed_out_orders u of x h =
      timed_out_turns limit u rolls now of x (λ (y : FireState). RiseAlike s.outgoing.forward y.outgoing.forward) h h (λ r o n. n)
      (λ packet m r o n. rise_then n (retransmit_orders u rolls _ now _ _ packet r o))

  pub fire_timers_orders : RiseAlike s.outgoing.forward (fire_timers limit t rolls now s).state.outgoing.forward
  unfolding fire_number
  fire_timers_orders =
      timers_by limit t rolls now s (λ (x : FireExit). RiseAlike s.outgoing.forward x.state.outgoing.forward) (λ c. rise_same _) (λ c. rise_same _) (rise_same _)
      (λ other. timed_out_orders t (timeout_of t) (with_clock s (stopped s.outgoing.clock)) (rise_same _))
      (λ e. numbers_keep limit rolls samples now (λ (x : FireState). RiseAlike s.outgoing.forward x.outgoing.forward)
      (λ n x h c q. timed_out_orders timing.PerNumber (timeout.Number n) (with_clock x (cancel_number x.outgoing.clock n)) q) (λ x q. q) (expired s.outgoing.clock now) s (as_numbers e) (rise_same _))
