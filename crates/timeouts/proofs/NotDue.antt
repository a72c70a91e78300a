-- Whether `fire_timers` has something to do; where it has nothing, all stays as it is.
use Rattle.std.specs.Prelude.{None}
use Prim.Native.Nat.{ℕ}
use mathlib.Core.Path.{◌≡◌, refl, sym, ap, ◌∙◌}
use mathlib.Core.Bool.{Bool, true, false, ◌||◌, true≢false}
use mathlib.Core.List.{List}
use lib.Ieee.{Float}
use Rattle.clock.specs.Clock.{ClockState, due}
use Rattle.clock.specs.declared.Timing.{Timing}
use Rattle.clock.specs.declared.Due.{Due}
use Rattle.clock.specs.declared.Due.TheVariants as ran
use Rattle.session.specs.Sending.{has_outstanding}
use Rattle.session.specs.declared.Sender.{Sender}
use Rattle.sending.specs.Retransmit.{ceiling_met}
use Rattle.sending.specs.declared.Resends.{Resends}
use Rattle.timeouts.specs.Timeouts.{FireState, fire_exit, fire_timers, has_run, timers_due}
use Rattle.timeouts.proofs.SingleTimers.{timers_due_lem}

-- ---- the test
module _ (limit : ℕ) (t : Timing) (now : ℕ) (v : Sender) (r : Resends) (c : ClockState) {b : Bool} (e : b ≡ ceiling_met limit r) where
  pub due_met : b ≡ true → true ≡ timers_due limit t now v r c
  due_met f = ap (λ (m : Bool). m || has_run (due t c now (has_outstanding v))) (sym f ∙ e)

  pub due_by_timers : b ≡ false → {o : Bool} {d k : Due} → o ≡ has_outstanding v → d ≡ due t c now o → d ≡ k → has_run k ≡ timers_due limit t now v r c
  due_by_timers f h i j =
      ap has_run (sym j ∙ i ∙ ap (due t c now) h) ∙ ap (λ (m : Bool). m || has_run (due t c now (has_outstanding v))) (sym f ∙ e)

-- ---- nothing to do
pub timers_not_due : (limit : ℕ) (t : Timing) (rolls : List Float) (now : ℕ) (s : FireState) → timers_due limit t now s.sender.sender s.resends s.outgoing.clock ≡ false → fire_timers limit t rolls now s ≡ fire_exit s false (None)
timers_not_due limit t rolls now s = by_tests (ceiling_met limit s.resends) refl (due t s.outgoing.clock now (has_outstanding s.sender.sender)) refl
  where
    by_tests : (m : Bool) → ceiling_met limit s.resends ≡ m → (d : Due) → d ≡ due t s.outgoing.clock now (has_outstanding s.sender.sender) → (m || has_run d) ≡ false → fire_timers limit t rolls now s ≡ fire_exit s false (None)
    by_tests true c d e h = absurd (true≢false h)
    by_tests false c ran.Nothing e h = timers_due_lem limit t rolls now s c e
    by_tests false c ran.Idle e h = absurd (true≢false h)
    by_tests false c ran.Single e h = absurd (true≢false h)
    by_tests false c ran.Numbers e h = absurd (true≢false h)
