-- Whether a copy is due, by the time of the first; where none is, nothing is taken.
use Rattle.std.specs.Prelude.{None, Ok, Option, Some}
use Prim.Native.Nat.{ℕ}
use mathlib.Core.Path.{◌≡◌, refl, ap, ◌∙◌}
use mathlib.Core.Bool.{Bool, true, false, cond, ◌&&◌}
use mathlib.Core.List.{List}
use lib.Dec.{ltb, leb}
use Rattle.schedule.specs.Record.{time_of}
use Rattle.schedule.specs.Schedule.{first_record, due, first_time, pop_unchecked}
use Rattle.path.specs.Direction.{Direction}
use Rattle.path.specs.Path.{take_ready, is_due, deadline_of}

abbrev reached : Option ℕ → ℕ → Bool
reached (Some t) now = leb t now
reached None now = false

pub due_reached : (count : ℕ) (rs : List (List ℕ)) (now : ℕ) {a : Option ℕ} → a ≡ deadline_of (first_time count rs) → reached a now ≡ due count rs now
unfolding deadline_of
due_reached count rs now e = ap (λ (a : Option ℕ). reached a now) e ∙ by_test_lem (ltb 0 count)
  where
    by_test_lem : (b : Bool) → reached (deadline_of (cond b (Ok (Some (time_of (first_record rs)))) (Ok None))) now ≡ (b && leb (time_of (first_record rs)) now)
    by_test_lem true = refl
    by_test_lem false = refl

pub not_due_idle : (d : Direction) (now : ℕ) (out : List ℕ) → is_due d.path d.records now ≡ false → (take_ready d now out).result.answer ≡ Ok None
unfolding take_ready pop_unchecked
not_due_idle d now out e = rw e
