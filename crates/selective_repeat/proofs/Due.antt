-- Numbers of the window that aren't acknowledged: one that is due, and how many there are.
use Rattle.std.specs.Prelude.{Err, Ok}
use Prim.Native.Nat.{ℕ, ◌+◌, ◌≤◌, ◌<◌}
use mathlib.Core.Path.{◌≡◌, refl}
use mathlib.Core.Bool.{Bool, true, false, cond, and-eq-true_iff}
use native.Mathlib.Omega.{arith}
use borrow.Author.Tests.{ltb-true, leb-true}
use lib.Dec.{ltb, leb}
use Rattle.refusal.specs.Order.{held_checks}
use Rattle.refusal.proofs.Laws.{none_true_accepted, on_accepted}
use Rattle.window.specs.State.{state_broken, counts_broken}
use Rattle.window.specs.Slots.{Sender}
use Rattle.window.specs.Acknowledgement.{is_in_window}
use Rattle.window.specs.declared.SendWindow.{SendWindow}
use Rattle.selective_repeat.specs.Sender.{due, in_flight_count, in_flight_count_unchecked}

pub in_window : (w : SendWindow) (n : ℕ) → is_in_window w n ≡ true → (w.send_base ≤ n) × (n < w.next_seq_num)
in_window w n e =
    let both = (and-eq-true_iff (leb w.send_base n) (ltb n w.next_seq_num)).0 e in
    (leb-true _ _ both.0, ltb-true _ _ both.1)

pub due_within : (v : Sender) (n : ℕ) → due v n ≡ true → (v.window.send_base ≤ n) × (n < v.window.next_seq_num)
due_within v n e = in_window v.window n ((and-eq-true_iff (is_in_window v.window n) _).0 e).0

-- so does one that is sent again
pub due_range : (v : Sender) (n : ℕ) → 0 < cond (due v n) 1 0 → (v.window.send_base ≤ n) × (n + cond (due v n) 1 0 ≤ v.window.next_seq_num)
due_range v n some = by_due_lem (due v n) refl some where
  by_due_lem : (b : Bool) → due v n ≡ b → 0 < cond b 1 0 → (v.window.send_base ≤ n) × (n + cond b 1 0 ≤ v.window.next_seq_num)
  by_due_lem true e h = let within = due_within v n e in let below = within.1 in (within.0, omega arith)
  by_due_lem false e h = absurd (omega arith)

-- their count, on a state that isn't refused
pub in_flight_count_unchecked_lem : (v : Sender) → state_broken true v.window v.store ≡ false → counts_broken v.window ≡ false
    → in_flight_count v ≡ Ok (in_flight_count_unchecked v)
unfolding in_flight_count
in_flight_count_unchecked_lem v e f =
    on_accepted Err _ (none_true_accepted (held_checks (state_broken true v.window v.store) (counts_broken v.window)) (e, (f, tt)))
