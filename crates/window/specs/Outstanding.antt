-- arq/gbn.rs and arq/sr.rs, the calls that only read: `in_flight_count`, `can_send`, `has_unacked_packets`; "Turned
-- away" 9 and 8.
use Rattle.std.specs.Prelude.{[], ◌∷◌, ltb, Bool, Err, Ok, Result, ℕ}
use Rattle.refusal.specs.declared.Refusal.{Refusal}
use Rattle.refusal.specs.declared.Refusal.TheVariants.{State, Counts}
use Rattle.refusal.specs.Order.{check, verdict, decide}
use Rattle.window.specs.State.{outstanding, numbers_broken, counts_broken}
use Rattle.window.specs.declared.SendWindow.{SendWindow}

-- a call that isn't lent the store checks what it has
unfoldable pub unless_broken : {A : Type 0} → SendWindow → (Refusal → A) → A → A
unless_broken s refused a =
    decide (verdict (check (numbers_broken s) State ∷ check (counts_broken s) Counts ∷ [])) refused a

abbrev pub in_flight_count : SendWindow → Result ℕ Refusal
in_flight_count s = unless_broken s Err (Ok (outstanding s))

abbrev pub can_send : SendWindow → Result Bool Refusal
can_send s = unless_broken s Err (Ok (ltb (outstanding s) s.window_size))

abbrev pub has_unacked_packets : SendWindow → Result Bool Refusal
has_unacked_packets s = unless_broken s Err (Ok (ltb 0 (outstanding s)))
