-- arq/sr.rs, `SelectiveRepeatSender`, and document 01, "Turned away". An ACK of a number above `send_base` that is
-- marked already is accepted again.
use Rattle.std.specs.Prelude.{ℕ, ◌+◌, ◌-◌, List, Bool, true, cond, not, ◌&&◌, eqb, Err, Ok, Result}
use Rattle.refusal.specs.Order.{verdict, decide, held_checks}
use Rattle.store.specs.Slot.{set_mark}
use Rattle.store.specs.Numbers.{marked, marked_run, marked_count}
use Rattle.window.specs.State.{outstanding, state_broken, counts_broken}
use Rattle.window.specs.Slots.{Sender, sender, slot_for, release}
use Rattle.window.specs.Acknowledgement.{is_in_window, ack_decision, AckExit, by_decision}
use Rattle.window.specs.Resending.{TimeoutExit, resend, timeout_decision}
use Rattle.window.specs.declared.AckDecision.{AckDecision}
use Rattle.window.specs.declared.AckDecision.TheVariants as ackDecisions
use Rattle.window.specs.declared.TimeoutDecision.{TimeoutDecision}
use Rattle.refusal.specs.declared.Refusal.{Refusal}
use Rattle.selective_repeat.specs.declared.SelectiveRepeatSender.{SelectiveRepeatSender}
use Rattle.window.specs.declared.SendWindow.{SendWindow}

abbrev pub made_window : Result SelectiveRepeatSender Refusal → Result SendWindow Refusal
made_window (Ok s) = Ok s.window
made_window (Err r) = Err r

-- number n marked as acknowledged
abbrev pub mark_acknowledged : Sender → ℕ → Sender
mark_acknowledged v n = sender v.window (set_mark v.store (slot_for v.window n) 2)

-- how many of the outstanding numbers are acknowledged without a gap
abbrev pub acknowledged_run : Sender → ℕ
acknowledged_run v = marked_run 2 v.store v.window.window_size v.window.send_base (outstanding v.window)

-- these released
abbrev pub release_run : Sender → Sender
release_run v = release v (v.window.send_base + acknowledged_run v)

unfoldable pub acknowledge_one : Sender → ℕ → Sender
acknowledge_one v n = release_run (mark_acknowledged v n)

-- how far base moves when number n is acknowledged: past n and those acknowledged after it if n is at base
abbrev pub advance : Sender → ℕ → ℕ
advance v n =
    let base = v.window.send_base in
    cond (eqb n base)
    (1 + marked_run 2 v.store v.window.window_size (base + 1) (outstanding v.window - 1))
    0

abbrev pub base_after : Sender → ℕ → ℕ
base_after v n = v.window.send_base + advance v n

-- decided before anything is written, with the base after it
abbrev pub with_base_after : Sender → Result AckDecision Refusal → Result AckDecision Refusal
with_base_after v (Ok (ackDecisions.Accept n base)) = Ok (ackDecisions.Accept n (base_after v n))
with_base_after v (Ok ackDecisions.NotAccepted) = Ok ackDecisions.NotAccepted
with_base_after v (Err r) = Err r

unfoldable pub decide_ack : Sender → List ℕ → Result AckDecision Refusal
decide_ack v raw = with_base_after v (ack_decision true v.window v.store raw)

-- an accepted ACK acknowledges its number alone
abbrev pub handle_ack : Sender → List ℕ → AckExit Sender
handle_ack v raw = by_decision (ack_decision true v.window v.store raw) v (acknowledge_one v)

-- a number is outstanding and not acknowledged
abbrev pub due : Sender → ℕ → Bool
due v n = is_in_window v.window n && not (marked 2 v.store v.window.window_size n)

-- a timeout sends such a number again
abbrev pub handle_timeout : Sender → ℕ → List ℕ → TimeoutExit Sender
handle_timeout v n out =
    resend (state_broken true v.window v.store) (counts_broken v.window) v n (cond (due v n) 1 0) out

-- decided before anything is written
abbrev pub decide_timeout : Sender → ℕ → Result TimeoutDecision Refusal
decide_timeout v n =
    timeout_decision (state_broken true v.window v.store) (counts_broken v.window) n (cond (due v n) 1 0)

-- how many numbers are outstanding and not acknowledged
abbrev pub in_flight_count_unchecked : Sender → ℕ
in_flight_count_unchecked v =
    marked_count 1 v.store v.window.window_size v.window.send_base (outstanding v.window)

unfoldable pub in_flight_count : Sender → Result ℕ Refusal
in_flight_count v =
    decide (verdict (held_checks (state_broken true v.window v.store) (counts_broken v.window)))
    Err
    (Ok (in_flight_count_unchecked v))
