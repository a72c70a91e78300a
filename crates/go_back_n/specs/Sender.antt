-- arq/gbn.rs, `GoBackNSender`; document 01, "Turned away".
use Rattle.std.specs.Prelude.{ℕ, ◌+◌, List, false, Err, Ok, Result}
use Rattle.window.specs.State.{outstanding, state_broken, counts_broken}
use Rattle.window.specs.Slots.{Sender, release}
use Rattle.window.specs.Acknowledgement.{ack_decision, AckExit, by_decision}
use Rattle.window.specs.Resending.{TimeoutExit, resend, resend_outstanding}
use Rattle.window.specs.declared.AckDecision.{AckDecision}
use Rattle.go_back_n.specs.declared.GoBackNSender.{GoBackNSender}
use Rattle.refusal.specs.declared.Refusal.{Refusal}
use Rattle.window.specs.declared.SendWindow.{SendWindow}

abbrev pub made_window : Result GoBackNSender Refusal → Result SendWindow Refusal
made_window (Ok s) = Ok s.window
made_window (Err r) = Err r

abbrev pub decide_ack : Sender → List ℕ → Result AckDecision Refusal
decide_ack v raw = ack_decision false v.window v.store raw

-- an accepted ACK acknowledges its number and all before it
abbrev pub acknowledged : Sender → ℕ → Sender
acknowledged v n = release v (n + 1)

abbrev pub handle_ack : Sender → List ℕ → AckExit Sender
handle_ack v raw = by_decision (decide_ack v raw) v (acknowledged v)

-- a timeout sends every outstanding number again, lowest first
abbrev pub handle_timeout : Sender → List ℕ → TimeoutExit Sender
handle_timeout v out =
    resend (state_broken false v.window v.store) (counts_broken v.window) v v.window.send_base
    (outstanding v.window) out

-- document 01, "The edition clock": only the earliest outstanding number, if there is one
abbrev pub handle_timeout_earliest : Sender → List ℕ → TimeoutExit Sender
handle_timeout_earliest v out = resend_outstanding v 1 out
