-- Document 01, "Turned away" 9, 8, 5, and arq/*.rs, `handle_timeout`: numbers sent again.
use Rattle.std.specs.Prelude.{ℕ, zero, suc, ◌+◌, ◌*◌, ◌≤◌, ◌<◌, min, List, [], ◌∷◌, ◌++◌, Bool, false, cond}
use Rattle.std.specs.Prelude.{length, drop, ltb, eqb, Err, None, Ok, Option, Result, Some}
use Rattle.bounds.specs.Bounds.{max_payload, max_window, seq_num_limit, slot_size}
use Rattle.refusal.specs.declared.Refusal.TheVariants.{State, Counts, Full}
use Rattle.refusal.specs.Order.{check, verdict, decide}
use Rattle.store.specs.Slot.{slot_at, slot_length}
use Rattle.window.specs.State.{outstanding, state_broken, counts_broken}
use Rattle.window.specs.Slots.{Sender, slot_for, mark_retransmitted, datagram_for}
use Rattle.window.specs.declared.SendWindow.{SendWindow}
use Rattle.window.specs.declared.TimeoutDecision.{TimeoutDecision}
use Rattle.window.specs.declared.TimeoutDecision.TheVariants as decision
use Rattle.refusal.specs.declared.Refusal.{Refusal}

-- the datagrams of k numbers from n on, one after another
unfoldable pub datagrams_from : Sender → ℕ → ℕ → List ℕ
datagrams_from v n zero = []
datagrams_from v n (suc k) = datagram_for v n ++ datagrams_from v (n + 1) k

-- these numbers marked as sent again, and counted
unfoldable pub mark_from : Sender → ℕ → ℕ → Sender
mark_from v n zero = v
mark_from v n (suc k) = mark_from (mark_retransmitted v n) (n + 1) k

-- what is written of them: each with the retransmitted flag
abbrev pub sent_again : Sender → ℕ → ℕ → List ℕ
sent_again v n k = datagrams_from (mark_from v n k) n k

-- the answer, and the state and the buffer when the call returns
pub record TimeoutExit (S : Type 0) : Type 0 where
  pub answer : Result (Option ℕ) Refusal
  pub after : S
  pub out : List ℕ

abbrev pub timeout_exit : {S : Type 0} → Result (Option ℕ) Refusal → S → List ℕ → TimeoutExit S
timeout_exit a s out = record { answer = a; after = s; out = out }

-- k numbers from n on; 5 speaks of the very bytes that are written
unfoldable pub resend : Bool → Bool → Sender → ℕ → ℕ → List ℕ → TimeoutExit Sender
resend state_broken counts_broken v n k out =
    decide (verdict (check state_broken State ∷ check counts_broken Counts
    ∷ check (ltb (length out) (length (sent_again v n k))) Full ∷ []))
    (λ r. timeout_exit (Err r) v out)
    (cond (eqb k 0) (timeout_exit (Ok None) v out)
    (timeout_exit (Ok (Some (length (sent_again v n k)))) (mark_from v n k)
    (sent_again v n k ++ drop (length (sent_again v n k)) out)))

-- the lowest outstanding numbers of a Stop-and-Wait or Go-Back-N sender, at most so many
abbrev pub resend_outstanding : Sender → ℕ → List ℕ → TimeoutExit Sender
resend_outstanding v most out =
    resend (state_broken false v.window v.store) (counts_broken v.window) v v.window.send_base
    (min most (outstanding v.window)) out

-- which numbers that is, decided before anything is written and whatever the room
unfoldable pub timeout_decision : Bool → Bool → ℕ → ℕ → Result TimeoutDecision Refusal
timeout_decision state_broken counts_broken n k =
    decide (verdict (check state_broken State ∷ check counts_broken Counts ∷ [])) Err
    (cond (eqb k 0) (Ok decision.Nothing) (Ok (decision.Resend n k)))

abbrev pub outstanding_decision : SendWindow → List ℕ → ℕ → Result TimeoutDecision Refusal
outstanding_decision s store most =
    timeout_decision (state_broken false s store) (counts_broken s) s.send_base (min most (outstanding s))

-- such a decision carried out
unfoldable pub by_timeout_decision : Result TimeoutDecision Refusal → Sender → List ℕ → TimeoutExit Sender
by_timeout_decision (Ok (decision.Resend n k)) v out = resend false false v n k out
by_timeout_decision (Ok decision.Nothing) v out = timeout_exit (Ok None) v out
by_timeout_decision (Err r) v out = timeout_exit (Err r) v out

-- what the functions below the entry points ask: k numbers from n on have slots with lengths in bounds
pub record Resendable (s : SendWindow) (store : List ℕ) (n k : ℕ) : Type 0 where
  pub positive : 0 < s.window_size
  pub room : s.window_size * slot_size ≤ length store
  pub few : k ≤ max_window
  pub low : n + k ≤ seq_num_limit
  pub lengths : (i : ℕ) → i < k → slot_length (slot_at store (slot_for s (n + i))) ≤ max_payload
