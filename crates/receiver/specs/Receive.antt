-- Document 01, "Turned away" 9, 8, 1, 2, 3, 6, 7, 5: a datagram given to a receiver with a state R.
use Rattle.std.specs.Prelude.{ℕ, List, ◌∷◌, ◌++◌, Bool, cond, length, Err, Option, Result}
use Rattle.refusal.specs.declared.Refusal.TheVariants.{Numbers, Full}
use Rattle.refusal.specs.Order.{Check, check, verdict, decide, held_checks}
use Rattle.packet.specs.Reading.{read_datagram, reading_checks}
use Rattle.receiver.specs.Reading.{number_high}
use Rattle.receiver.specs.Reply.{room_missing, answer_of, applied, ApplyExit}
use Rattle.receiver.specs.declared.Decision.{Decision}
use Rattle.refusal.specs.declared.Refusal.{Refusal}

-- the answer, and the state, the output and the buffer for the ACK when the call returns
pub record ReceiveExit (R : Type 0) : Type 0 where
  pub answer : Result (Option ℕ) Refusal
  pub receiver : R
  pub output : List ℕ
  pub ack : List ℕ

abbrev pub receive_exit : {R : Type 0} → Result (Option ℕ) Refusal → R → List ℕ → List ℕ → ReceiveExit R
receive_exit a r output ack = record { answer = a; receiver = r; output = output; ack = ack }

-- a decision carried out, with the fill mark put into the state after it
abbrev pub apply_result : {R : Type 0} → (ℕ → R) → Decision → ApplyExit → ReceiveExit R
apply_result after d v = receive_exit (answer_of d.reply) (after v.filled) v.output v.ack

-- 5, or a decision carried out; the fill mark stands for the state
unfoldable pub apply : Decision → List ℕ → ℕ → List ℕ → List ℕ → ReceiveExit ℕ
apply d payload filled output ack =
    cond (room_missing d (length payload) filled output ack)
    (receive_exit (Err Full) filled output ack)
    (apply_result (λ n. n) d (applied d payload filled output ack))

-- a state, whether 9 and 8 are true of it, and its fill mark; and what a packet that isn't refused does: the decision
-- on it, the bytes that are delivered if the decision says so, and the state after it, by its fill mark
pub record Reception (R : Type 0) : Type 0 where
  pub state : R
  pub state_broken : Bool
  pub counts_broken : Bool
  pub filled : ℕ
  pub decision : Decision
  pub delivered : List ℕ
  pub after : ℕ → R

abbrev pub no_room : {R : Type 0} → Reception R → List ℕ → List ℕ → Bool
no_room x output ack = room_missing x.decision (length x.delivered) x.filled output ack

abbrev pub refused_exit : {R : Type 0} → Reception R → List ℕ → List ℕ → Result (Option ℕ) Refusal → ReceiveExit R
refused_exit x output ack a = receive_exit a x.state output ack

abbrev pub received_exit : {R : Type 0} → Reception R → List ℕ → List ℕ → ReceiveExit R
received_exit x output ack =
    apply_result x.after x.decision (applied x.decision x.delivered x.filled output ack)

abbrev pub receive_checks : {R : Type 0} → Reception R → List ℕ → List ℕ → List ℕ → List Check
receive_checks x raw output ack =
    check (no_room x output ack) Full
    ∷ check (number_high (read_datagram raw)) Numbers
    ∷ (reading_checks (read_datagram raw) ++ held_checks x.state_broken x.counts_broken)

unfoldable pub receive : {R : Type 0} → Reception R → List ℕ → List ℕ → List ℕ → ReceiveExit R
receive x raw output ack =
    decide (verdict (receive_checks x raw output ack)) (λ s. refused_exit x output ack (Err s))
    (received_exit x output ack)

-- below the entry points: only 5 is left
unfoldable pub receive_unchecked : {R : Type 0} → Reception R → List ℕ → List ℕ → ReceiveExit R
receive_unchecked x output ack =
    cond (no_room x output ack) (refused_exit x output ack (Err Full)) (received_exit x output ack)
