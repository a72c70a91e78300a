-- What the calls of the ends answer: status and value.
use Rattle.std.specs.Prelude.{ℕ, List, Bool, Err, Ok, Option, Result, false, true}
use Rattle.refusal.specs.declared.Refusal.TheVariants.{State}
use Rattle.host_answer.specs.Answer.{packed, refusal_answer, done_status, window_full_status, not_accepted_status}
use Rattle.host_answer.specs.Answer.{nothing_status, silent_status, optional_answer}
use Rattle.refusal.specs.declared.Refusal.{Refusal}

-- the answer, and every list that was lent to be written when the call returns
pub record CallExit : Type 0 where
  pub answer : ℕ
  pub lent : List (List ℕ)

abbrev pub call_exit : ℕ → List (List ℕ) → CallExit
call_exit answer lent = record { answer = answer; lent = lent }

-- words that hold no such end: 9, and nothing is changed
abbrev pub broken : List (List ℕ) → CallExit
broken lent = call_exit (refusal_answer State) lent

-- the datagram's length
unfoldable pub send_code : Result (Option ℕ) Refusal → ℕ
send_code a = optional_answer a window_full_status

-- n the datagram's number
unfoldable pub ack_code : ℕ → Result Bool Refusal → ℕ
ack_code n (Ok true) = packed done_status n
ack_code n (Ok false) = packed not_accepted_status 0
ack_code n (Err r) = refusal_answer r

-- how many bytes were written
unfoldable pub timeout_code : Result (Option ℕ) Refusal → ℕ
timeout_code a = optional_answer a nothing_status

-- the number of the ACK that was written
unfoldable pub receive_code : Result (Option ℕ) Refusal → ℕ
receive_code a = optional_answer a silent_status
