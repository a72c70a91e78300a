-- Document 01, "Invented tallies: .. from the history of calls": what a list of calls with any bytes says of a sender's
-- counters.
use Rattle.std.specs.Prelude.{ℕ, ◌+◌, ◌≡◌, List, [], ◌∷◌, Bool, true, false, cond, length, Err, Ok, Option, Result}
use Rattle.window.specs.Slots as slots
use Rattle.window.specs.Sending.{SendExit, send_chunk}
use Rattle.window.specs.Acknowledgement.{AckExit}
use Rattle.window.specs.Resending.{TimeoutExit}
use Rattle.stop_and_wait.specs.Sender as stop_and_wait
use Rattle.go_back_n.specs.Sender as go_back_n
use Rattle.selective_repeat.specs.Sender as selective_repeat
use Rattle.delivery.specs.Calls.{datagrams}
use Rattle.delivery.specs.Ends.{bytes_sent, is_sent, bytes_resent, SingleTimeout, GoBackNTimeout, go_back_nTimeout}
use Rattle.delivery.specs.AnyBytes.{SenderCall, send, timeout, ack}
use Rattle.refusal.specs.declared.Refusal.{Refusal}

-- what a call answered, and the buffer lent to it when it returned
pub data Answered : Type 0 where
  sent : Result (Option ℕ) Refusal → List ℕ → Answered
  resent : Result (Option ℕ) Refusal → List ℕ → Answered
  acknowledged : Result Bool Refusal → Answered

-- the calls of a protocol's sender, and its two counters
pub record SenderCalls : Type 1 where
  pub Sender : Type 0
  pub Timeout : Type 0
  pub send_chunk : Sender → List ℕ → List ℕ → SendExit Sender
  pub handle_timeout : Sender → Timeout → List ℕ → TimeoutExit Sender
  pub handle_ack : Sender → List ℕ → AckExit Sender
  pub total_sent : Sender → ℕ
  pub retransmissions : Sender → ℕ

abbrev pub after_call : (P : SenderCalls) → P.Sender → SenderCall P.Timeout → P.Sender
after_call P s (send payload out) = (P.send_chunk s payload out).after
after_call P s (timeout t out) = (P.handle_timeout s t out).after
after_call P s (ack raw) = (P.handle_ack s raw).after

abbrev pub answer_to : (P : SenderCalls) → P.Sender → SenderCall P.Timeout → Answered
answer_to P s (send payload out) = sent (P.send_chunk s payload out).answer (P.send_chunk s payload out).out
answer_to P s (timeout t out) = resent (P.handle_timeout s t out).answer (P.handle_timeout s t out).out
answer_to P s (ack raw) = acknowledged (P.handle_ack s raw).answer

-- the sender after a list of calls, and what they answered
unfoldable pub after_calls : (P : SenderCalls) → P.Sender → List (SenderCall P.Timeout) → P.Sender
after_calls P s [] = s
after_calls P s (c ∷ cs) = after_calls P (after_call P s c) cs

unfoldable pub answers : (P : SenderCalls) → P.Sender → List (SenderCall P.Timeout) → List Answered
answers P s [] = []
answers P s (c ∷ cs) = answer_to P s c ∷ answers P (after_call P s c) cs

-- how many datagrams a call wrote; how many of them a timeout
abbrev pub sent_by : Answered → ℕ
sent_by (sent a out) = length (datagrams (bytes_sent a out))
sent_by (resent a out) = length (datagrams (bytes_resent a out))
sent_by (acknowledged a) = 0

abbrev pub resent_by : Answered → ℕ
resent_by (sent a out) = 0
resent_by (resent a out) = length (datagrams (bytes_resent a out))
resent_by (acknowledged a) = 0

unfoldable pub total : (Answered → ℕ) → List Answered → ℕ
total f [] = 0
total f (x ∷ xs) = f x + total f xs

-- each counter is what the answers say
pub record SenderCounted (P : SenderCalls) (xs : List Answered) (s : P.Sender) : Type 0 where
  pub sent_is : P.total_sent s ≡ total sent_by xs
  pub resent_is : P.retransmissions s ≡ total resent_by xs

-- Stop-and-Wait's retries: the datagrams sent again since the last chunk that was sent and the last ACK that was
-- accepted
abbrev pub is_accepted : Result Bool Refusal → Bool
is_accepted (Ok true) = true
is_accepted (Ok false) = false
is_accepted (Err r) = false

abbrev pub starts_anew : Answered → Bool
starts_anew (sent a out) = is_sent a
starts_anew (resent a out) = false
starts_anew (acknowledged a) = is_accepted a

-- k of them before the list
unfoldable pub retries_from : ℕ → List Answered → ℕ
retries_from k [] = k
retries_from k (x ∷ xs) = retries_from (cond (starts_anew x) 0 (resent_by x + k)) xs

abbrev pub retries : List Answered → ℕ
retries xs = retries_from 0 xs

-- the senders
abbrev pub stop_and_wait_sender : SenderCalls
stop_and_wait_sender = record {
  Sender = stop_and_wait.End;
  Timeout = SingleTimeout;
  send_chunk = stop_and_wait.send_chunk;
  handle_timeout = λ v t out. stop_and_wait.handle_timeout v out;
  handle_ack = stop_and_wait.handle_ack;
  total_sent = λ v. v.sender.total_sent;
  retransmissions = λ v. v.sender.retransmissions;
}

abbrev pub go_back_nSender : SenderCalls
go_back_nSender = record {
  Sender = slots.Sender;
  Timeout = GoBackNTimeout;
  send_chunk = send_chunk false;
  handle_timeout = go_back_nTimeout;
  handle_ack = go_back_n.handle_ack;
  total_sent = λ v. v.window.total_sent;
  retransmissions = λ v. v.window.retransmissions;
}

-- a timeout is of a number
abbrev pub selective_repeat_sender : SenderCalls
selective_repeat_sender = record {
  Sender = slots.Sender;
  Timeout = ℕ;
  send_chunk = send_chunk true;
  handle_timeout = selective_repeat.handle_timeout;
  handle_ack = selective_repeat.handle_ack;
  total_sent = λ v. v.window.total_sent;
  retransmissions = λ v. v.window.retransmissions;
}

-- a Stop-and-Wait sender just made, with its retry limit; the other senders start as `fresh`
abbrev pub new_stop_and_wait : ℕ → List ℕ → stop_and_wait.End
new_stop_and_wait limit store = stop_and_wait.end_of (stop_and_wait.state 0 false limit 0 0 0)
    (slots.fresh 1 store).store
