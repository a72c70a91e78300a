-- arq/sw.rs, `StopAndWaitSender`; document 01, "Turned away".
use Rattle.std.specs.Prelude.{ℕ, ◌+◌, List, [], ◌∷◌, Bool, true, false, cond, not, ltb}
use Rattle.std.specs.Prelude.{Err, None, Ok, Option, Result, Some}
use Rattle.refusal.specs.declared.Refusal.TheVariants.{State}
use Rattle.refusal.specs.Order.{check, verdict, decide}
use Rattle.window.specs.State.{store_short}
use Rattle.window.specs.Slots.{Sender, sender, fresh, mark_retransmitted, release}
use Rattle.window.specs.Outstanding.{unless_broken}
use Rattle.window.specs.Sending as window
use Rattle.window.specs.Acknowledgement.{ack_decision, AckExit, by_decision}
use Rattle.window.specs.Resending.{TimeoutExit, timeout_exit, resend_outstanding, outstanding_decision}
use Rattle.window.specs.declared.AckDecision.{AckDecision}
use Rattle.window.specs.declared.SendWindow.{SendWindow}
use Rattle.window.specs.declared.TimeoutDecision.{TimeoutDecision}
use Rattle.stop_and_wait.specs.declared.StopAndWaitSender.{StopAndWaitSender}
use Rattle.refusal.specs.declared.Refusal.{Refusal}

abbrev pub state : ℕ → Bool → ℕ → ℕ → ℕ → ℕ → StopAndWaitSender
state current in_flight limit retries sent again =
    record {
      current_seq = current;
      in_flight = in_flight;
      max_retries = limit;
      current_retries = retries;
      total_sent = sent;
      retransmissions = again;
    }

-- its window is 1: base is current_seq, next is one more while a packet is in flight
abbrev pub window_of : StopAndWaitSender → SendWindow
window_of s = record {
  window_size = 1;
  send_base = s.current_seq;
  next_seq_num = cond s.in_flight (s.current_seq + 1) s.current_seq;
  total_sent = s.total_sent;
  retransmissions = s.retransmissions;
}

-- a sender and its store of one slot
pub record End : Type 0 where
  pub sender : StopAndWaitSender
  pub store : List ℕ

abbrev pub end_of : StopAndWaitSender → List ℕ → End
end_of s store = record { sender = s; store = store }

abbrev pub window_end : End → Sender
window_end v = sender (window_of v.sender) v.store

unfoldable pub new_sender : ℕ → List ℕ → window.MakeExit (Result StopAndWaitSender Refusal)
new_sender limit store =
    decide (verdict (check (store_short store 1) State ∷ [])) (λ r. window.make_exit (Err r) store)
    (window.make_exit (Ok (state 0 false limit 0 0 0)) (fresh 1 store).store)

abbrev pub can_send : StopAndWaitSender → Result Bool Refusal
can_send s = unless_broken (window_of s) Err (Ok (not s.in_flight))

abbrev pub is_waiting_for_ack : StopAndWaitSender → Result Bool Refusal
is_waiting_for_ack s = unless_broken (window_of s) Err (Ok s.in_flight)

-- the state by what its window w of 1 has counted
abbrev pub counted : StopAndWaitSender → Bool → ℕ → SendWindow → StopAndWaitSender
counted s in_flight retries w =
    state s.current_seq in_flight s.max_retries retries w.total_sent w.retransmissions

-- a send: what its window does; the chunk is in flight, with no retries yet
abbrev pub by_send : StopAndWaitSender → Result (Option ℕ) Refusal → SendWindow → StopAndWaitSender
by_send s (Ok (Some n)) w = counted s true 0 w
by_send s (Ok None) w = s
by_send s (Err r) w = s

abbrev pub sent : StopAndWaitSender → window.SendExit Sender → window.SendExit End
sent s t = window.send_exit t.answer (end_of (by_send s t.answer t.after.window) t.after.store) t.out

abbrev pub send_chunk : End → List ℕ → List ℕ → window.SendExit End
send_chunk v payload out = sent v.sender (window.send_chunk false (window_end v) payload out)

-- below the entry point
abbrev pub send_chunk_unchecked : End → List ℕ → List ℕ → window.SendExit End
send_chunk_unchecked v payload out = sent v.sender (window.send_chunk_unchecked (window_end v) payload out)

-- an accepted ACK: the next number, nothing in flight, the slot emptied
abbrev pub acknowledged : End → ℕ → End
acknowledged v n =
    end_of (state (v.sender.current_seq + 1) false v.sender.max_retries 0 v.sender.total_sent
    v.sender.retransmissions)
    (release (window_end v) (n + 1)).store

abbrev pub decide_ack : End → List ℕ → Result AckDecision Refusal
decide_ack v raw = ack_decision false (window_of v.sender) v.store raw

abbrev pub handle_ack : End → List ℕ → AckExit End
handle_ack v raw = by_decision (decide_ack v raw) v (acknowledged v)

-- a timeout: the packet in flight again, one retry more, unless the retry limit is met
abbrev pub retries_left : StopAndWaitSender → ℕ
retries_left s = cond (ltb s.current_retries s.max_retries) 1 0

abbrev pub by_timeout : StopAndWaitSender → Result (Option ℕ) Refusal → SendWindow → StopAndWaitSender
by_timeout s (Ok (Some n)) w = counted s s.in_flight (s.current_retries + 1) w
by_timeout s (Ok None) w = s
by_timeout s (Err r) w = s

abbrev pub timed_out : StopAndWaitSender → TimeoutExit Sender → TimeoutExit End
timed_out s t = timeout_exit t.answer (end_of (by_timeout s t.answer t.after.window) t.after.store) t.out

abbrev pub handle_timeout : End → List ℕ → TimeoutExit End
handle_timeout v out = timed_out v.sender (resend_outstanding (window_end v) (retries_left v.sender) out)

-- the packet in flight marked as sent again and counted, with one retry more
abbrev pub marked_again : End → End
marked_again v =
    let w = mark_retransmitted (window_end v) v.sender.current_seq in
    end_of (counted v.sender v.sender.in_flight (v.sender.current_retries + 1) w.window) w.store

-- decided before anything is written
abbrev pub decide_timeout : End → Result TimeoutDecision Refusal
decide_timeout v = outstanding_decision (window_of v.sender) v.store (retries_left v.sender)
