-- app/transfer.rs, `pump_sends`: the chunks of the file that the window has space for, each written by the sender and
-- submitted.
use Rattle.std.specs.Prelude.{ℕ, zero, suc, ◌-◌, Bool, true, false, cond, ◌&&◌, List, [], length, get_or, replicate}
use Rattle.std.specs.Prelude.{ltb, Float, None, Option}
use Rattle.bounds.specs.Bounds.{max_datagram}
use Rattle.window.specs.Sending.{SendExit}
use Rattle.delivery.specs.Ends.{bytes_sent}
use Rattle.path.specs.Path.{is_going}
use Rattle.path.specs.declared.Stop.{Stop}
use Rattle.path.specs.declared.Stop.TheVariants as stop
use Rattle.clock.specs.Clock.{Submission}
use Rattle.clock.specs.declared.Timing.{Timing}
use Rattle.session.specs.Sending.{SenderEnd, window_of, can_send, oldest_outstanding, send_chunk}
use Rattle.session.specs.declared.Sender.{Sender}
use Rattle.submission.specs.Submission.{Outgoing, submit}

-- the sender, and what a submission works on
pub record PumpState : Type 0 where
  pub sender : SenderEnd
  pub outgoing : Outgoing

abbrev pub pump_state : SenderEnd → Outgoing → PumpState
pump_state v o = record { sender = v; outgoing = o }

-- what a call leaves, whether it sent something, and whether the run goes on
pub record PumpExit : Type 0 where
  pub state : PumpState
  pub progress : Bool
  pub stop : Option Stop

abbrev pub pump_exit : PumpState → Bool → Option Stop → PumpExit
pump_exit s progress st = record { state = s; progress = progress; stop = st }

abbrev pub next_number : PumpState → ℕ
next_number s = (window_of s.sender.sender).next_seq_num

-- the window has space, and a chunk is left
abbrev pub can_pump : ℕ → Sender → Bool
can_pump total s = can_send s && ltb (window_of s).next_seq_num total

-- what `send_chunk` wrote of a number is submitted
abbrev pub submit_sent : Timing → List Float → ℕ → ℕ → ℕ → Outgoing → SendExit SenderEnd → PumpExit
submit_sent t rolls rto now seq o x =
    let given : Submission = record {
      time = now;
      seq = seq;
      rto = rto;
      retransmission = false;
      oldest = oldest_outstanding x.after.sender;
    } in
    let y = submit t rolls given (bytes_sent x.answer x.out) o in
    pump_exit (pump_state x.after y.outgoing) true y.stop

-- the next chunk
unfoldable pub send_one : Timing → List Float → List (List ℕ) → ℕ → ℕ → PumpState → PumpExit
send_one t rolls chunks rto now s =
    let seq = next_number s in
    submit_sent t rolls rto now seq s.outgoing
    (send_chunk s.sender (get_or chunks seq []) (replicate max_datagram 0))

abbrev pub progressed : PumpExit → PumpExit
progressed x = pump_exit x.state true x.stop

-- one after the other, at most n
unfoldable pub pump_most : ℕ → Timing → List Float → List (List ℕ) → ℕ → ℕ → PumpState → PumpExit
pump_most zero t rolls chunks rto now s = pump_exit s false (None)
pump_most (suc n) t rolls chunks rto now s =
    let x = send_one t rolls chunks rto now s in
    cond (can_pump (length chunks) s.sender.sender)
    (cond (is_going x.stop) (progressed (pump_most n t rolls chunks rto now x.state)) x)
    (pump_exit s false (None))

-- `pending` has the chunks from the next number on
abbrev pub pump_sends : Timing → List Float → List (List ℕ) → ℕ → ℕ → PumpState → PumpExit
pump_sends t rolls chunks rto now s = pump_most (length chunks - next_number s) t rolls chunks rto now s
