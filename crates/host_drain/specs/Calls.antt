-- Document 01, demand 3, with drains between the calls: the bytes drained so far and the output up to its fill mark,
-- joined, are S's first D chunks joined. The plain machine isn't fed a drain.
use Rattle.std.specs.Prelude.{ℕ, ◌-◌, ◌≤◌, ◌≡◌, Bool, true, false, cond, length, take, drop, Err, Ok, Result}
use mathlib.Core.List.{List, [], ◌∷◌, ◌++◌, flatten}
use Rattle.protocol.specs.declared.ProtocolType.{ProtocolType}
use Rattle.protocol.specs.declared.ProtocolType.TheVariants.{StopAndWait, GoBackN, SelectiveRepeat}
use Rattle.protocol.specs.PlainMachine.{PlainState, plain_start, plain_run, Fed}
use Rattle.stop_and_wait.specs.Receiver as stop_and_wait
use Rattle.go_back_n.specs.Receiver as go_back_n
use Rattle.selective_repeat.specs.Receiver as selective_repeat
use Rattle.delivery.specs.Calls.{Call, Done, done, Ends, World, step, Allowed, fed_by}
use Rattle.delivery.specs.Ends.{with_output, ends, fresh_ends}
use Rattle.session.specs.Ends.{receiver_of, output_of}
use Rattle.host_drain.specs.Drain.{drain_receiver}
use Rattle.refusal.specs.declared.Refusal.{Refusal}

-- a receiver, all bytes drained from it, joined, and the output as it was lent last
pub record WithDrained (R : Type 0) : Type 0 where
  pub receiver : R
  pub drained : List ℕ
  pub lent : List ℕ

abbrev pub with_drained : {R : Type 0} → R → List ℕ → List ℕ → WithDrained R
with_drained r drained lent = record { receiver = r; drained = drained; lent = lent }

-- a receiver's call drains nothing
abbrev pub not_draining : {R : Type 0} → WithDrained R → Done R → Done (WithDrained R)
not_draining r d = done (with_drained d.after r.drained r.lent) d.written d.is_done d.is_refused

-- the ends, the receiver's with what was drained; its output is what was drained and what is present
abbrev pub drainable : Ends → Ends
drainable E = record {
  Sender = E.Sender;
  Receiver = WithDrained E.Receiver;
  Timeout = E.Timeout;
  send_chunk = E.send_chunk;
  handle_timeout = E.handle_timeout;
  handle_ack = E.handle_ack;
  handle_packet = λ r raw buffer. not_draining r (E.handle_packet r.receiver raw buffer);
  sender_base = E.sender_base;
  receiver_base = λ r. E.receiver_base r.receiver;
  output = λ r. r.drained ++ E.output r.receiver;
  unwritten = λ r. E.unwritten r.receiver;
}

-- A drain of the ends' receiver: what it asks; whether it is done, and not refused; where it is done, the bytes that
-- are taken, and the receiver after it with the output that is lent from then on.
pub record Draining (E : Ends) : Type 1 where
  pub Asks : E.Receiver → Type 0
  pub is_done : E.Receiver → Bool
  pub taken : E.Receiver → List ℕ
  pub emptied : E.Receiver → List ℕ → E.Receiver

-- a call of demand 3; or a drain, and the output that is lent from then on, the same or another
pub data DrainCall (Timeout : Type 0) : Type 0 where
  call : Call Timeout → DrainCall Timeout
  drain : List ℕ → DrainCall Timeout

module _ (E : Ends) (X : Draining E) where
  abbrev pub after_drain : WithDrained E.Receiver → List ℕ → WithDrained E.Receiver
  after_drain r output =
      cond (X.is_done r.receiver)
      (with_drained (X.emptied r.receiver output) (r.drained ++ X.taken r.receiver) output)
      r

  unfoldable pub drain_step : World (drainable E) → DrainCall E.Timeout → World (drainable E)
  drain_step v (call c) = step (drainable E) v c
  drain_step v (drain output) = record {
    sender = v.sender;
    receiver = after_drain v.receiver output;
    sent = v.sent;
    replies = v.replies;
  }

  unfoldable pub drain_run : World (drainable E) → List (DrainCall E.Timeout) → World (drainable E)
  drain_run v [] = v
  drain_run v (c ∷ cs) = drain_run (drain_step v c) cs

  abbrev pub DrainAdmissible : World (drainable E) → List (DrainCall E.Timeout) → Type 0
  DrainAdmissible v [] = Unit {0}
  DrainAdmissible v (call c ∷ cs) = Allowed v c × DrainAdmissible (drain_step v (call c)) cs
  DrainAdmissible v (drain output ∷ cs) =
      X.Asks v.receiver.receiver × DrainAdmissible (drain_step v (drain output)) cs

  unfoldable pub drain_fed : World (drainable E) → List (DrainCall E.Timeout) → List Fed
  drain_fed v [] = []
  drain_fed v (call c ∷ cs) = fed_by (drainable E) v c ∷ drain_fed (drain_step v (call c)) cs
  drain_fed v (drain output ∷ cs) = drain_fed (drain_step v (drain output)) cs

  -- no drain of the list is refused
  abbrev pub DrainsDone : World (drainable E) → List (DrainCall E.Timeout) → Type 0
  DrainsDone v [] = Unit {0}
  DrainsDone v (call c ∷ cs) = DrainsDone (drain_step v (call c)) cs
  DrainsDone v (drain output ∷ cs) =
      (X.is_done v.receiver.receiver ≡ true) × DrainsDone (drain_step v (drain output)) cs

  abbrev pub plain_after_drains : ProtocolType → ℕ → World (drainable E) → List (DrainCall E.Timeout) → PlainState
  plain_after_drains p w v cs = plain_run p w plain_start (drain_fed v cs)

-- nothing drained yet
abbrev pub drain_start : {E : Ends} → World E → World (drainable E)
drain_start {E} v = record {
  sender = v.sender;
  receiver = with_drained v.receiver [] (E.unwritten v.receiver);
  sent = v.sent;
  replies = v.replies;
}

-- the output is all that was written of the one lent last
pub record DrainClaim (E : Ends) (w : ℕ) (v : World (drainable E)) (s : PlainState) : Type 0 where
  pub receiver_base : E.receiver_base v.receiver.receiver ≡ s.D
  pub sender_base : E.sender_base v.sender ≡ s.A
  pub first_delivered : v.receiver.drained ++ E.output v.receiver.receiver ≡ flatten (take s.D s.sent)
  pub nothing_else_written : E.unwritten v.receiver.receiver
      ≡ drop (length (E.output v.receiver.receiver)) v.receiver.lent
  pub within_sent : s.D ≤ length s.sent
  pub not_negative : s.A ≤ s.D
  pub in_window : s.D - s.A ≤ w

-- ---- the ends of a protocol
-- the receiver after a drain that isn't refused
abbrev pub emptied_end : (p : ProtocolType) → (ends p).Receiver → List ℕ → (ends p).Receiver
emptied_end StopAndWait r output = with_output (stop_and_wait.with_mark r.receiver 0) output
emptied_end GoBackN r output = with_output (go_back_n.with_mark r.receiver 0) output
emptied_end SelectiveRepeat r output =
    with_output (selective_repeat.receiver (selective_repeat.with_filled r.receiver.state 0) r.receiver.store)
    output

abbrev pub drain_answer : (p : ProtocolType) → (ends p).Receiver → Result ℕ Refusal
drain_answer p r = (drain_receiver (receiver_of p [] r) (output_of p r)).answer

abbrev pub is_drained : Result ℕ Refusal → Bool
is_drained (Ok n) = true
is_drained (Err r) = false

-- as many bytes of the output as are answered
abbrev pub bytes_taken : Result ℕ Refusal → List ℕ → List ℕ
bytes_taken (Ok n) output = take n output
bytes_taken (Err r) output = []

abbrev pub draining : (p : ProtocolType) → Draining (ends p)
draining p = record {
  Asks = λ r. Unit {0};
  is_done = λ r. is_drained (drain_answer p r);
  taken = λ r. bytes_taken (drain_answer p r) (output_of p r);
  emptied = emptied_end p;
}

abbrev pub drain_fresh : (p : ProtocolType) → ℕ → ℕ → List ℕ → List ℕ → List ℕ → World (drainable (ends p))
drain_fresh p w limit sending receiving output = drain_start (fresh_ends p w limit sending receiving output)
