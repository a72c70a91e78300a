-- `is_premature` (app/transfer.rs): a datagram again, though the first of its number was granted a copy and an ACK of
-- the number was sent before.
use Rattle.std.specs.Prelude.{ℕ, ◌+◌, Bool, not, cond, ◌&&◌, List, [], ◌∷◌, ◌++◌, ltb, leb, eqb, Float, length}
use Rattle.channel.specs.declared.ChannelConfig.{ChannelConfig}
use Rattle.events.specs.Events.{ForwardEvent}
use Rattle.session.specs.Sending.{resent}
use Rattle.run_history.specs.Calls.{Call, chunk, timeout, arrival, return, Ends, after_calls, collect}
use Rattle.run_history.specs.Calls.{resubmissions, submitted_by, Reply, replied_by}
use Rattle.run_history.specs.Lines.{count, any, carried_of, events_from}

-- the first datagram of the number was granted a copy
abbrev pub is_first_granted : ℕ → ForwardEvent → Bool
is_first_granted n x = not x.retransmission && (eqb x.seq n && ltb 0 (length x.delays))

-- an ACK of the number, or of a later one where ACKs are cumulative; of one that had been sent by then
abbrev pub covers : ℕ → Reply → Bool
covers n x = ltb n x.sent && cond x.cumulative (leb n x.number) (eqb n x.number)

-- whether a number is sent again prematurely after these calls from the ends e
abbrev pub is_premature_after : ChannelConfig → List Float → Ends → List Call → ℕ → Bool
is_premature_after c rolls e cs n =
    any (is_first_granted n) (events_from c rolls 0 (carried_of (collect submitted_by e cs)))
    && any (covers n) (collect replied_by e cs)

-- how many datagrams of a call are, by a test of their numbers
abbrev pub premature_by : (ℕ → Bool) → Ends → Call → ℕ
premature_by test e (chunk payload carried) = 0
premature_by test e (timeout t carried) =
    count (λ x. test x.seq) (resubmissions carried (resent e.sender t).packets)
premature_by test e (arrival raw carried) = 0
premature_by test e (return raw age) = 0

-- of the calls cs after those before
unfoldable pub premature_in : ChannelConfig → List Float → Ends → List Call → List Call → ℕ
premature_in c rolls e before [] = 0
premature_in c rolls e before (d ∷ cs) =
    premature_by (is_premature_after c rolls e before) (after_calls e before) d
    + premature_in c rolls e (before ++ d ∷ []) cs
