-- RFC 6298, section 3 (Karn's algorithm), and `sample_rtt` (app/transfer.rs): the estimator's calls from the history of
-- a run's calls. A timeout that wrote something is one; so is the sample of a segment's round trip, once.
use Rattle.std.specs.Prelude.{ℕ, Bool, cond, ◌&&◌, List, [], ◌∷◌, ◌++◌, eqb, None, Option, Some}
use Rattle.packet.specs.Reading.{read_datagram}
use Rattle.rto.specs.History as rto
use Rattle.session.specs.Sending.{handle_ack, resent}
use Rattle.acks.specs.Acks.{ack_number, sample_seq, is_accepted}
use Rattle.run_history.specs.Calls.{Call, chunk, timeout, arrival, return, Ends, after_calls, collect}
use Rattle.run_history.specs.Calls.{Submission, submitted_by}
use Rattle.run_history.specs.Lines.{any, carried_of}

-- the segment whose round trip an ACK ends, if it is accepted: in Selective Repeat its own, else the oldest outstanding
abbrev pub ended_by : Option ℕ → Ends → List ℕ → List ℕ
ended_by None e raw = []
ended_by (Some n) e raw =
    cond (is_accepted (handle_ack e.sender raw).answer) (sample_seq e.sender.sender.state n ∷ []) []

abbrev pub round_trip_by : Ends → Call → List ℕ
round_trip_by e (chunk payload carried) = []
round_trip_by e (timeout t carried) = []
round_trip_by e (arrival raw carried) = []
round_trip_by e (return raw age) = ended_by (ack_number (read_datagram raw)) e raw

-- whether a segment has given its sample, and whether it was sent again, after these calls from the ends e
abbrev pub is_sampled_after : Ends → List Call → ℕ → Bool
is_sampled_after e cs n = any (eqb n) (collect round_trip_by e cs)

abbrev pub is_again : ℕ → Submission → Bool
is_again n x = x.again && eqb n x.seq

abbrev pub is_again_after : Ends → List Call → ℕ → Bool
is_again_after e cs n = any (is_again n) (carried_of (collect submitted_by e cs))

-- the calls of one call, by tests of the segments
abbrev pub back_off : List (List ℕ) → List rto.Call
back_off [] = []
back_off (wire ∷ wires) = rto.timeout ∷ []

abbrev pub first_sample : (ℕ → Bool) → (ℕ → Bool) → ℕ → List ℕ → List rto.Call
first_sample sampled again age [] = []
first_sample sampled again age (n ∷ ns) = cond (sampled n) [] (rto.sample age (again n) ∷ [])

abbrev pub estimated_by : (ℕ → Bool) → (ℕ → Bool) → Ends → Call → List rto.Call
estimated_by sampled again e (chunk payload carried) = []
estimated_by sampled again e (timeout t carried) = back_off (resent e.sender t).packets
estimated_by sampled again e (arrival raw carried) = []
estimated_by sampled again e (return raw age) = first_sample sampled again age (round_trip_by e (return raw age))

-- of the calls cs after those before
unfoldable pub estimated_in : Ends → List Call → List Call → List rto.Call
estimated_in e before [] = []
estimated_in e before (c ∷ cs) =
    estimated_by (is_sampled_after e before) (is_again_after e before) (after_calls e before) c
    ++ estimated_in e (before ++ c ∷ []) cs
