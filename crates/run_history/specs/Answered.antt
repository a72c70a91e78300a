-- Document 01, "Turned away" and the ends of a run: none of a run's calls is refused, and only its last may leave a
-- datagram that was not carried.
use Rattle.std.specs.Prelude.{◌≡◌, true, false, List, [], ◌∷◌, length, replicate}
use Rattle.receiver.specs.Reply.{is_refused}
use Rattle.rto.specs.History as rto
use Rattle.rto.specs.declared.RtoEstimator.{RtoEstimator}
use Rattle.delivery.specs.Ends.{is_send_refused, is_timeout_refused, is_handled}
use Rattle.session.specs.Sending.{handle_ack, handle_timeout, resent, ample_buffer}
use Rattle.run_history.specs.Calls.{Call, chunk, timeout, arrival, return, Ends, after}
use Rattle.run_history.specs.Calls.{reads_as_data, reads_as_ack, sent_by, received_by}

-- a property of each call and the ends before it
abbrev pub Each : (Ends → Call → Type 0) → Ends → List Call → Type 0
Each P e [] = Unit {0}
Each P e (c ∷ cs) = P e c × Each P (after e c) cs

-- neither the sender nor the receiver refuses it
abbrev pub NotRefused : Ends → Call → Type 0
NotRefused e (chunk payload carried) = is_send_refused (sent_by e payload).answer ≡ false
NotRefused e (timeout t carried) =
    is_timeout_refused (handle_timeout e.sender t (ample_buffer e.sender.sender)).answer ≡ false
NotRefused e (arrival raw carried) = reads_as_data raw ≡ true → is_refused (received_by e raw).answer ≡ false
NotRefused e (return raw age) = reads_as_ack raw ≡ true → is_handled (handle_ack e.sender raw).answer ≡ true

-- the estimator refuses none of its calls
abbrev pub Taken : RtoEstimator → List rto.Call → Type 0
Taken x [] = Unit {0}
Taken x (c ∷ cs) = (rto.is_refused x c ≡ false) × Taken (rto.step x c) cs

-- all that it wrote was handed to its line and carried
abbrev pub Whole : Ends → Call → Type 0
Whole e (chunk payload carried) = carried ≡ true
Whole e (timeout t carried) = carried ≡ replicate (length (resent e.sender t).packets) true
Whole e (arrival raw carried) = carried ≡ true
Whole e (return raw age) = Unit {0}
