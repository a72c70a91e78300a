-- Document 01, "Turned away": what a list of calls has to keep to so that no call is refused.
use Rattle.std.specs.Prelude.{ℕ, ◌+◌, ◌*◌, ◌≤◌, ◌<◌, ◌≡◌, true, false, length}
use mathlib.Core.List.{List, [], ◌∷◌, flatten}
use Rattle.bounds.specs.Bounds.{header_size, max_payload, max_datagram, seq_num_limit, count_limit}
use Rattle.protocol.specs.declared.ProtocolType.{ProtocolType}
use Rattle.protocol.specs.declared.ProtocolType.TheVariants.{StopAndWait, GoBackN, SelectiveRepeat}
use Rattle.protocol.specs.PlainMachine.{PlainState, plain_outstanding}
use Rattle.delivery.specs.Calls.{copy_bytes, is_whole, Call, send, timeout, to_receiver, to_sender, Ends, World, step}
use Rattle.delivery.specs.Calls.{run}
use Rattle.delivery.specs.Ends.{all, earliest, ends}

-- the chunks that a list hands to the sender
abbrev pub chunks_in : {T : Type 0} → List (Call T) → List (List ℕ)
chunks_in [] = []
chunks_in (send payload buffer ∷ cs) = payload ∷ chunks_in cs
chunks_in (timeout t buffer ∷ cs) = chunks_in cs
chunks_in (to_receiver c buffer ∷ cs) = chunks_in cs
chunks_in (to_sender c ∷ cs) = chunks_in cs

-- how many datagrams a timeout sends at most, of a window of w
abbrev pub resent_most : (p : ProtocolType) → ℕ → (ends p).Timeout → ℕ
resent_most StopAndWait w t = 1
resent_most GoBackN w all = w
resent_most GoBackN w earliest = 1
resent_most SelectiveRepeat w n = 1

-- a payload within its bound, and a buffer that is long enough for whatever the call writes
abbrev pub Fits : (p : ProtocolType) → ℕ → Call (ends p).Timeout → Type 0
Fits p w (send payload buffer) = (length payload ≤ max_payload) × (header_size + length payload ≤ length buffer)
Fits p w (timeout t buffer) = resent_most p w t * max_datagram ≤ length buffer
Fits p w (to_receiver c buffer) = header_size ≤ length buffer
Fits p w (to_sender c) = Unit {0}

abbrev pub AllFit : (p : ProtocolType) → ℕ → List (Call (ends p).Timeout) → Type 0
AllFit p w [] = Unit {0}
AllFit p w (c ∷ cs) = Fits p w c × AllFit p w cs

-- the output has room for all chunks, their numbers stay below the limit, and so do the counters: the datagrams that
-- the sender makes, and the calls, of which each raises a receiver's counter by at most one
pub record Suffices (p : ProtocolType) (w : ℕ) (start : World (ends p)) (cs : List (Call (ends p).Timeout)) : Type 0
  where
    pub buffers : AllFit p w cs
    pub output : length (flatten (chunks_in cs)) ≤ length ((ends p).unwritten start.receiver)
    pub numbers : length (chunks_in cs) ≤ seq_num_limit
    pub datagrams : length (run (ends p) start cs).sent < count_limit
    pub calls : length cs < count_limit

-- a call isn't refused; a flipped copy may be
abbrev pub NotRefused : (E : Ends) → World E → Call E.Timeout → Type 0
NotRefused E v (send payload buffer) = (E.send_chunk v.sender payload buffer).is_refused ≡ false
NotRefused E v (timeout t buffer) = (E.handle_timeout v.sender t buffer).is_refused ≡ false
NotRefused E v (to_receiver c buffer) =
    is_whole c ≡ true → (E.handle_packet v.receiver (copy_bytes v.sent c) buffer).is_done ≡ true
NotRefused E v (to_sender c) = is_whole c ≡ true → (E.handle_ack v.sender (copy_bytes v.replies c)).is_done ≡ true

abbrev pub NoneRefused : (E : Ends) → World E → List (Call E.Timeout) → Type 0
NoneRefused E v [] = Unit {0}
NoneRefused E v (c ∷ cs) = NotRefused E v c × NoneRefused E (step E v c) cs

-- What a resending asks of the world v where it starts, with the plain machine s, after so many calls: the output has
-- room for all of S, and numbers and counters leave room for what is sent again and handed over. rest is the output
-- behind the fill mark of the fresh receiver.
pub record RoomToResend (p : ProtocolType) (rest : List ℕ) (v : World (ends p)) (s : PlainState) (calls : ℕ) : Type 0
  where
    pub output : length (flatten s.sent) ≤ length rest
    pub numbers : length s.sent ≤ seq_num_limit
    pub datagrams_few : length v.sent + length (plain_outstanding s) < count_limit
    pub calls_few : calls + (length (plain_outstanding s) + length (plain_outstanding s)) + 1 < count_limit

-- the retry limit isn't met
abbrev pub RetryLeft : (p : ProtocolType) → (ends p).Sender → Type 0
RetryLeft StopAndWait s = s.sender.current_retries < s.sender.max_retries
RetryLeft GoBackN s = Unit {0}
RetryLeft SelectiveRepeat s = Unit {0}
