-- Document 01, "Turned away": what a list of export calls has to keep to so that none of them is refused.
use Rattle.std.specs.Prelude.{ℕ, ◌+◌, ◌*◌, ◌≤◌, ◌<◌, length, None, Option, Some}
use mathlib.Core.List.{List, [], ◌∷◌, flatten}
use Rattle.bounds.specs.Bounds.{header_size, max_payload, max_datagram, seq_num_limit, count_limit}
use Rattle.protocol.specs.declared.ProtocolType.{ProtocolType}
use Rattle.protocol.specs.declared.ProtocolType.TheVariants.{StopAndWait, GoBackN, SelectiveRepeat}
use Rattle.protocol.specs.PlainMachine.{PlainState, plain_outstanding}
use Rattle.delivery.specs.Calls.{Call, send, timeout, to_receiver, to_sender, World}
use Rattle.delivery.specs.Demand3.{plain_after}
use Rattle.session.specs.declared.Timeout.{Timeout}
use Rattle.session.specs.declared.Timeout.TheVariants as timeouts
use Rattle.session.specs.declared.SenderState.{SenderState}
use Rattle.session.specs.declared.SenderState.TheVariants as senderState
use Rattle.host_delivery.specs.Host.{Setup, host_ends, window_of, made_ends}
use Rattle.session.specs.declared.Sender.{Sender}

-- how many datagrams a timeout sends at most, of a window of w
abbrev pub resent_most : ProtocolType → ℕ → Timeout → ℕ
resent_most StopAndWait w t = 1
resent_most GoBackN w timeouts.All = w
resent_most GoBackN w timeouts.Earliest = 1
resent_most GoBackN w (timeouts.Number n) = w
resent_most SelectiveRepeat w t = 1

-- a payload within its bound, and a buffer that is long enough for whatever the call writes
abbrev pub Fits : ProtocolType → ℕ → Call Timeout → Type 0
Fits p w (send payload out) = (length payload ≤ max_payload) × (header_size + length payload ≤ length out)
Fits p w (timeout t out) = resent_most p w t * max_datagram ≤ length out
Fits p w (to_receiver c ack) = header_size ≤ length ack
Fits p w (to_sender c) = Unit {0}

abbrev pub AllFit : ProtocolType → ℕ → List (Call Timeout) → Type 0
AllFit p w [] = Unit {0}
AllFit p w (c ∷ cs) = Fits p w c × AllFit p w cs

-- S at the end of the list: a chunk that met a full window isn't in it
abbrev pub sent_by : (s : Setup) → List (Call Timeout) → List (List ℕ)
sent_by s cs = (plain_after s.protocol (window_of s) host_ends (made_ends s) cs).sent

-- the output has room for S, S leaves a number for one chunk more, and the counters stay below their limit: no call
-- makes more datagrams than the window
pub record Suffices (s : Setup) (cs : List (Call Timeout)) : Type 0 where
  pub buffers : AllFit s.protocol (window_of s) cs
  pub output : length (flatten (sent_by s cs)) ≤ length s.output
  pub numbers : length (sent_by s cs) < seq_num_limit
  pub calls : window_of s * length cs < count_limit

-- what a resending asks after such a list, of the plain machine m: room for what is sent again and handed over
pub record RoomToResend (s : Setup) (v : World host_ends) (m : PlainState) (calls : ℕ) : Type 0 where
  pub output : length (flatten m.sent) ≤ length s.output
  pub numbers : length m.sent ≤ seq_num_limit
  pub datagrams_few : length v.sent + length (plain_outstanding m) < count_limit
  pub calls_few : calls + (length (plain_outstanding m) + length (plain_outstanding m)) + 1 < count_limit

abbrev pub RetryLeftIn : SenderState → Type 0
RetryLeftIn (senderState.StopAndWait x) = x.current_retries < x.max_retries
RetryLeftIn (senderState.GoBackN x) = Unit {0}
RetryLeftIn (senderState.SelectiveRepeat x) = Unit {0}

-- the retry limit isn't met by the sender that words hold
abbrev pub RetryLeft : Option Sender → Type 0
RetryLeft (Some x) = RetryLeftIn x.state
RetryLeft None = Unit {0}
