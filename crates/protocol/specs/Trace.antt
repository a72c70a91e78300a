-- The two ends of a protocol and the line between them: what happens, one event after the other, and what each end made
-- so far.
use Rattle.std.specs.Prelude.{◌≡◌, ℕ, ◌+◌, ◌-◌, ◌≤◌, ◌<◌, Bool, true, false, cond, not, ◌&&◌, length, take, drop}
use mathlib.Core.List.{List, [], ◌∷◌, ◌++◌, map, Memᴰ}
use Rattle.protocol.specs.Runs.{up_from}
use Rattle.protocol.specs.Machine.{Chunk, Segment, SenderState, ReceiverState, new_sender, new_receiver, next_number}
use Rattle.protocol.specs.Machine.{send, segments_from, is_in_window, is_acknowledged, acknowledge, receive}
use Rattle.protocol.specs.PlainMachine.{Call, send_chunk, handle_timeout, handle_data, handle_ack, PlainState}
use Rattle.protocol.specs.PlainMachine.{plain_start, plain_run, Fed, fed, plain_outstanding, First}
use Rattle.protocol.specs.declared.ProtocolType.{ProtocolType}

-- both ends, the chunks delivered, the segments that the sender made and the numbers that the receiver acknowledged,
-- oldest first
pub record World : Type 0 where
  pub sender : SenderState
  pub receiver : ReceiverState
  pub delivered : List Chunk
  pub segments : List Segment
  pub acks : List ℕ

unfoldable pub new_world : ProtocolType → ℕ → World
new_world p w = record { sender = new_sender; receiver = new_receiver p w; delivered = []; segments = []; acks = [] }

-- a chunk sent; k numbers from n on sent again; a segment handed to the receiver whole; an ACK handed to the sender
-- whole; a call without effect: refused, a full window, a flipped copy, a timeout after which nothing is sent
pub data Event : Type 0 where
  sent : Chunk → Event
  resent : ℕ → ℕ → Event
  received : Segment → Event
  acknowledged : ℕ → Event
  other : Call → Event

unfoldable pub step : ProtocolType → ℕ → World → Event → World
step p w v (sent c) =
    record {
      sender = send v.sender c;
      receiver = v.receiver;
      delivered = v.delivered;
      segments = v.segments ++ (record { number = next_number v.sender; payload = c } ∷ []);
      acks = v.acks;
    }
step p w v (resent n k) =
    record {
      sender = v.sender;
      receiver = v.receiver;
      delivered = v.delivered;
      segments = v.segments ++ segments_from v.sender n k;
      acks = v.acks;
    }
step p w v (received q) =
    record {
      sender = v.sender;
      receiver = (receive p w v.receiver q).after;
      delivered = v.delivered ++ (receive p w v.receiver q).delivered;
      segments = v.segments;
      acks = v.acks ++ (receive p w v.receiver q).acks;
    }
step p w v (acknowledged n) =
    record {
      sender = acknowledge p v.sender n;
      receiver = v.receiver;
      delivered = v.delivered;
      segments = v.segments;
      acks = v.acks;
    }
step p w v (other c) = v

unfoldable pub run : ProtocolType → ℕ → World → List Event → World
run p w v [] = v
run p w v (e ∷ es) = run p w (step p w v e) es

-- a chunk is sent only if the window isn't full, only what the sender holds is sent again, and each end is handed only
-- copies of what the other made before
abbrev pub Allowed : ℕ → World → Event → Type 0
Allowed w v (sent c) = length v.sender.chunks < w
Allowed w v (resent n k) = (v.sender.base ≤ n) × (n + k ≤ next_number v.sender)
Allowed w v (received q) = Memᴰ q v.segments
Allowed w v (acknowledged n) = Memᴰ n v.acks
Allowed w v (other c) = Unit {0}

abbrev pub Admissible : ProtocolType → ℕ → World → List Event → Type 0
Admissible p w v [] = Unit {0}
Admissible p w v (e ∷ es) = Allowed w v e × Admissible p w (step p w v e) es

-- what the plain machine is fed
abbrev pub call_of : Event → Fed
call_of (sent c) = fed (send_chunk c) true
call_of (resent n k) = fed handle_timeout true
call_of (received q) = fed (handle_data q.number) true
call_of (acknowledged n) = fed (handle_ack n) true
call_of (other c) = fed c false

-- the plain machine after a list of events
abbrev pub plain_after : ProtocolType → ℕ → List Event → PlainState
plain_after p w es = plain_run p w plain_start (map call_of es)

-- outstanding: sent, and not acknowledged
abbrev pub is_outstanding : SenderState → ℕ → Bool
is_outstanding s n = is_in_window s n && not (is_acknowledged s n)

-- those of the given numbers that are outstanding
abbrev pub outstanding_of : SenderState → List ℕ → List ℕ
outstanding_of s [] = []
outstanding_of s (n ∷ ns) = cond (is_outstanding s n) (n ∷ outstanding_of s ns) (outstanding_of s ns)

-- all that are, lowest first
unfoldable pub outstanding : SenderState → List ℕ
outstanding s = outstanding_of s (up_from s.base (length s.chunks))

-- demand 3 of a world and the plain machine
pub record Claim (w : ℕ) (v : World) (s : PlainState) : Type 0 where
  pub receiver_base : v.receiver.base ≡ s.D
  pub sender_base : v.sender.base ≡ s.A
  pub first_delivered : v.delivered ≡ take s.D s.sent
  pub not_negative : s.A ≤ s.D
  pub in_window : s.D - s.A ≤ w
  pub all_numbered : next_number v.sender ≡ length s.sent
  pub rest_held : v.sender.chunks ≡ drop s.A s.sent
  pub outstanding_is : outstanding v.sender ≡ plain_outstanding s

-- One resending, however its calls, segments and ACKs interleave. Still to come are: the numbers to be sent again, as
-- far as they are outstanding; the segments made and not yet handed over; the ACKs made and not yet handed over. Each
-- event takes what stands first, but a timeout after which nothing is sent; at the end nothing is left.
abbrev pub ResendsAll : ProtocolType → ℕ → World → List ℕ → List Segment → List ℕ → List Event → Type 0
ResendsAll p w v numbers segments acks [] = (numbers ≡ []) × (segments ≡ []) × (acks ≡ [])
ResendsAll p w v numbers segments acks (sent c ∷ es) = ⊥
ResendsAll p w v numbers segments acks (resent n k ∷ es) =
    (0 < k) × (take k numbers ≡ up_from n k)
    × ResendsAll p w (step p w v (resent n k)) (drop k numbers) (segments ++ segments_from v.sender n k) acks es
ResendsAll p w v numbers segments acks (received q ∷ es) =
    First q segments
    × ResendsAll p w (step p w v (received q)) numbers (drop 1 segments) (acks ++ (receive p w v.receiver q).acks) es
ResendsAll p w v numbers segments acks (acknowledged n ∷ es) =
    First n acks
    × ResendsAll p w (step p w v (acknowledged n)) (outstanding_of (acknowledge p v.sender n) numbers) segments
    (drop 1 acks) es
ResendsAll p w v numbers segments acks (other handle_timeout ∷ es) = ResendsAll p w v numbers segments acks es
ResendsAll p w v numbers segments acks (other (send_chunk c) ∷ es) = ⊥
ResendsAll p w v numbers segments acks (other (handle_data n) ∷ es) = ⊥
ResendsAll p w v numbers segments acks (other (handle_ack n) ∷ es) = ⊥

-- what one resending of all outstanding chunks leaves: S as it was, D and A at its end, and all of it delivered
pub record AllDelivered (s : PlainState) (v : World) (t : PlainState) : Type 0 where
  pub same_sent : t.sent ≡ s.sent
  pub last_D : t.D ≡ length s.sent
  pub last_A : t.A ≡ length s.sent
  pub all_delivered : v.delivered ≡ s.sent
