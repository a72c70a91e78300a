-- What has to hold of the two ends, call by call, so that they follow the ends over numbers and chunks.
use Prim.Native.Nat.{ℕ, ◌+◌, ◌≤◌, ◌<◌}
use mathlib.Core.Path.{◌≡◌}
use mathlib.Core.List.{List, [], ◌++◌, flatten}
use mathlib.Core.Bool.{true, false}
use lib.ListN.{length, drop}
use Rattle.octets.specs.Octets.{Octets}
use Rattle.octets.specs.Flip.{flip}
use Rattle.protocol.specs.declared.ProtocolType.{ProtocolType}
use Rattle.protocol.specs.Machine.{Segment, SenderState, ReceiverState, next_number, send, segments_from, acknowledge, receive}
use Rattle.delivery.specs.Calls.{Done, Ends}
use Rattle.delivery.proofs.Datagrams.{DataBytes, AckBytes, Each}

-- a sender's call that changed nothing that counts, and wrote nothing
pub record SenderKept (E : Ends) (Is : E.Sender → SenderState → Type 0) (d : Done E.Sender) (m : SenderState) : Type 0 where
  pub after : Is d.after m
  pub nothing : d.written ≡ []

pub record ReceiverKept (E : Ends) (Is : E.Receiver → ReceiverState → Type 0) (r : E.Receiver) (d : Done E.Receiver) (m : ReceiverState) : Type 0 where
  pub after : Is d.after m
  pub nothing : d.written ≡ []
  pub output : E.output d.after ≡ E.output r
  pub unwritten : E.unwritten d.after ≡ E.unwritten r

pub record ChunkSent (E : Ends) (Is : E.Sender → SenderState → Type 0) (w : ℕ) (d : Done E.Sender) (m : SenderState) (payload : List ℕ) : Type 0 where
  pub after : Is d.after (send m payload)
  pub free : length m.chunks < w
  pub wrote : DataBytes d.written (record { number = next_number m; payload = payload })

-- k numbers from n on sent again
pub record SentAgain (E : Ends) (Is : E.Sender → SenderState → Type 0) (d : Done E.Sender) (m : SenderState) : Type 0 where
  pub after : Is d.after m
  pub first : ℕ
  pub count : ℕ
  pub some : 0 < count
  pub low : m.base ≤ first
  pub high : first + count ≤ next_number m
  pub packets : List (List ℕ)
  pub wrote : d.written ≡ flatten packets
  pub each : Each DataBytes packets (segments_from m first count)

pub record PacketTaken (p : ProtocolType) (w : ℕ) (E : Ends) (Is : E.Receiver → ReceiverState → Type 0) (r : E.Receiver) (d : Done E.Receiver) (m : ReceiverState) (q : Segment) : Type 0 where
  pub after : Is d.after (receive p w m q).after
  pub output : E.output d.after ≡ E.output r ++ flatten (receive p w m q).delivered
  pub unwritten : E.unwritten d.after ≡ drop (length (flatten (receive p w m q).delivered)) (E.unwritten r)
  pub replies : List (List ℕ)
  pub wrote : d.written ≡ flatten replies
  pub each : Each AckBytes replies (receive p w m q).acks

-- a bit of byte j turned over, not in the length bytes
pub record Flips (raw : List ℕ) (j b : ℕ) : Type 0 where
  pub within : j < length raw
  pub bit : b < 8
  pub not_6 : j ≡ 6 → ⊥
  pub not_7 : j ≡ 7 → ⊥

pub record Follow (p : ProtocolType) (w : ℕ) (E : Ends) : Type 1 where
  pub SenderIs : E.Sender → SenderState → Type 0
  pub ReceiverIs : E.Receiver → ReceiverState → Type 0
  pub sender_base : (s : E.Sender) (m : SenderState) → SenderIs s m → E.sender_base s ≡ m.base
  pub receiver_base : (r : E.Receiver) (m : ReceiverState) → ReceiverIs r m → E.receiver_base r ≡ m.base
  pub sent : (s : E.Sender) (m : SenderState) (payload buffer : List ℕ) → SenderIs s m → Octets payload
      → (E.send_chunk s payload buffer).is_done ≡ true → ChunkSent E SenderIs w (E.send_chunk s payload buffer) m payload
  pub not_sent : (s : E.Sender) (m : SenderState) (payload buffer : List ℕ) → SenderIs s m
      → (E.send_chunk s payload buffer).is_done ≡ false → SenderKept E SenderIs (E.send_chunk s payload buffer) m
  pub resent : (s : E.Sender) (m : SenderState) (t : E.Timeout) (buffer : List ℕ) → SenderIs s m
      → (E.handle_timeout s t buffer).is_done ≡ true → SentAgain E SenderIs (E.handle_timeout s t buffer) m
  pub not_resent : (s : E.Sender) (m : SenderState) (t : E.Timeout) (buffer : List ℕ) → SenderIs s m
      → (E.handle_timeout s t buffer).is_done ≡ false → SenderKept E SenderIs (E.handle_timeout s t buffer) m
  pub acknowledged : (s : E.Sender) (m : SenderState) (raw : List ℕ) (n : ℕ) → SenderIs s m → AckBytes raw n
      → (E.handle_ack s raw).is_done ≡ true → SenderKept E SenderIs (E.handle_ack s raw) (acknowledge p m n)
  pub ack_refused : (s : E.Sender) (m : SenderState) (raw : List ℕ) → SenderIs s m
      → (E.handle_ack s raw).is_done ≡ false → SenderKept E SenderIs (E.handle_ack s raw) m
  pub ack_flipped : (s : E.Sender) (m : SenderState) (raw : List ℕ) (n j b : ℕ) → SenderIs s m → AckBytes raw n → Flips raw j b
      → SenderKept E SenderIs (E.handle_ack s (flip raw j b)) m
  pub received : (r : E.Receiver) (m : ReceiverState) (raw buffer : List ℕ) (q : Segment) → ReceiverIs r m → DataBytes raw q
      → (E.handle_packet r raw buffer).is_done ≡ true → PacketTaken p w E ReceiverIs r (E.handle_packet r raw buffer) m q
  pub packet_refused : (r : E.Receiver) (m : ReceiverState) (raw buffer : List ℕ) → ReceiverIs r m
      → (E.handle_packet r raw buffer).is_done ≡ false → ReceiverKept E ReceiverIs r (E.handle_packet r raw buffer) m
  pub packet_flipped : (r : E.Receiver) (m : ReceiverState) (raw buffer : List ℕ) (q : Segment) (j b : ℕ) → ReceiverIs r m → DataBytes raw q → Flips raw j b
      → ReceiverKept E ReceiverIs r (E.handle_packet r (flip raw j b) buffer) m
