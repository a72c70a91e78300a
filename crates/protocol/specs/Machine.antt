-- The ends of the three protocols over numbers, marks and chunks: what arq/sw.rs, gbn.rs and sr.rs do on a call that
-- isn't refused.
use Rattle.std.specs.Prelude.{ℕ, suc, ◌+◌, ◌-◌, List, [], ◌∷◌, ◌++◌, map, Bool, true, false, cond, ◌&&◌, length, get_or}
use Rattle.std.specs.Prelude.{drop, set, replicate, ltb, leb, eqb, Option, None, Some}
use Rattle.protocol.specs.Runs.{lead, up_from}
use Rattle.protocol.specs.declared.ProtocolType.{ProtocolType}
use Rattle.protocol.specs.declared.ProtocolType.TheVariants.{StopAndWait, GoBackN, SelectiveRepeat}

abbrev pub Chunk : Type 0
Chunk = List ℕ

-- a Data packet: its number and its payload
pub record Segment : Type 0 where
  pub number : ℕ
  pub payload : Chunk

-- a sender: the lowest number not acknowledged, the chunks from it on, and which of them are acknowledged
pub record SenderState : Type 0 where
  pub base : ℕ
  pub chunks : List Chunk
  pub acknowledged : List Bool

-- a receiver: the number expected next, and the chunks held from it on, one place for each number of the window (none
-- but in Selective Repeat)
pub record ReceiverState : Type 0 where
  pub base : ℕ
  pub held : List (Option Chunk)

abbrev pub new_sender : SenderState
new_sender = record { base = 0; chunks = []; acknowledged = [] }

abbrev pub places : ProtocolType → ℕ → ℕ
places StopAndWait w = 0
places GoBackN w = 0
places SelectiveRepeat w = w

abbrev pub new_receiver : ProtocolType → ℕ → ReceiverState
new_receiver p w = record { base = 0; held = replicate (places p w) None }

-- the number of the next chunk
abbrev pub next_number : SenderState → ℕ
next_number s = s.base + length s.chunks

-- a chunk taken
unfoldable pub send : SenderState → Chunk → SenderState
send s c = record { base = s.base; chunks = s.chunks ++ (c ∷ []); acknowledged = s.acknowledged ++ (false ∷ []) }

-- the segment of number n; k of them from n on
abbrev pub segment_at : SenderState → ℕ → Segment
segment_at s n = record { number = n; payload = get_or s.chunks (n - s.base) [] }

unfoldable pub segments_from : SenderState → ℕ → ℕ → List Segment
segments_from s n k = map (segment_at s) (up_from n k)

abbrev pub is_acknowledged : SenderState → ℕ → Bool
is_acknowledged s n = get_or s.acknowledged (n - s.base) false

abbrev pub is_in_window : SenderState → ℕ → Bool
is_in_window s n = leb s.base n && ltb n (next_number s)

-- the base moved up by k
abbrev pub move_base : SenderState → ℕ → SenderState
move_base s k = record { base = s.base + k; chunks = drop k s.chunks; acknowledged = drop k s.acknowledged }

-- number n marked as acknowledged
abbrev pub mark_acknowledged : SenderState → ℕ → SenderState
mark_acknowledged s n = record {
  base = s.base;
  chunks = s.chunks;
  acknowledged = set s.acknowledged (n - s.base) true;
}

-- the base moved past all that are acknowledged without a gap
abbrev pub slide : SenderState → SenderState
slide s = move_base s (lead s.acknowledged)

-- an ACK of an outstanding number: it and all before it; in Selective Repeat it alone
abbrev pub accept : ProtocolType → SenderState → ℕ → SenderState
accept StopAndWait s n = move_base s (suc n - s.base)
accept GoBackN s n = move_base s (suc n - s.base)
accept SelectiveRepeat s n = slide (mark_acknowledged s n)

unfoldable pub acknowledge : ProtocolType → SenderState → ℕ → SenderState
acknowledge p s n = cond (is_in_window s n) (accept p s n) s

-- a receiver after a segment, the chunks that it delivers, the numbers that it acknowledges
pub record Received : Type 0 where
  pub after : ReceiverState
  pub delivered : List Chunk
  pub acks : List ℕ

abbrev pub received : ReceiverState → List Chunk → List ℕ → Received
received r delivered acks = record { after = r; delivered = delivered; acks = acks }

-- Stop-and-Wait and Go-Back-N: the answer to a number that isn't the expected one
abbrev pub late_acks : ProtocolType → ℕ → ℕ → List ℕ
late_acks StopAndWait e n = cond (ltb n e) (n ∷ []) ((e - 1) ∷ [])
late_acks GoBackN e n = cond (eqb e 0) [] ((e - 1) ∷ [])
late_acks SelectiveRepeat e n = []

abbrev pub receive_in_order : ProtocolType → ReceiverState → Segment → Received
receive_in_order p r q =
    cond (eqb q.number r.base)
    (received (record { base = r.base + 1; held = r.held }) (q.payload ∷ []) (q.number ∷ []))
    (received r [] (late_acks p r.base q.number))

-- Selective Repeat: the chunks held in a row from the front
abbrev pub held_run : List (Option Chunk) → List Chunk
held_run [] = []
held_run (Some c ∷ held) = c ∷ held_run held
held_run (None ∷ held) = []

-- a chunk is held once
abbrev pub hold : Option Chunk → Chunk → Option Chunk
hold (Some c) d = Some c
hold None d = Some d

-- what is held in a row is delivered, and as many places become free at the end
abbrev pub deliver_run : ReceiverState → ℕ → Received
deliver_run r n =
    received
    (record {
      base = r.base + length (held_run r.held);
      held = drop (length (held_run r.held)) r.held ++ replicate (length (held_run r.held)) None;
    })
    (held_run r.held)
    (n ∷ [])

abbrev pub hold_at : ReceiverState → Segment → ReceiverState
hold_at r q = record {
  base = r.base;
  held = set r.held (q.number - r.base) (hold (get_or r.held (q.number - r.base) None) q.payload);
}

-- from base to base + w - 1 held, and delivered in order; from base - w to base - 1 acknowledged again; else unanswered
abbrev pub receive_selective : ℕ → ReceiverState → Segment → Received
receive_selective w r q =
    cond (leb r.base q.number)
    (cond (ltb q.number (r.base + w)) (deliver_run (hold_at r q) q.number) (received r [] []))
    (cond (leb r.base (q.number + w)) (received r [] (q.number ∷ [])) (received r [] []))

unfoldable pub receive : ProtocolType → ℕ → ReceiverState → Segment → Received
receive StopAndWait w r q = receive_in_order StopAndWait r q
receive GoBackN w r q = receive_in_order GoBackN r q
receive SelectiveRepeat w r q = receive_selective w r q
