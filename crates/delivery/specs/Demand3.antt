-- Document 01, demand 3: the claim about a list of calls.
use Rattle.std.specs.Prelude.{ℕ, ◌-◌, ◌≤◌, ◌≡◌, Bool, true, false, cond, not, ◌&&◌, length, get_or, take, drop, ltb}
use Rattle.std.specs.Prelude.{leb}
use mathlib.Core.List.{List, [], ◌∷◌, ◌++◌, map, flatten}
use Rattle.protocol.specs.declared.ProtocolType.{ProtocolType}
use Rattle.protocol.specs.PlainMachine.{PlainState, plain_start, plain_step, plain_run, plain_outstanding, First}
use Rattle.delivery.specs.Calls.{copy_bytes, is_whole, Call, send, timeout, to_receiver, to_sender, Ends, World}
use Rattle.delivery.specs.Calls.{datagrams, step, run, number_of, fed_by, fed_in}

-- the plain machine after a list of calls
abbrev pub plain_after : ProtocolType → ℕ → (E : Ends) → World E → List (Call E.Timeout) → PlainState
plain_after p w E v cs = plain_run p w plain_start (fed_in E v cs)

-- of the world v, reached from start, and the plain machine s; the output is all that was written of the one at the
-- start
pub record Claim (E : Ends) (w : ℕ) (start v : World E) (s : PlainState) : Type 0 where
  pub receiver_base : E.receiver_base v.receiver ≡ s.D
  pub sender_base : E.sender_base v.sender ≡ s.A
  pub first_delivered : E.output v.receiver ≡ flatten (take s.D s.sent)
  pub nothing_else_written : E.unwritten v.receiver
      ≡ drop (length (E.output v.receiver)) (E.unwritten start.receiver)
  pub within_sent : s.D ≤ length s.sent
  pub not_negative : s.A ≤ s.D
  pub in_window : s.D - s.A ≤ w

-- number n is outstanding: one of S, from A on, and not noted at the sender
abbrev pub is_outstanding : PlainState → ℕ → Bool
is_outstanding s n = (leb s.A n && ltb n (length s.sent)) && not (get_or s.at_sender n false)

-- those of the given numbers that are
abbrev pub outstanding_of : PlainState → List ℕ → List ℕ
outstanding_of s [] = []
outstanding_of s (n ∷ ns) = cond (is_outstanding s n) (n ∷ outstanding_of s ns) (outstanding_of s ns)

-- Where a resending stands: the world and the plain machine; and what is still to come: the numbers to be sent again,
-- as far as they are still outstanding, and the datagrams and the ACKs made and not yet handed over, each in its order.
pub record ResendState (E : Ends) : Type 0 where
  pub world : World E
  pub plain : PlainState
  pub numbers : List ℕ
  pub packets : List (List ℕ)
  pub replies : List (List ℕ)

abbrev pub resend_start : (E : Ends) → World E → PlainState → ResendState E
resend_start E v s = record { world = v; plain = s; numbers = plain_outstanding s; packets = []; replies = [] }

-- the datagrams that a call makes
abbrev pub made_by : (E : Ends) → World E → Call E.Timeout → List (List ℕ)
made_by E v (send payload buffer) = datagrams (E.send_chunk v.sender payload buffer).written
made_by E v (timeout t buffer) = datagrams (E.handle_timeout v.sender t buffer).written
made_by E v (to_receiver c buffer) = datagrams (E.handle_packet v.receiver (copy_bytes v.sent c) buffer).written
made_by E v (to_sender c) = datagrams (E.handle_ack v.sender (copy_bytes v.replies c)).written

-- what is still to come after a call: s is the plain machine after it, made what it made
abbrev pub numbers_left : {T : Type 0} → Call T → PlainState → List (List ℕ) → List ℕ → List ℕ
numbers_left (send payload buffer) s made ns = ns
numbers_left (timeout t buffer) s made ns = drop (length made) ns
numbers_left (to_receiver c buffer) s made ns = ns
numbers_left (to_sender c) s made ns = outstanding_of s ns

abbrev pub packets_left : {T : Type 0} → Call T → List (List ℕ) → List (List ℕ) → List (List ℕ)
packets_left (send payload buffer) made raws = raws
packets_left (timeout t buffer) made raws = raws ++ made
packets_left (to_receiver c buffer) made raws = drop 1 raws
packets_left (to_sender c) made raws = raws

abbrev pub replies_left : {T : Type 0} → Call T → List (List ℕ) → List (List ℕ) → List (List ℕ)
replies_left (send payload buffer) made raws = raws
replies_left (timeout t buffer) made raws = raws
replies_left (to_receiver c buffer) made raws = raws ++ made
replies_left (to_sender c) made raws = drop 1 raws

abbrev pub resend_step : ProtocolType → ℕ → (E : Ends) → ResendState E → Call E.Timeout → ResendState E
resend_step p w E r c = record {
  world = step E r.world c;
  plain = plain_step p w r.plain (fed_by E r.world c);
  numbers = numbers_left c (plain_step p w r.plain (fed_by E r.world c)) (made_by E r.world c) r.numbers;
  packets = packets_left c (made_by E r.world c) r.packets;
  replies = replies_left c (made_by E r.world c) r.replies;
}

-- A call of a resending: no new chunk; a timeout sends what comes next, or nothing; a copy handed over is whole and the
-- one that comes next, and isn't refused.
abbrev pub Resends : (E : Ends) → ResendState E → Call E.Timeout → Type 0
Resends E r (send payload buffer) = ⊥
Resends E r (timeout t buffer) =
    take (length (made_by E r.world (timeout t buffer))) r.numbers
    ≡ map number_of (made_by E r.world (timeout t buffer))
Resends E r (to_receiver c buffer) =
    (is_whole c ≡ true)
    × First (copy_bytes r.world.sent c) r.packets
    × ((E.handle_packet r.world.receiver (copy_bytes r.world.sent c) buffer).is_done ≡ true)
Resends E r (to_sender c) =
    (is_whole c ≡ true)
    × First (copy_bytes r.world.replies c) r.replies
    × ((E.handle_ack r.world.sender (copy_bytes r.world.replies c)).is_done ≡ true)

-- One resending, however its calls interleave, until nothing is left to come.
abbrev pub ResendsAll : ProtocolType → ℕ → (E : Ends) → ResendState E → List (Call E.Timeout) → Type 0
ResendsAll p w E r [] = (r.numbers ≡ []) × (r.packets ≡ []) × (r.replies ≡ [])
ResendsAll p w E r (c ∷ cs) = Resends E r c × ResendsAll p w E (resend_step p w E r c) cs

-- what a resending leaves: S as it was, D and A at its end, and all of S in the output
pub record Resent (E : Ends) (w : ℕ) (start v : World E) (before after : PlainState) : Type 0 where
  pub same_sent : after.sent ≡ before.sent
  pub last_D : after.D ≡ length before.sent
  pub last_A : after.A ≡ length before.sent
  pub claim : Claim E w start v after
  pub everything : E.output v.receiver ≡ flatten before.sent

-- Demand 3 of a list of calls cs from v: the claim after it, and what any resending ds that follows leaves.
pub record Demand3 (p : ProtocolType) (w : ℕ) (E : Ends) (v : World E) (cs : List (Call E.Timeout)) : Type 0 where
  pub claim : Claim E w v (run E v cs) (plain_after p w E v cs)
  pub resent : (ds : List (Call E.Timeout))
      → ResendsAll p w E (resend_start E (run E v cs) (plain_after p w E v cs)) ds
      → Resent E w v (run E v (cs ++ ds)) (plain_after p w E v cs) (plain_after p w E v (cs ++ ds))
