-- A store of octets stays one, and what lies in its slots are octets.
use Rattle.std.specs.Prelude.{Err, Ok, Result}
use Prim.Native.Nat.{ℕ, zero, suc, ◌+◌, ◌-◌, ◌*◌, ◌%◌, ◌≤◌, ◌<◌}
use mathlib.Core.Bool.{Bool}
use mathlib.Core.List.{List, ◌++◌}
use native.Mathlib.Omega.{arith}
use lib.ListN.{length, take, drop, replicate}
use Rattle.octets.specs.Octets.{Octets}
use Rattle.octets.proofs.Laws.{below_nil, below_cons, below_append, below_take, below_drop, below_set}
use Rattle.store.specs.Slot.{slot_at, slot_length, slot_flags, slot_payload, slot_bytes, put_slot, fill_slot, empty_slot}
use Rattle.window.specs.Sending.{send_chunk}
use Rattle.window.specs.Acknowledgement.{by_decision}
use Rattle.window.specs.declared.AckDecision.{AckDecision}
use Rattle.window.specs.declared.AckDecision.TheVariants as decision
use Rattle.go_back_n.specs.Sender as go_back_n
use Rattle.selective_repeat.specs.Sender as selective_repeat
use Rattle.window.specs.Slots.{Sender, slot_for, fresh, hold, mark_retransmitted, empty_from, release}
use Rattle.refinement.proofs.Sending.{send_refused, window_full, chunk_sent, send_outcome}
use Rattle.refusal.specs.declared.Refusal.{Refusal}

zeros_octets : (n : ℕ) → Octets (replicate n 0)
zeros_octets zero = below_nil (omega arith)
zeros_octets (suc n) = below_cons (omega arith) (zeros_octets n)

put_octets : (store : List ℕ) (j : ℕ) (slot : List ℕ) → Octets store → Octets slot → Octets (put_slot store j slot)
unfolding put_slot
put_octets store j slot o s = below_append (take (j * 1404) store ++ slot) (below_append (take (j * 1404) store) (below_take (j * 1404) store (omega arith) o) s) (below_drop (j * 1404 + 1404) store o)

slot_bytes_octets : (payload : List ℕ) (mark : ℕ) → mark < 256 → length payload ≤ 1400 → Octets payload → Octets (slot_bytes payload mark 0)
unfolding slot_bytes
slot_bytes_octets payload mark m h o =
    below_cons (omega arith) (below_cons (omega arith) (below_cons m (below_cons (omega arith) (below_append payload o (zeros_octets (1400 - length payload))))))

pub fill_octets : (store : List ℕ) (j : ℕ) (payload : List ℕ) (mark : ℕ) → mark < 256 → length payload ≤ 1400 → Octets store → Octets payload → Octets (fill_slot store j payload mark 0)
fill_octets store j payload mark m h o q = put_octets store j _ o (slot_bytes_octets payload mark m h q)

pub empty_octets : (store : List ℕ) (w n k : ℕ) → Octets store → Octets (empty_from store w n k)
unfolding empty_from
empty_octets store w n zero o = o
empty_octets store w n (suc k) o = empty_octets (empty_slot store (n % w)) w (n + 1) k (put_octets store _ _ o (zeros_octets 1404))

pub fresh_octets : (w : ℕ) (store : List ℕ) → Octets store → Octets (fresh w store).store
unfolding fresh
fresh_octets w store o = below_append (replicate (w * 1404) 0) (zeros_octets (w * 1404)) (below_drop (w * 1404) store o)

-- what lies in a slot
slot_octets : (store : List ℕ) (j : ℕ) → Octets store → Octets (slot_at store j)
unfolding slot_at
slot_octets store j o = below_take 1404 (drop (j * 1404) store) (omega arith) (below_drop (j * 1404) store o)

pub payload_octets : (store : List ℕ) (j : ℕ) → Octets store → Octets (slot_payload (slot_at store j))
unfolding slot_payload
payload_octets store j o = below_take (slot_length (slot_at store j)) (drop 4 (slot_at store j)) (omega arith) (below_drop 4 (slot_at store j) (slot_octets store j o))

pub flags_octet : (store : List ℕ) (j : ℕ) → Octets store → slot_flags (slot_at store j) < 256
flags_octet store j o = (slot_octets store j o).at 3

-- a sender
pub hold_octets : (v : Sender) (payload : List ℕ) → length payload ≤ 1400 → Octets v.store → Octets payload → Octets (hold v payload).store
unfolding hold
hold_octets v payload h o q = fill_octets v.store _ payload 1 (omega arith) h o q

pub mark_octets : (v : Sender) (n : ℕ) → Octets v.store → Octets (mark_retransmitted v n).store
unfolding mark_retransmitted
mark_octets v n o = let f = flags_octet v.store (slot_for v.window n) o in below_set v.store _ _ (omega arith) o

pub release_octets : (v : Sender) (until : ℕ) → Octets v.store → Octets (release v until).store
unfolding release
release_octets v until o = empty_octets v.store _ _ _ o

-- the calls
pub send_octets : (selective : Bool) (v : Sender) (payload out : List ℕ) → Octets v.store → Octets payload → Octets (send_chunk selective v payload out).after.store
send_octets selective v payload out o q = elim (send_outcome selective v payload out) [
  | send_refused s e ↦ rw e o
  | window_full n e ↦ rw e o
  | chunk_sent s ↦ rw s.held (hold_octets v payload s.short o q)
]

-- what holds of a state, and of whatever an accepted number makes of it, holds after an ACK
pub after_ack : {S : Type 0} (P : S → Type 0) (d : Result AckDecision Refusal) (v : S) (accept : ℕ → S) → P v → ((n : ℕ) → P (accept n)) → P (by_decision d v accept).after
unfolding by_decision
after_ack P (Ok (decision.Accept n base)) v accept before step = step n
after_ack P (Ok decision.NotAccepted) v accept before step = before
after_ack P (Err r) v accept before step = before

pub go_back_n_ack_octets : (v : Sender) (raw : List ℕ) → Octets v.store → Octets (go_back_n.handle_ack v raw).after.store
go_back_n_ack_octets v raw o = after_ack (λ u. Octets u.store) _ v (λ n. release v (n + 1)) o (λ n. release_octets v (n + 1) o)

pub selective_ack_octets : (v : Sender) (raw : List ℕ) → Octets v.store → Octets (selective_repeat.handle_ack v raw).after.store
unfolding selective_repeat.acknowledge_one
selective_ack_octets v raw o =
    after_ack (λ u. Octets u.store) _ v (selective_repeat.acknowledge_one v) o
    (λ n. release_octets (selective_repeat.mark_acknowledged v n) _ (below_set v.store _ 2 (omega arith) o))
