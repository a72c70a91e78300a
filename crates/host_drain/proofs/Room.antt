-- After a drain an output of window × 1,400 bytes has room for all that one packet delivers.
use Rattle.std.specs.Prelude.{None, Option, Some}
use Prim.Native.Nat.{ℕ, zero, suc, ◌+◌, ◌-◌, ◌*◌, ◌%◌, ◌≤◌}
use mathlib.Core.Path.{◌≡◌, refl}
use mathlib.Core.Bool.{Bool, true, false, cond, ◌&&◌}
use mathlib.Core.List.{List}
use native.Mathlib.Omega.{arith}
use borrow.Author.Tests.{le-ltb}
use lib.ListN.{length, length-append, length-take, length-drop}
use lib.Dec.{ltb, leb, eqb}
use Rattle.bounds.specs.Bounds.{header_size, max_payload}
use Rattle.store.specs.Slot.{slot_payload, slot_at}
use Rattle.store.specs.Numbers.{payloads_from}
use Rattle.store.proofs.Laws.{run_within}
use Rattle.receiver.specs.Receive.{Reception, no_room}
use Rattle.receiver.specs.Reply.{ack_missing, room_missing}
use Rattle.receiver.specs.declared.PacketReading.{PacketReading}
use Rattle.receiver.specs.declared.PacketReading.TheVariants as reading
use Rattle.selective_repeat.specs.Receiver as sr
use Rattle.selective_repeat.specs.declared.SelectiveRepeatDecision.{SelectiveRepeatDecision}

ack_room : (r : Option ℕ) (ack : List ℕ) → header_size ≤ length ack → ack_missing r ack ≡ false
ack_room (Some n) ack h = le-ltb (length ack) header_size h
ack_room None ack h = refl

and_false : (b : Bool) → (b && false) ≡ false
and_false true = refl
and_false false = refl

-- from the fill mark 0
pub room_found : {R : Type 0} (x : Reception R) (output ack : List ℕ) → x.filled ≡ 0 → length x.delivered ≤ length output → header_size ≤ length ack → no_room x output ack ≡ false
unfolding room_missing
room_found x output ack mark enough h =
    rw (mark, le-ltb (length output - 0) (length x.delivered) (omega arith), and_false x.decision.deliver) (ack_room x.decision.reply ack h)

slot_short : (store : List ℕ) (i : ℕ) → length (slot_payload (slot_at store i)) ≤ max_payload
unfolding slot_payload slot_at
slot_short store i = simp (length-take, length-drop) (omega arith)

payloads_short : (store : List ℕ) (w n k : ℕ) → length (payloads_from store w n k) ≤ k * max_payload
unfolding payloads_from
payloads_short store w n zero = omega arith
payloads_short store w n (suc k) =
    let first = slot_short store (n % w) in
    let rest = payloads_short store w (n + 1) k in
    rw (length-append (slot_payload (slot_at store (n % w))) (payloads_from store w (n + 1) k)) (omega (arith, first, rest))

-- one packet releases fewer held payloads than the window
low_cases : (k : ℕ) (x y : SelectiveRepeatDecision) (b : Bool) → sr.released x.change ≤ k → sr.released y.change ≤ k → sr.released (cond b x y).change ≤ k
low_cases k x y true e f = e
low_cases k x y false e f = f

data_low : (v : sr.Receiver) (n : ℕ) → sr.released (sr.data_decision v n).change ≤ v.state.window_size - 1
unfolding sr.data_decision
data_low v n =
    let w = v.state.window_size in
    let b = v.state.recv_base in
    let k = w - 1 in
    let none : 0 ≤ k = omega arith in
    low_cases k (sr.in_order v n) _ (eqb n b) (run_within 1 v.store w (b + 1) k)
    (low_cases k (cond (sr.held v n) (sr.duplicate v n) (sr.out_of_order v n)) _ (ltb b n && ltb n (b + w)) (low_cases k (sr.duplicate v n) (sr.out_of_order v n) (sr.held v n) none none)
    (low_cases k (sr.duplicate v n) (sr.unanswered v.state) (leb (b - w) n && ltb n b) none none))

released_low : (v : sr.Receiver) (h : PacketReading) → sr.released (sr.decision v h).change ≤ v.state.window_size - 1
unfolding sr.decision
released_low v (reading.Data n) = data_low (sr.counted v) n
released_low v (reading.Fin n) = omega arith
released_low v reading.Ack = omega arith
released_low v reading.Corrupted = omega arith

pub delivered_short : (v : sr.Receiver) (h : PacketReading) (payload : List ℕ) → 1 ≤ v.state.window_size → length payload ≤ max_payload
    → length (sr.delivered_bytes v payload (sr.decision v h).change) ≤ v.state.window_size * max_payload
unfolding sr.delivered_bytes
delivered_short v h payload some short =
    let k = sr.released (sr.decision v h).change in
    let low = released_low v h in
    let held = payloads_short v.store v.state.window_size (v.state.recv_base + 1) k in
    rw (length-append payload (payloads_from v.store v.state.window_size (v.state.recv_base + 1) k)) (omega (arith, low, held, some, short))

-- Selective Repeat; the other receivers deliver one payload at most
pub selective_repeat_room : (v : sr.Receiver) (h : PacketReading) (payload output ack : List ℕ) → v.state.filled ≡ 0 → 1 ≤ v.state.window_size → length payload ≤ max_payload
    → v.state.window_size * max_payload ≤ length output → header_size ≤ length ack → no_room (sr.reception v h payload output) output ack ≡ false
selective_repeat_room v h payload output ack mark some short enough a =
    let most = delivered_short v h payload some short in
    room_found (sr.reception v h payload output) output ack mark (omega (arith, most, enough)) a
