-- A sender's window: what is known of one that isn't broken.
use Rattle.std.specs.Prelude.{None, Some}
use Prim.Native.Nat.{ℕ, ◌+◌, ◌-◌, ◌*◌, ◌≤◌, ◌<◌}
use mathlib.Core.Path.{◌≡◌, sym, ap, ◌∙◌}
use mathlib.Core.Bool.{Bool, true, false, cond, and-eq-true_iff}
use mathlib.Core.List.{List}
use native.Mathlib.Omega.{arith}
use borrow.Author.Tests.{ltb-true, leb-true, lt-leb}
use lib.ListN.{length}
use Rattle.bounds.specs.Bounds.{header_size, max_payload, max_datagram, seq_num_limit, slot_size, count_limit}
use Rattle.refusal.specs.Clauses.{any_of}
use Rattle.packet.proofs.Laws.{made_length}
use Rattle.store.specs.Slot.{slot_at, slot_length, slot_payload}
use Rattle.store.proofs.Laws.{slot_in, slot_payload_length}
use Rattle.window.specs.State.{numbers_broken, state_broken, counts_broken}
use Rattle.window.specs.Slots as slots
use Rattle.window.specs.Slots.{slot_for, packet_for, datagram_for}
use Rattle.window.specs.Acknowledgement.{is_in_window}
use Rattle.window.specs.declared.SendWindow.{SendWindow}
use Rattle.window.proofs.Laws.{sound, numbers, sound_numbers, numbers_not_broken, slot_low}
use Rattle.delivery.specs.Calls.{number_of}
use Rattle.delivery.proofs.Laws.{made_number}
use Rattle.session.specs.declared.Sender.{Sender}
use Rattle.session.specs.Sending.{SenderEnd, window_of, window_end, can_send, has_outstanding, oldest_outstanding}
use Rattle.session.specs.GoodSender.{is_selective, sender_broken, SenderUnbroken, GoodSender, CanSendChunk, Within, CanWriteDatagram}

-- what the calls below the entry points ask of a state whose 9 is false
pub unbroken_numbers : (v : SenderEnd) → sender_broken v ≡ false → numbers_broken (window_of v.sender) ≡ false
unbroken_numbers v e = numbers_not_broken _ (sound_numbers (sound (is_selective v.sender.state) (window_of v.sender) v.store e))

pub window_ordered : (s : SendWindow) {w : SendWindow} → numbers_broken s ≡ false → w ≡ s → w.send_base ≤ w.next_seq_num
window_ordered s h e = rw e (numbers s h).ordered

pub oldest_some : (s : Sender) {n : ℕ} {b : Bool} → n ≡ (window_of s).send_base → b ≡ has_outstanding s → b ≡ true → Some n ≡ oldest_outstanding s
oldest_some s e f t = ap Some e ∙ ap (λ (b : Bool). cond b (Some (window_of s).send_base) None) (sym t ∙ f)

pub oldest_none : (s : Sender) {b : Bool} → b ≡ has_outstanding s → b ≡ false → None ≡ oldest_outstanding s
oldest_none s f t = ap (λ (b : Bool). cond b (Some (window_of s).send_base) None) (sym t ∙ f)

-- an outstanding number of such a state
pub record Outstanding (s : SendWindow) (store : List ℕ) (n : ℕ) : Type 0 where
  pub numbers : numbers_broken s ≡ false
  pub positive : 0 < s.window_size
  pub room : s.window_size * slot_size ≤ length store
  pub from : s.send_base ≤ n
  pub low : n < seq_num_limit

pub outstanding_number : (selective : Bool) (s : SendWindow) (store : List ℕ) (n : ℕ) → state_broken selective s store ≡ false → is_in_window s n ≡ true → Outstanding s store n
outstanding_number selective s store n e i =
    let h = sound selective s store e in
    let within = (and-eq-true_iff _ _).0 i in
    let below = ltb-true n s.next_seq_num within.1 in
    let low = h.low in
    record {
      numbers = numbers_not_broken s (sound_numbers h);
      positive = h.positive;
      room = h.room;
      from = leb-true s.send_base n within.0;
      low = omega arith;
    }

-- and its slot
slot_within : (selective : Bool) (s : SendWindow) (store : List ℕ) (n : ℕ) → state_broken selective s store ≡ false → Within s n 1 → slot_length (slot_at store (slot_for s n)) ≤ max_payload
slot_within selective s store n e w =
    let h = sound selective s store e in
    let from = w.from in
    let below = w.below in
    let few = h.few in
    let is : s.send_base + (n - s.send_base) ≡ n = omega arith in
    rw is at (slot_low selective s store h (n - s.send_base) (omega arith))

-- its datagram has its number, and is no longer than a datagram may be
pub datagram_number : (v : slots.Sender) (n : ℕ) → number_of (datagram_for v n) ≡ n
unfolding datagram_for
datagram_number v n = made_number (packet_for v n) (slot_payload (slot_at v.store (slot_for v.window n)))

pub datagram_short : (v : SenderEnd) (n : ℕ) → sender_broken v ≡ false → Within (window_of v.sender) n 1 → length (datagram_for (window_end v) n) ≤ max_datagram
unfolding datagram_for
datagram_short v n e w =
    let s = sound (is_selective v.sender.state) (window_of v.sender) v.store e in
    let low = slot_within (is_selective v.sender.state) (window_of v.sender) v.store n e w in
    let size = made_length (packet_for (window_end v) n) (slot_payload (slot_at v.store (slot_for (window_of v.sender) n))) in
    let short = slot_payload_length v.store (slot_for (window_of v.sender) n) (slot_in v.store n (window_of v.sender).window_size s.positive s.room) low in
    omega (arith, low, size, short)

-- such a number's datagram, of the window w that the sender has
pub can_write : (v : SenderEnd) (n : ℕ) (out : List ℕ) {w : SendWindow} → CanWriteDatagram v n out → w ≡ window_of v.sender
    → ((0 < w.window_size) × (w.window_size * slot_size ≤ length v.store))
    × ((slot_length (slot_at v.store (slot_for w n)) ≤ max_payload) × (header_size + slot_length (slot_at v.store (slot_for w n)) ≤ length out))
can_write v n out h e =
    let s = sound (is_selective v.sender.state) (window_of v.sender) v.store h.state in
    let low = slot_within (is_selective v.sender.state) (window_of v.sender) v.store n h.state h.within in
    let room = h.room in
    rw e ((s.positive, s.room), (low, omega arith))

-- ---- good states
counts_not_broken : (s : SendWindow) → s.total_sent < count_limit → s.retransmissions < count_limit → counts_broken s ≡ false
unfolding counts_broken any_of
counts_not_broken s h k = rw (lt-leb count_limit s.total_sent h, lt-leb count_limit s.retransmissions k)

module _ {v : SenderEnd} {k : ℕ} (g : GoodSender v k) where
  pub good_unbroken : k < count_limit → SenderUnbroken v
  good_unbroken few =
      let a = g.sent in
      let b = g.again in
      record { state = g.state.state; clean = g.state.clean; counts = counts_not_broken (window_of v.sender) (omega arith) (omega arith) }

  pub good_numbers : numbers_broken (window_of v.sender) ≡ false
  good_numbers = unbroken_numbers v g.state.state

  pub good_more : (n : ℕ) → k ≤ n → GoodSender v n
  good_more n h =
      let a = g.sent in
      let b = g.again in
      record { state = g.state; sent = omega arith; again = omega arith }

  -- what the calls ask, in one step
  pub good_can_send : (payload out : List ℕ) → k < count_limit → can_send v.sender ≡ true → (window_of v.sender).next_seq_num < seq_num_limit → length payload ≤ max_payload
      → header_size + length payload ≤ length out → CanSendChunk v payload out
  good_can_send payload out few free low short fits = record { unbroken = good_unbroken few; free = free; low = low; short = short; fits = fits }

  pub good_can_write : (n : ℕ) (out : List ℕ) → Within (window_of v.sender) n 1 → max_datagram ≤ length out → CanWriteDatagram v n out
  good_can_write n out within room = record { state = g.state.state; within = within; room = room }

-- one of several numbers
pub within_one : (s : SendWindow) (first count i : ℕ) → Within s first count → i < count → Within s (first + i) 1
within_one s first count i w h =
    let from = w.from in
    let below = w.below in
    record { from = omega arith; below = omega arith }
