-- What `is_retransmitted` reads is what was done: a chunk that is sent isn't marked as sent again, a number that a timeout
-- sends again is.
use Prim.Native.Nat.{ℕ, ◌+◌, ◌*◌, ◌/◌, ◌%◌, ◌≤◌, ◌<◌}
use mathlib.Core.Path.{◌≡◌}
use mathlib.Core.Bool.{true}
use mathlib.Core.List.{List}
use native.Mathlib.Omega.{arith}
use borrow.Author.Tests.{le-leb, lt-ltb}
use lib.ListN.{length}
use lib.Seq.{get_or-set_same}
use Rattle.bounds.specs.Bounds.{max_payload, slot_size}
use Rattle.store.specs.Slot.{slot_at, slot_flags, slot_bytes}
use Rattle.store.proofs.Laws.{slot_in, slot_length_lem, slot_bytes_length, put_same, set_same}
use Rattle.window.specs.Slots.{Sender, hold, mark_retransmitted}
use Rattle.window.specs.Acknowledgement.{is_in_window}
use Rattle.host_answer.specs.Answer.{packed, done_status, test_answer}
use Rattle.host_ends.specs.Sender.{sent_again}

module _ (v : Sender) (positive : 0 < v.window.window_size) (room : v.window.window_size * slot_size ≤ length v.store) where
  pub sent_once : (payload : List ℕ) → v.window.send_base ≤ v.window.next_seq_num → length payload ≤ max_payload
      → sent_again (hold v payload) v.window.next_seq_num ≡ packed done_status 0
  unfolding sent_again hold test_answer slot_bytes
  sent_once payload ordered short =
      let n = v.window.next_seq_num in
      let j = n % v.window.window_size in
      let here = slot_in v.store n v.window.window_size positive room in
      rw (le-leb _ _ ordered, lt-ltb n (n + 1) (omega arith), put_same v.store j (slot_bytes payload 1 0) here (slot_bytes_length payload 1 0 short))

  pub sent_again_lem : (n : ℕ) → is_in_window v.window n ≡ true → sent_again (mark_retransmitted v n) n ≡ packed done_status 1
  unfolding sent_again mark_retransmitted test_answer
  sent_again_lem n within =
      let j = n % v.window.window_size in
      let slot = slot_at v.store j in
      let flags = slot_flags slot / 2 * 2 + 1 in
      let long = slot_length_lem v.store j (slot_in v.store n v.window.window_size positive room) in
      let odd : flags % 2 ≡ 1 = omega arith in
      rw (within, set_same v.store j 3 flags (omega arith), get_or-set_same slot 3 flags 0 (omega (arith, long)), odd)
