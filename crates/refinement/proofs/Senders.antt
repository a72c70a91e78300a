-- What a sender does to its window and store is what the machine does to its numbers, marks and chunks.
use Prim.Native.Nat.{ℕ, ◌+◌, ◌-◌, ◌*◌, ◌%◌, ◌≤◌, ◌<◌}
use mathlib.Core.Path.{◌≡◌, refl, sym, ap, ◌∙◌}
use mathlib.Core.Bool.{Bool}
use mathlib.Core.List.{List, [], ◌∷◌, ◌++◌}
use native.Mathlib.Omega.{arith}
use native.Mathlib.Decide.{ℕ_discrete}
use lib.ListN.{length, set, drop, length-append, length-drop, get_or-append}
use lib.Seq.{get_or_at, get_or-drop}
use lib.Dec.{eqb}
use Rattle.protocol.specs.Machine.{Chunk, SenderState, send, move_base}
use Rattle.store.specs.Slot.{slot_payload, slot_bytes, fill_slot}
use Rattle.store.proofs.Laws.{slot_in, filled_payload, filled_mark}
use Rattle.window.specs.State.{outstanding}
use Rattle.window.specs.Slots.{Sender, hold, mark_retransmitted, empty_from, release}
use Rattle.refinement.specs.Follows.{acknowledged_in, slots_read, sender_of}
use Rattle.refinement.specs.Good.{Good}
use Rattle.refinement.proofs.Rows.{read_length, read_at, read_is}
use Rattle.refinement.proofs.Writes.{filled_same, filled_other, byte_kept, mark_kept, payload_kept, released_kept}
use Rattle.refinement.proofs.Good.{SoundWith, good_sound}

pub state_is : {b b' : ℕ} {c c' : List Chunk} {a a' : List Bool} → b ≡ b' → c ≡ c' → a ≡ a'
    → ◌≡◌ {A = SenderState} (record { base = b; chunks = c; acknowledged = a }) (record { base = b'; chunks = c'; acknowledged = a' })
state_is e f g = rw (e, f, g)

-- the slots read after one more was filled, after flags were set, after those at the low end were emptied
module _ {A : Type 0} (reading : List ℕ → A) (store : List ℕ) (w base count : ℕ) (positive : 0 < w) (room : w * 1404 ≤ length store) where
  filled_read : (payload : List ℕ) → length payload ≤ 1400 → count < w
      → slots_read reading (fill_slot store ((base + count) % w) payload 1 0) w base (count + 1) ≡ slots_read reading store w base count ++ (reading (slot_bytes payload 1 0) ∷ [])
  filled_read payload short free =
      let before = slots_read reading store w base count in
      let n = read_length reading store w base count in
      read_is reading (fill_slot store ((base + count) % w) payload 1 0) w base (count + 1) (reading []) (before ++ (reading (slot_bytes payload 1 0) ∷ []))
      (length-append before (reading (slot_bytes payload 1 0) ∷ []) ∙ omega arith)
      (λ i h. elim (ℕ_discrete i count) [
        | yes e ↦ rw e (ap reading (filled_same store w base count payload 1 positive room short) ∙ sym (get_or_at before (reading (slot_bytes payload 1 0)) [] (reading []) count n))
        | no e ↦ let l : i < count = omega arith in
            ap reading (filled_other store w base count payload 1 positive room short i (omega arith) free e) ∙ sym (read_at reading store w base count (reading []) i l)
            ∙ sym (get_or-append before (reading (slot_bytes payload 1 0) ∷ []) (reading []) i (rw n l))
      ])

  pub byte_read : (b : ℕ) → b < 1404 → ((slot : List ℕ) (x : ℕ) → reading (set slot b x) ≡ reading slot) → (j x : ℕ)
      → slots_read reading (set store (j * 1404 + b) x) w base count ≡ slots_read reading store w base count
  byte_read b l same j x =
      read_is reading (set store (j * 1404 + b) x) w base count (reading []) (slots_read reading store w base count) (read_length reading store w base count)
      (λ i h. byte_kept reading b l same store j x ((base + i) % w) (slot_in store (base + i) w positive room) ∙ sym (read_at reading store w base count (reading []) i h))

  released_read : (j : ℕ) → count ≤ w → j ≤ count → slots_read reading (empty_from store w base j) w (base + j) (count - j) ≡ drop j (slots_read reading store w base count)
  released_read j few h =
      let before = slots_read reading store w base count in
      let n = read_length reading store w base count in
      read_is reading (empty_from store w base j) w (base + j) (count - j) (reading []) (drop j before) (length-drop j before ∙ ap (λ (m : ℕ). m - j) n)
      (λ i k. ap reading (released_kept w positive store base j i room (omega arith)) ∙ sym (read_at reading store w base count (reading []) (j + i) (omega arith))
      ∙ sym (get_or-drop j before i (reading [])))

-- the same, by the numbers base, next and until
module _ {A : Type 0} (reading : List ℕ → A) (store : List ℕ) (w base next : ℕ) (positive : 0 < w) (room : w * 1404 ≤ length store) (ordered : base ≤ next) where
  held_read : (payload : List ℕ) → length payload ≤ 1400 → next - base < w
      → slots_read reading (fill_slot store (next % w) payload 1 0) w base (next + 1 - base) ≡ slots_read reading store w base (next - base) ++ (reading (slot_bytes payload 1 0) ∷ [])
  held_read payload short free =
      let n : next ≡ base + (next - base) = omega arith in
      let more : next + 1 - base ≡ next - base + 1 = omega arith in
      ap (slots_read reading (fill_slot store (next % w) payload 1 0) w base) more
      ∙ ap (λ (m : ℕ). slots_read reading (fill_slot store (m % w) payload 1 0) w base (next - base + 1)) n
      ∙ filled_read reading store w base (next - base) positive room payload short free

  moved_read : (until : ℕ) → next - base ≤ w → base ≤ until → until ≤ next
      → slots_read reading (empty_from store w base (until - base)) w until (next - until) ≡ drop (until - base) (slots_read reading store w base (next - base))
  moved_read until few a b =
      let j = until - base in
      let u : until ≡ base + j = omega arith in
      let fewer : next - until ≡ next - base - j = omega arith in
      ap (slots_read reading (empty_from store w base j) w until) fewer
      ∙ ap (λ (m : ℕ). slots_read reading (empty_from store w base j) w m (next - base - j)) u
      ∙ released_read reading store w base (next - base) positive room j few (omega arith)

-- a chunk taken
pub hold_follows : (selective : Bool) (v : Sender) (payload : List ℕ) → Good selective v → outstanding v.window < v.window.window_size → length payload ≤ 1400
    → sender_of (hold v payload) ≡ send (sender_of v) payload
unfolding hold send
hold_follows selective v payload g free short =
    let s = good_sound selective v g in
    state_is refl
    (held_read slot_payload v.store _ _ _ s.positive s.room s.ordered payload short free ∙ rw (filled_payload payload 1 0))
    (held_read acknowledged_in v.store _ _ _ s.positive s.room s.ordered payload short free ∙ rw (filled_mark payload 1 0))

-- a number marked as sent again
pub mark_follows : (selective : Bool) (v : Sender) (n : ℕ) → Good selective v → sender_of (mark_retransmitted v n) ≡ sender_of v
unfolding mark_retransmitted
mark_follows selective v n g =
    let s = good_sound selective v g in
    state_is refl (byte_read slot_payload v.store _ _ _ s.positive s.room 3 (omega arith) (payload_kept 3 (omega arith) (omega arith)) _ _)
    (byte_read acknowledged_in v.store _ _ _ s.positive s.room 3 (omega arith) (λ slot flags. ap (λ (m : ℕ). eqb m 2) (mark_kept slot flags)) _ _)

-- the window moved
pub release_follows : (may : ℕ → Bool) (v : Sender) (until : ℕ) → SoundWith may v → v.window.send_base ≤ until → until ≤ v.window.next_seq_num
    → sender_of (release v until) ≡ move_base (sender_of v) (until - v.window.send_base)
unfolding release
release_follows may v until s a b =
    let u : until ≡ v.window.send_base + (until - v.window.send_base) = omega arith in
    state_is u (moved_read slot_payload v.store _ _ _ s.positive s.room s.ordered until s.few a b)
    (moved_read acknowledged_in v.store _ _ _ s.positive s.room s.ordered until s.few a b)
