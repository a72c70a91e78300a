-- What a sender does leaves a state that isn't broken.
use Prim.Native.Nat.{ℕ, zero, suc, ◌+◌, ◌-◌, ◌*◌, ◌%◌, ◌≤◌, ◌<◌}
use mathlib.Core.Path.{◌≡◌, refl, sym, ap, ◌∙◌}
use mathlib.Core.Bool.{Bool, true, false, cond, not, ◌||◌, ◌&&◌, and-true, and-false}
use mathlib.Core.List.{List, ◌++◌}
use native.Mathlib.Nat.{mod-lt}
use native.Mathlib.Omega.{arith}
use native.Mathlib.Decide.{ℕ_discrete, dec_lt}
use borrow.Author.Tests.{lt-ltb, le-ltb, ltb-false, eqb-true, not-false}
use lib.ListN.{length, get_or, drop, replicate, length-set, length-append, length-replicate, length-drop, get_or-replicate, get_or-append}
use lib.Dec.{ltb, eqb}
use Rattle.bounds.specs.Bounds.{max_payload, slot_size, max_window, seq_num_limit}
use Rattle.refusal.proofs.Laws.{or_false, none_of}
use Rattle.store.specs.Slot.{slot_at, slot_length, slot_mark, fill_slot}
use Rattle.store.specs.Sound.{any_below, is_filled, out_of_bounds, sender_slot_broken, slot_of, sender_slots_broken}
use Rattle.store.proofs.Laws.{slot_in, slot_byte, filled_length, filled_mark, none_found}
use Rattle.window.specs.State.{window_broken, store_short, outstanding}
use Rattle.window.specs.Slots.{Sender, slot_for, fresh, hold, mark_retransmitted, empty_from, release}
use Rattle.window.proofs.Laws.{sound, not_broken}
use Rattle.refinement.specs.Good.{Good}
use Rattle.refinement.proofs.Writes.{filled_room, filled_same, filled_other, byte_kept, length_kept, mark_kept, emptied_length, released_kept, released_empty}

-- a test that is false of every number below n
pub none_below : (n : ℕ) (test : ℕ → Bool) → ((k : ℕ) → k < n → test k ≡ false) → any_below n test ≡ false
unfolding any_below
none_below zero test h = refl
none_below (suc n) test h = rw (h n (omega arith)) (none_below n test (λ k l. h k (omega arith)))

-- the test on a slot, by whether its number is outstanding and may be acknowledged
abbrev pub slot_broken : Bool → Bool → List ℕ → Bool
slot_broken outstanding may slot = sender_slot_broken outstanding may (slot_length slot) (slot_mark slot)

-- a slot just filled, an empty slot
new_slot : (may : Bool) (n mark : ℕ) → n ≤ max_payload → mark ≡ 1 → sender_slot_broken true may n mark ≡ false
unfolding sender_slot_broken
new_slot may n mark h e = rw (e, le-ltb max_payload n h)

empty_slot : (may : Bool) (n mark : ℕ) → n ≡ 0 → mark ≡ 0 → sender_slot_broken false may n mark ≡ false
unfolding sender_slot_broken
empty_slot may n mark e f = rw (e, f)

pub zeros_length : slot_length (replicate slot_size 0) ≡ 0
zeros_length = rw (get_or-replicate {A = ℕ} slot_size 0 0 0 (omega arith), get_or-replicate {A = ℕ} slot_size 1 0 0 (omega arith))

pub zeros_mark : slot_mark (replicate slot_size 0) ≡ 0
zeros_mark = get_or-replicate {A = ℕ} slot_size 2 0 0 (omega arith)

zeros_slot : (may : Bool) → slot_broken false may (replicate slot_size 0) ≡ false
zeros_slot may = empty_slot may _ _ zeros_length zeros_mark

-- whether a slot may be acknowledged matters only to a slot that is
may_not : (outstanding may : Bool) (n mark : ℕ) → eqb mark 2 ≡ false → sender_slot_broken outstanding may n mark ≡ false → sender_slot_broken outstanding false n mark ≡ false
unfolding sender_slot_broken
may_not outstanding may n mark e h = rw e (rw e at h)

without_last : (x t : Bool) → (x || (t && true)) ≡ false → (x || (t && false)) ≡ false
without_last true t h = h
without_last false true h = refl
without_last false false h = refl

may_more : (outstanding a b : Bool) (n mark : ℕ) → sender_slot_broken outstanding (a && b) n mark ≡ false → sender_slot_broken outstanding a n mark ≡ false
unfolding sender_slot_broken
may_more outstanding false b n mark h = h
may_more outstanding true true n mark h = h
may_more outstanding true false n mark h = without_last (out_of_bounds n mark || cond outstanding (not (is_filled mark)) (is_filled mark)) (eqb mark 2) h

-- a slot that may not be acknowledged, or isn't outstanding, isn't acknowledged
pub not_two : (outstanding : Bool) (n mark : ℕ) → sender_slot_broken outstanding false n mark ≡ false → eqb mark 2 ≡ false
unfolding sender_slot_broken
not_two outstanding n mark h = sym (and-true (eqb mark 2)) ∙ (or_false (out_of_bounds n mark || cond outstanding (not (is_filled mark)) (is_filled mark)) (eqb mark 2 && true) h).1

pub empty_not_two : (may : Bool) (n mark : ℕ) → sender_slot_broken false may n mark ≡ false → eqb mark 2 ≡ false
unfolding sender_slot_broken
empty_not_two may n mark h =
    let e : is_filled mark ≡ false = (or_false (out_of_bounds n mark) (is_filled mark) (or_false (out_of_bounds n mark || is_filled mark) (eqb mark 2 && not may) h).0).1 in
    let z : mark ≡ 0 = eqb-true mark 0 (not-false (eqb mark 0) e) in
    rw z

pub slot_short : (outstanding may : Bool) (n mark : ℕ) → sender_slot_broken outstanding may n mark ≡ false → n ≤ max_payload
unfolding sender_slot_broken
slot_short outstanding may n mark h =
    ltb-false max_payload n (or_false (ltb max_payload n) (ltb 2 mark) (or_false (out_of_bounds n mark) _ (or_false (out_of_bounds n mark || cond outstanding (not (is_filled mark)) (is_filled mark)) _ h).0).0).0

-- a state that isn't broken, with the numbers base + k that may be acknowledged
pub record SoundWith (may : ℕ → Bool) (v : Sender) : Type 0 where
  pub positive : 0 < v.window.window_size
  pub small : v.window.window_size ≤ max_window
  pub room : v.window.window_size * slot_size ≤ length v.store
  pub ordered : v.window.send_base ≤ v.window.next_seq_num
  pub few : outstanding v.window ≤ v.window.window_size
  pub low : v.window.next_seq_num ≤ seq_num_limit
  pub slots : (k : ℕ) → k < v.window.window_size → slot_broken (ltb k (outstanding v.window)) (may k) (slot_of v.store v.window.window_size v.window.send_base k) ≡ false

-- above base, in Selective Repeat only
abbrev pub above_base : Bool → ℕ → Bool
above_base selective k = selective && ltb 0 k

pub good_sound : (selective : Bool) (v : Sender) → Good selective v → SoundWith (above_base selective) v
unfolding sender_slots_broken
good_sound selective v g =
    let s = sound selective v.window v.store g in
    record {
      positive = s.positive;
      small = s.small;
      room = s.room;
      ordered = s.ordered;
      few = s.few;
      low = s.low;
      slots = λ k h. none_found v.window.window_size k _ h s.slots;
    }

pub sound_good : (selective : Bool) (v : Sender) → SoundWith (above_base selective) v → Good selective v
unfolding sender_slots_broken
sound_good selective v s =
    not_broken selective v.window v.store
    (record {
      positive = s.positive;
      small = s.small;
      room = s.room;
      ordered = s.ordered;
      few = s.few;
      low = s.low;
      slots = none_below v.window.window_size _ s.slots;
    })

-- base may be acknowledged too, until the window moves
pub base_too : (selective : Bool) (v : Sender) → SoundWith (above_base selective) v → SoundWith (λ k. selective) v
base_too selective v s =
    record {
      positive = s.positive;
      small = s.small;
      room = s.room;
      ordered = s.ordered;
      few = s.few;
      low = s.low;
      slots = λ k h. may_more _ selective (ltb 0 k) _ _ (s.slots k h);
    }

-- a test on a slot with the same content
pub same_broken : {o o' may may' : Bool} {a b : List ℕ} → o ≡ o' → may ≡ may' → a ≡ b → slot_broken o' may' b ≡ false → slot_broken o may a ≡ false
same_broken p q e h = rw (p, q, e) h

-- fewer or more are outstanding
same_side : (a b c d : ℕ) → (a < b → c < d) → (b ≤ a → d ≤ c) → ltb a b ≡ ltb c d
same_side a b c d f g = elim (dec_lt a b) [
  | yes h ↦ lt-ltb a b h ∙ sym (lt-ltb c d (f h))
  | no h ↦ let h' : b ≤ a = omega arith in le-ltb a b h' ∙ sym (le-ltb c d (g h'))
]

-- making
pub fresh_byte : (store : List ℕ) (w k i : ℕ) → 0 < w → i < slot_size → get_or (slot_of (replicate (w * slot_size) 0 ++ drop (w * slot_size) store) w 0 k) i 0 ≡ 0
fresh_byte store w k i p h =
    let front = replicate {A = ℕ} (w * slot_size) 0 in
    let n : length front ≡ w * slot_size = length-replicate {A = ℕ} (w * slot_size) 0 in
    let l : (0 + k) % w * slot_size + i < w * slot_size = omega (arith, mod-lt (0 + k) p) in
    slot_byte (front ++ drop (w * slot_size) store) ((0 + k) % w) i h ∙ get_or-append front (drop (w * slot_size) store) 0 ((0 + k) % w * slot_size + i) (rw n l)
    ∙ get_or-replicate {A = ℕ} (w * slot_size) ((0 + k) % w * slot_size + i) 0 0 l

pub fresh_length : (store : List ℕ) (w k : ℕ) → 0 < w → slot_length (slot_of (replicate (w * slot_size) 0 ++ drop (w * slot_size) store) w 0 k) ≡ 0
fresh_length store w k p = rw (fresh_byte store w k 0 p (omega arith), fresh_byte store w k 1 p (omega arith))

fresh_slots : (selective : Bool) (store : List ℕ) (w k : ℕ) → 0 < w → slot_broken (ltb k 0) (above_base selective k) (slot_of (replicate (w * slot_size) 0 ++ drop (w * slot_size) store) w 0 k) ≡ false
fresh_slots selective store w k p = rw (le-ltb k 0 (omega arith)) (empty_slot (above_base selective k) _ _ (fresh_length store w k p) (fresh_byte store w k 2 p (omega arith)))

pub fresh_good : (selective : Bool) (w : ℕ) (store : List ℕ) → window_broken w ≡ false → store_short store w ≡ false → Good selective (fresh w store)
unfolding fresh window_broken store_short
fresh_good selective w store e f =
    let l = ltb-false w 1 (none_of _ e).0 in
    let r = ltb-false (length store) (w * slot_size) f in
    sound_good selective (fresh w store)
    (record {
      positive = omega arith;
      small = ltb-false max_window w (none_of _ e).1.0;
      room = simp (length-append, length-replicate, length-drop) (omega arith);
      ordered = omega arith;
      few = omega arith;
      low = omega arith;
      slots = λ k h. fresh_slots selective store w k (omega arith);
    })

-- a chunk taken
filled_slots : (may : ℕ → Bool) (store : List ℕ) (w base count : ℕ) (payload : List ℕ) → 0 < w → w * slot_size ≤ length store → count < w → length payload ≤ max_payload
    → ((k : ℕ) → k < w → slot_broken (ltb k count) (may k) (slot_of store w base k) ≡ false)
    → (k : ℕ) → k < w → slot_broken (ltb k (count + 1)) (may k) (slot_of (fill_slot store ((base + count) % w) payload 1 0) w base k) ≡ false
filled_slots may store w base count payload p r l short before k h = elim (ℕ_discrete k count) [
  | yes e ↦ rw e (same_broken (lt-ltb count (count + 1) (omega arith)) refl (filled_same store w base count payload 1 p r short)
      (new_slot (may count) _ _ (rw (filled_length payload 1 0) short) (filled_mark payload 1 0)))
  | no e ↦ same_broken (same_side k (count + 1) k count (λ x. omega arith) (λ x. omega arith)) refl (filled_other store w base count payload 1 p r short k h l e) (before k h)
]

pub hold_good : (selective : Bool) (v : Sender) (payload : List ℕ) → Good selective v → outstanding v.window < v.window.window_size
    → v.window.next_seq_num < seq_num_limit → length payload ≤ max_payload → Good selective (hold v payload)
unfolding hold
hold_good selective v payload g free low short =
    let s = good_sound selective v g in
    let w = v.window.window_size in
    let base = v.window.send_base in
    let count = outstanding v.window in
    let l = s.low in
    let o = s.ordered in
    let n : v.window.next_seq_num ≡ base + count = omega arith in
    let more : base + count + 1 - base ≡ count + 1 = omega arith in
    sound_good selective (hold v payload)
    (record {
      positive = s.positive;
      small = s.small;
      room = rw n (filled_room v.store w base count payload 1 s.positive s.room short);
      ordered = omega arith;
      few = omega arith;
      low = omega arith;
      slots = λ k h. rw (n, more) (filled_slots (above_base selective) v.store w base count payload s.positive s.room free short s.slots k h);
    })

-- a number marked as sent again
pub mark_good : (selective : Bool) (v : Sender) (n : ℕ) → Good selective v → Good selective (mark_retransmitted v n)
unfolding mark_retransmitted
mark_good selective v n g =
    let s = good_sound selective v g in
    sound_good selective (mark_retransmitted v n)
    (record {
      positive = s.positive;
      small = s.small;
      room = rw length-set s.room;
      ordered = s.ordered;
      few = s.few;
      low = s.low;
      slots = λ k h.
          byte_kept (slot_broken _ (above_base selective k)) 3 (omega arith) (λ slot flags. rw (length_kept 3 (omega arith) slot flags, mark_kept slot flags)) v.store _ _ _
          (slot_in v.store (v.window.send_base + k) v.window.window_size s.positive s.room) ∙ s.slots k h;
    })

-- the numbers below base + j released, j at most as many as are outstanding
released_slots : (selective : Bool) (store : List ℕ) (w base count j : ℕ) → 0 < w → w * slot_size ≤ length store → count ≤ w → j ≤ count
    → (j < count → eqb (slot_mark (slot_of store w base j)) 2 ≡ false)
    → ((k : ℕ) → k < w → slot_broken (ltb k count) selective (slot_of store w base k) ≡ false)
    → (k : ℕ) → k < w → slot_broken (ltb k (count - j)) (above_base selective k) (slot_of (empty_from store w base j) w (base + j) k) ≡ false
released_slots selective store w base count j p r few le first before k h = elim (dec_lt (j + k) w) [
  | yes l ↦ same_broken (same_side k (count - j) (j + k) count (λ x. omega arith) (λ x. omega arith)) refl (released_kept w p store base j k r l) (inside k (before (j + k) l))
  | no l ↦ same_broken (le-ltb k (count - j) (omega arith)) refl (released_empty w p store base j k r (omega arith) h (omega arith)) (zeros_slot (above_base selective k))
]
  where
    at_base : slot_broken (ltb (j + 0) count) selective (slot_of store w base (j + 0)) ≡ false → eqb (slot_mark (slot_of store w base (j + 0))) 2 ≡ false
    at_base b = let z : j + 0 ≡ j = omega arith in elim (dec_lt j count) [
      | yes l ↦ rw z (first l)
      | no l ↦ empty_not_two selective _ _ (same_broken {a = slot_of store w base (j + 0)} (sym (le-ltb (j + 0) count (omega arith))) refl refl b)
    ]

    inside : (k : ℕ) → slot_broken (ltb (j + k) count) selective (slot_of store w base (j + k)) ≡ false
        → slot_broken (ltb (j + k) count) (above_base selective k) (slot_of store w base (j + k)) ≡ false
    inside zero b = rw (and-false selective) (may_not _ selective _ _ (at_base b) b)
    inside (suc k) b = rw (lt-ltb 0 (suc k) (omega arith), and-true selective) b

pub release_good : (selective : Bool) (v : Sender) (until : ℕ) → SoundWith (λ k. selective) v → v.window.send_base ≤ until → until ≤ v.window.next_seq_num
    → (until < v.window.next_seq_num → eqb (slot_mark (slot_at v.store (slot_for v.window until))) 2 ≡ false) → Good selective (release v until)
unfolding release
release_good selective v until s a b first =
    let w = v.window.window_size in
    let base = v.window.send_base in
    let j = until - base in
    let f = s.few in
    let l = s.low in
    let u : until ≡ base + j = omega arith in
    let fewer : v.window.next_seq_num - until ≡ outstanding v.window - j = omega arith in
    let first' : j < outstanding v.window → eqb (slot_mark (slot_of v.store w base j)) 2 ≡ false = λ h. rw (← u) (first (omega arith)) in
    sound_good selective (release v until)
    (record {
      positive = s.positive;
      small = s.small;
      room = rw (emptied_length v.store w base j s.positive s.room) s.room;
      ordered = b;
      few = omega arith;
      low = s.low;
      slots = λ k h.
          same_broken (ap (ltb k) fewer) refl (ap (λ (n : ℕ). slot_of (empty_from v.store w base j) w n k) u)
          (released_slots selective v.store w base (outstanding v.window) j s.positive s.room s.few (omega arith) first' s.slots k h);
    })

-- outside Selective Repeat no number of the window is
pub none_acknowledged : (v : Sender) → Good false v → (n : ℕ) → v.window.send_base ≤ n → n < v.window.next_seq_num
    → eqb (slot_mark (slot_at v.store (slot_for v.window n))) 2 ≡ false
none_acknowledged v g n a b =
    let s = good_sound false v g in
    let few = s.few in
    let k = n - v.window.send_base in
    let e : v.window.send_base + k ≡ n = omega arith in
    rw e at (not_two (ltb k (outstanding v.window)) _ _ (s.slots k (omega arith)))
