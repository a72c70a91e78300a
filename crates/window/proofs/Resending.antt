-- Laws of the numbers that are sent again.
use Rattle.std.specs.Prelude.{Err, None, Ok, Some}
use Prim.Native.Nat.{ℕ, zero, suc, ◌+◌, ◌-◌, ◌*◌, ◌/◌, ◌≤◌, ◌<◌}
use mathlib.Core.Path.{◌≡◌, refl, sym, ap, ◌∙◌}
use mathlib.Core.Bool.{Bool, true, false}
use mathlib.Core.List.{List, [], ◌∷◌, ◌++◌, append_assoc, append-nil}
use native.Mathlib.Omega.{arith}
use borrow.Author.Tests.{lt-ltb, le-ltb, eq-eqb, ne_eqb}
use lib.Dec.{ltb}
use lib.ListN.{length, get_or, set, take, drop, length-append, length-drop, length-set, take-append-drop}
use lib.Seq.{get_or-set_other, length-take-le, take_all, take_at, drop-append-add, drop-drop}
use Rattle.refusal.specs.declared.Refusal.{Refusal}
use Rattle.refusal.specs.declared.Refusal.TheVariants.{State, Counts, Full}
use Rattle.refusal.specs.Order.{check, verdict, order, or_else, numbered, first_of, decide}
use Rattle.refusal.proofs.Laws.{none_true_accepted, on_accepted}
use Rattle.store.specs.Slot.{slot_at, slot_length, slot_flags}
use Rattle.store.proofs.Laws.{slot_byte, slot_in}
use Rattle.octets.proofs.Laws.{tail_written}
use Rattle.packet.proofs.Laws.{made_length}
use Rattle.window.specs.Slots.{Sender, slot_for, packet_for, mark_retransmitted, datagram_for}
use Rattle.window.specs.Resending.{datagrams_from, mark_from, sent_again, timeout_exit, resend, Resendable}
use Rattle.window.specs.declared.SendWindow.{SendWindow}
use Rattle.window.proofs.Sound.{Sound, slot_low}
use Rattle.window.proofs.Slots.{slot_payload_length}
use Rattle.refusal.specs.Order.{passed}

-- outstanding numbers of a sound state can be sent again
pub resendable : (selective : Bool) (s : SendWindow) (store : List ℕ) (n k : ℕ) → Sound selective s store → s.send_base ≤ n → n + k ≤ s.next_seq_num → Resendable s store n k
resendable selective s store n k h from below =
    let ordered = h.ordered in
    let few = h.few in
    let small = h.small in
    let low = h.low in
    record {
      positive = h.positive;
      room = h.room;
      few = omega arith;
      low = omega arith;
      lengths = λ i l.
          let e : s.send_base + (n - s.send_base + i) ≡ n + i = omega arith in
          rw e at (slot_low selective s store h (n - s.send_base + i) (omega arith));
    }

-- one number more, of those below end
datagrams_next : (v : Sender) (n k : ℕ) → 0 < k → datagram_for v n ++ datagrams_from v (n + 1) (k - 1) ≡ datagrams_from v n k
unfolding datagrams_from
datagrams_next v n zero h = absurd (omega arith)
datagrams_next v n (suc k) h = let e : suc k - 1 ≡ k = omega arith in ap (λ (j : ℕ). datagram_for v n ++ datagrams_from v (n + 1) j) e

pub datagrams_more : (v : Sender) (n end : ℕ) → n < end → datagram_for v n ++ datagrams_from v (n + 1) (end - (n + 1)) ≡ datagrams_from v n (end - n)
datagrams_more v n end h = let e : end - (n + 1) ≡ end - n - 1 = omega arith in rw e (datagrams_next v n (end - n) (omega arith))

pub datagrams_done : (v : Sender) (n k : ℕ) → k ≡ 0 → datagrams_from v n k ≡ []
unfolding datagrams_from
datagrams_done v n k e = rw e

mark_next : (v : Sender) (n k : ℕ) → 0 < k → mark_from (mark_retransmitted v n) (n + 1) (k - 1) ≡ mark_from v n k
unfolding mark_from
mark_next v n zero h = absurd (omega arith)
mark_next v n (suc k) h = let e : suc k - 1 ≡ k = omega arith in ap (mark_from (mark_retransmitted v n) (n + 1)) e

pub mark_more : (v : Sender) (n end : ℕ) → n < end → mark_from (mark_retransmitted v n) (n + 1) (end - (n + 1)) ≡ mark_from v n (end - n)
mark_more v n end h = let e : end - (n + 1) ≡ end - n - 1 = omega arith in rw e (mark_next v n (end - n) (omega arith))

pub mark_done : (v : Sender) (n k : ℕ) → k ≡ 0 → mark_from v n k ≡ v
unfolding mark_from
mark_done v n k e = rw e

-- what marking a number leaves as it was, and what it counts
pub record Marked (v w : Sender) : Type 0 where
  pub window_size : w.window.window_size ≡ v.window.window_size
  pub store_length : length w.store ≡ length v.store
  pub slot_lengths : (j : ℕ) → slot_length (slot_at w.store j) ≡ slot_length (slot_at v.store j)

set_flags_byte : (store : List ℕ) (j k i f : ℕ) → i < 2 → get_or (slot_at (set store (j * 1404 + 3) f) k) i 0 ≡ get_or (slot_at store k) i 0
set_flags_byte store j k i f h =
    slot_byte (set store (j * 1404 + 3) f) k i (omega arith) ∙ get_or-set_other store (j * 1404 + 3) (k * 1404 + i) f 0 (λ e. omega arith)
    ∙ sym (slot_byte store k i (omega arith))

pub mark_one : (v : Sender) (n : ℕ) → Marked v (mark_retransmitted v n)
unfolding mark_retransmitted
mark_one v n = record {
  window_size = refl;
  store_length = length-set v.store (slot_for v.window n * 1404 + 3) (slot_flags (slot_at v.store (slot_for v.window n)) / 2 * 2 + 1);
  slot_lengths = λ j. rw (set_flags_byte v.store (slot_for v.window n) j 0 _ (omega arith), set_flags_byte v.store (slot_for v.window n) j 1 _ (omega arith));
}

pub mark_sent : (v : Sender) (n : ℕ) → (mark_retransmitted v n).window.total_sent ≡ v.window.total_sent + 1
unfolding mark_retransmitted
mark_sent v n = refl

pub mark_again : (v : Sender) (n : ℕ) → (mark_retransmitted v n).window.retransmissions ≡ v.window.retransmissions + 1
unfolding mark_retransmitted
mark_again v n = refl

pub mark_from_lem : (v : Sender) (n k : ℕ) → Marked v (mark_from v n k)
unfolding mark_from
mark_from_lem v n zero = record { window_size = refl; store_length = refl; slot_lengths = λ j. refl }
mark_from_lem v n (suc k) =
    let one = mark_one v n in
    let rest = mark_from_lem (mark_retransmitted v n) (n + 1) k in
    record {
      window_size = rest.window_size ∙ one.window_size;
      store_length = rest.store_length ∙ one.store_length;
      slot_lengths = λ j. rest.slot_lengths j ∙ one.slot_lengths j;
    }

pub marked_by : (v w : Sender) (n k : ℕ) → w ≡ mark_from v n k → Marked v w
marked_by v w n k e = rw e (mark_from_lem v n k)

pub marked_resendable : (v w : Sender) (n k : ℕ) → Marked v w → Resendable v.window v.store n k → Resendable w.window w.store n k
marked_resendable v w n k m h = record {
  positive = rw m.window_size h.positive;
  room = rw (m.window_size, m.store_length) h.room;
  few = h.few;
  low = h.low;
  lengths = λ i l. rw (m.slot_lengths (slot_for w.window (n + i)), m.window_size) (h.lengths i l);
}

-- the length of a number's datagram
pub length_low : (s : SendWindow) (store : List ℕ) (n k m : ℕ) → Resendable s store n k → n ≤ m → m < n + k → slot_length (slot_at store (slot_for s m)) ≤ 1400
length_low s store n k m h from below = let e : n + (m - n) ≡ m = omega arith in rw e at (h.lengths (m - n) (omega arith))

pub datagram_length : (v : Sender) (n k m : ℕ) → Resendable v.window v.store n k → n ≤ m → m < n + k → length (datagram_for v m) ≡ 10 + slot_length (slot_at v.store (slot_for v.window m))
unfolding datagram_for
datagram_length v n k m h from below =
    made_length (packet_for v m) _
    ∙ ap (λ (l : ℕ). 10 + l) (slot_payload_length v.store (slot_for v.window m) (slot_in v.store m v.window.window_size h.positive h.room) (length_low v.window v.store n k m h from below))

-- the flags have no part in it
pub same_lengths : (v w : Sender) (n k : ℕ) → Marked v w → Resendable v.window v.store n k → length (datagrams_from w n k) ≡ length (datagrams_from v n k)
unfolding datagrams_from
same_lengths v w n zero m h = refl
same_lengths v w n (suc k) m h =
    let slot : slot_length (slot_at w.store (slot_for w.window n)) ≡ slot_length (slot_at v.store (slot_for v.window n)) = m.slot_lengths (slot_for w.window n) ∙ rw m.window_size in
    let one = datagram_length v n (suc k) n h (omega arith) (omega arith) in
    let two = datagram_length w n (suc k) n (marked_resendable v w n (suc k) m h) (omega arith) (omega arith) in
    let rest = same_lengths v w (n + 1) k m (next v n k h) in
    simp length-append (omega (arith, slot, one, two, rest)) where
      next : (v : Sender) (n k : ℕ) → Resendable v.window v.store n (suc k) → Resendable v.window v.store (n + 1) k
      next v n k h =
          let few = h.few in
          let low = h.low in
          record {
            positive = h.positive;
            room = h.room;
            few = omega arith;
            low = omega arith;
            lengths = λ i l. length_low v.window v.store n (suc k) (n + 1 + i) h (omega arith) (omega arith);
          }

-- a part of a buffer written over
abbrev pub placed : List ℕ → ℕ → List ℕ → List ℕ
placed out at l = take at out ++ l ++ drop (at + length l) out

pub placed_none : (out : List ℕ) (at : ℕ) → placed out at [] ≡ out
placed_none out at = let e : at + 0 ≡ at = omega arith in rw (e, append-nil (take at out)) (take-append-drop at out)

pub placed_front : (out l : List ℕ) → placed out 0 l ≡ l ++ drop (length l) out
placed_front out l = let e : 0 + length l ≡ length l = omega arith in rw e

placed_behind : (front behind l : List ℕ) (n : ℕ) → length front ≡ n → placed (front ++ behind) n l ≡ front ++ l ++ drop (length l) behind
placed_behind front behind l n e =
    let f : drop (n + length l) (front ++ behind) ≡ drop (length l) behind = ap (λ (k : ℕ). drop (k + length l) (front ++ behind)) (sym e) ∙ drop-append-add front behind (length l) in
    rw (take_at front behind n e, f)

-- after a datagram was written behind the first at bytes
module _ (out part datagram : List ℕ) (at : ℕ) (fit : at + length datagram ≤ length out) (e : part ≡ datagram ++ drop (length datagram) (take (length out - at) (drop at out))) where
  written_behind : take at out ++ (part ++ drop (length out - at) (drop at out)) ≡ take at out ++ datagram ++ drop (at + length datagram) out
  written_behind =
      let whole : take (length out - at) (drop at out) ≡ drop at out = take_all (length out - at) (drop at out) (simp length-drop (omega arith)) in
      tail_written out part (datagram ++ drop (length datagram) (drop at out)) at (omega arith) (e ∙ rw whole)
      ∙ sym (append_assoc (take at out) datagram (drop (length datagram) (drop at out)))
      ∙ ap (λ (l : List ℕ). take at out ++ datagram ++ l) (drop-drop (length datagram) at out)

  pub written_length : length (take at out ++ (part ++ drop (length out - at) (drop at out))) ≡ length out
  written_length = ap length written_behind ∙ simp (length-append, length-drop, length-take-le at out (omega arith)) (omega arith)

  pub placed_more : (rest : List ℕ) (n : ℕ) → n ≡ length datagram → placed (take at out ++ (part ++ drop (length out - at) (drop at out))) (at + n) rest ≡ placed out at (datagram ++ rest)
  placed_more rest n m =
      let front : length (take at out ++ datagram) ≡ at + n = simp (length-append, length-take-le at out (omega arith)) (omega arith) in
      let k : at + length datagram + length rest ≡ at + length (datagram ++ rest) = simp length-append (omega arith) in
      ap (λ (l : List ℕ). placed l (at + n) rest) written_behind ∙ placed_behind (take at out ++ datagram) (drop (at + length datagram) out) rest (at + n) front
      ∙ rw (drop-drop (length rest) (at + length datagram) out, k, append_assoc (take at out) datagram rest)

-- the answers of `resend`, one law for each
module _ (broken counts : Bool) (v : Sender) (n k : ℕ) (out : List ℕ) where
  pub resend_state : broken ≡ true → timeout_exit (Err State) v out ≡ resend broken counts v n k out
  unfolding resend verdict first_of numbered or_else order decide
  resend_state e = rw e

  pub resend_counts : broken ≡ false → counts ≡ true → timeout_exit (Err Counts) v out ≡ resend broken counts v n k out
  unfolding resend verdict first_of numbered or_else order decide
  resend_counts e f = rw (e, f)

  pub resend_full : broken ≡ false → counts ≡ false → length out < length (sent_again v n k) → timeout_exit (Err Full) v out ≡ resend broken counts v n k out
  unfolding resend verdict first_of numbered or_else order decide
  resend_full e f h = rw (e, f, lt-ltb _ _ h)

  fits : broken ≡ false → counts ≡ false → length (sent_again v n k) ≤ length out
      → verdict (check broken State ∷ check counts Counts ∷ check (ltb (length out) (length (sent_again v n k))) Full ∷ []) ≡ passed
  fits e f h = none_true_accepted _ (e, (f, (le-ltb _ _ h, tt)))

  pub resend_nothing : broken ≡ false → counts ≡ false → k ≡ 0 → timeout_exit (Ok None) v out ≡ resend broken counts v n k out
  unfolding resend
  resend_nothing e f z =
      let none = ap length (datagrams_done (mark_from v n k) n k z) in
      sym (on_accepted (λ (r : Refusal). timeout_exit (Err r) v out) _ (fits e f (omega arith)) ∙ rw (eq-eqb k 0 z))

  pub resend_some : (total : ℕ) (w : Sender) (last : List ℕ) → broken ≡ false → counts ≡ false → (k ≡ 0 → ⊥) → length (sent_again v n k) ≤ length out
      → total ≡ length (sent_again v n k) → w ≡ mark_from v n k → last ≡ sent_again v n k ++ drop (length (sent_again v n k)) out
      → timeout_exit (Ok (Some total)) w last ≡ resend broken counts v n k out
  unfolding resend
  resend_some total w last e f z h t m l =
      rw (t, m, l) (sym (on_accepted (λ (r : Refusal). timeout_exit (Err r) v out) _ (fits e f h) ∙ rw (ne_eqb k 0 z)))

-- how many numbers matters only where the state isn't refused
pub resend_count : (broken counts : Bool) (v : Sender) (n k m : ℕ) (out : List ℕ) → (broken ≡ false → k ≡ m) → resend broken counts v n k out ≡ resend broken counts v n m out
resend_count true counts v n k m out h = sym (resend_state true counts v n k out refl) ∙ resend_state true counts v n m out refl
resend_count false counts v n k m out h = ap (λ (j : ℕ). resend false counts v n j out) (h refl)
