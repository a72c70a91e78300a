-- Laws of the slots of numbers that follow one another: one turn of a loop over them.
use Prim.Native.Nat.{ℕ, zero, suc, ◌+◌, ◌-◌, ◌%◌, ◌≤◌, ◌<◌}
use mathlib.Core.Path.{◌≡◌, refl, sym, ap, ◌∙◌}
use mathlib.Core.Bool.{Bool, true, false, cond}
use mathlib.Core.List.{List, [], ◌++◌, append_assoc, append-nil}
use native.Mathlib.Omega.{arith}
use native.Mathlib.Nat.{add-zero}
use lib.ListN.{length, take, drop, length-append, length-drop, take-append-drop}
use lib.Seq.{take_at, drop-append-add, drop-drop, length-take-le}
use Rattle.store.specs.Slot.{slot_at, slot_payload}
use Rattle.store.specs.Numbers.{marked, marked_run, marked_count, payloads_from, written_at}

-- number n + i, of k from n on
module _ (store : List ℕ) (w n i k : ℕ) (within : i < k) where
  rest : k - i ≡ suc (k - (i + 1))
  rest = omega arith

  next : n + i + 1 ≡ n + (i + 1)
  next = omega arith

  pub run_turn : (mark : ℕ) → marked mark store w (n + i) ≡ true
      → i + 1 + marked_run mark store w (n + (i + 1)) (k - (i + 1)) ≡ i + marked_run mark store w (n + i) (k - i)
  unfolding marked_run
  run_turn mark e = rw (rest, e, next) (omega arith)

  pub count_turn : (mark : ℕ)
      → cond (marked mark store w (n + i)) 1 0 + marked_count mark store w (n + (i + 1)) (k - (i + 1)) ≡ marked_count mark store w (n + i) (k - i)
  unfolding marked_count
  count_turn mark = rw (rest, next)

  pub payloads_turn : slot_payload (slot_at store ((n + i) % w)) ++ payloads_from store w (n + (i + 1)) (k - (i + 1)) ≡ payloads_from store w (n + i) (k - i)
  unfolding payloads_from
  payloads_turn = rw (rest, next)

  pub payloads_turn_length : length (slot_payload (slot_at store ((n + i) % w))) + length (payloads_from store w (n + (i + 1)) (k - (i + 1))) ≡ length (payloads_from store w (n + i) (k - i))
  payloads_turn_length = sym (length-append (slot_payload (slot_at store ((n + i) % w))) _) ∙ ap length payloads_turn

pub run_stop : (mark : ℕ) (store : List ℕ) (w n k : ℕ) → marked mark store w n ≡ false → marked_run mark store w n k ≡ 0
unfolding marked_run
run_stop mark store w n zero e = refl
run_stop mark store w n (suc k) e = rw e

-- after the last number
pub run_end : (mark : ℕ) (store : List ℕ) (w n i k : ℕ) → k ≤ i → marked_run mark store w n (k - i) ≡ 0
unfolding marked_run
run_end mark store w n i k h = let e : k - i ≡ 0 = omega arith in rw e

pub count_end : (mark : ℕ) (store : List ℕ) (w n i k : ℕ) → k ≤ i → marked_count mark store w n (k - i) ≡ 0
unfolding marked_count
count_end mark store w n i k h = let e : k - i ≡ 0 = omega arith in rw e

pub payloads_end : (store : List ℕ) (w n i k : ℕ) → k ≤ i → payloads_from store w n (k - i) ≡ []
unfolding payloads_from
payloads_end store w n i k h = let e : k - i ≡ 0 = omega arith in rw e

pub payloads_none : (store : List ℕ) (w n : ℕ) → payloads_from store w n 0 ≡ []
unfolding payloads_from
payloads_none store w n = refl

-- a run is no longer than the numbers looked at
pub run_within : (mark : ℕ) (store : List ℕ) (w n k : ℕ) → marked_run mark store w n k ≤ k
unfolding marked_run
run_within mark store w n zero = omega arith
run_within mark store w n (suc k) = by_mark (marked mark store w n) (marked_run mark store w (n + 1) k) (run_within mark store w (n + 1) k) where
  by_mark : (b : Bool) (run : ℕ) → run ≤ k → cond b (suc run) 0 ≤ suc k
  by_mark true run h = omega arith
  by_mark false run h = omega arith

pub count_within : (mark : ℕ) (store : List ℕ) (w n k : ℕ) → marked_count mark store w n k ≤ k
unfolding marked_count
count_within mark store w n zero = omega arith
count_within mark store w n (suc k) = by_mark (marked mark store w n) (marked_count mark store w (n + 1) k) (count_within mark store w (n + 1) k) where
  by_mark : (b : Bool) (count : ℕ) → count ≤ k → cond b 1 0 + count ≤ suc k
  by_mark true count h = omega arith
  by_mark false count h = omega arith

-- bytes written over a part of a buffer
pub written_length : (buffer a : List ℕ) (start : ℕ) → start + length a ≤ length buffer → length (written_at buffer start a) ≡ length buffer
written_length buffer a start h =
    let front : length (take start buffer) ≡ start = length-take-le start buffer (omega arith) in
    simp (length-append, length-drop, front) (omega arith)

pub written_on : (buffer a b : List ℕ) (start : ℕ) → start ≤ length buffer
    → written_at (written_at buffer start a) (start + length a) b ≡ written_at buffer start (a ++ b)
written_on buffer a b start h =
    let front : length (take start buffer ++ a) ≡ start + length a = simp (length-append, length-take-le start buffer h) in
    let taken : take (start + length a) (written_at buffer start a) ≡ take start buffer ++ a = take_at (take start buffer ++ a) (drop (start + length a) buffer) (start + length a) front in
    let dropped : drop (start + length a + length b) (written_at buffer start a) ≡ drop (start + length a + length b) buffer =
    ap (λ (m : ℕ). drop (m + length b) (written_at buffer start a)) (sym front)
    ∙ drop-append-add (take start buffer ++ a) (drop (start + length a) buffer) (length b) ∙ drop-drop (length b) (start + length a) buffer in
    let size : start + length a + length b ≡ start + length (a ++ b) = simp length-append (omega arith) in
    rw (taken, dropped) (ap (λ (l : List ℕ). l ++ drop (start + length a + length b) buffer) (append_assoc (take start buffer) a b) ∙ rw size)

pub written_none : (buffer : List ℕ) (start : ℕ) (bytes : List ℕ) → bytes ≡ [] → written_at buffer start bytes ≡ buffer
written_none buffer start bytes e = rw (e, append-nil, add-zero) (take-append-drop start buffer)
