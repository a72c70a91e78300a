-- Document 01, "Number n has slot n mod window": the slots of numbers that follow one another.
use Rattle.std.specs.Prelude.{ℕ, zero, suc, ◌+◌, ◌*◌, ◌%◌, ◌≤◌, ◌<◌, List, [], ◌++◌, Bool, cond, length, take, drop}
use Rattle.std.specs.Prelude.{eqb}
use Rattle.bounds.specs.Bounds.{max_payload, slot_size}
use Rattle.store.specs.Slot.{slot_at, slot_length, slot_mark, slot_payload}

-- number n's slot has this mark
abbrev pub marked : ℕ → List ℕ → ℕ → ℕ → Bool
marked mark store w n = eqb (slot_mark (slot_at store (n % w))) mark

-- how many of k numbers from n on have this mark, up to the first that has another
unfoldable pub marked_run : ℕ → List ℕ → ℕ → ℕ → ℕ → ℕ
marked_run mark store w n zero = 0
marked_run mark store w n (suc k) = cond (marked mark store w n) (suc (marked_run mark store w (n + 1) k)) 0

-- how many of k numbers from n on have this mark
unfoldable pub marked_count : ℕ → List ℕ → ℕ → ℕ → ℕ → ℕ
marked_count mark store w n zero = 0
marked_count mark store w n (suc k) = cond (marked mark store w n) 1 0 + marked_count mark store w (n + 1) k

-- the payloads of k numbers from n on, joined
unfoldable pub payloads_from : List ℕ → ℕ → ℕ → ℕ → List ℕ
payloads_from store w n zero = []
payloads_from store w n (suc k) = slot_payload (slot_at store (n % w)) ++ payloads_from store w (n + 1) k

-- a buffer with bytes written over it from a place on
abbrev pub written_at : List ℕ → ℕ → List ℕ → List ℕ
written_at buffer place bytes = take place buffer ++ bytes ++ drop (place + length bytes) buffer

-- the payloads of k numbers from n on lie in their slots
pub record PayloadsIn (store : List ℕ) (w n k : ℕ) : Type 0 where
  pub positive : 0 < w
  pub room : w * slot_size ≤ length store
  pub short : (i : ℕ) → i < k → slot_length (slot_at store ((n + i) % w)) ≤ max_payload
