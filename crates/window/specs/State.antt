-- Document 01, "Bounds of a setup" and "Turned away" 8 and 9, of a sender.
use Rattle.std.specs.Prelude.{ℕ, ◌-◌, ◌*◌, List, [], ◌∷◌, Bool, length, ltb}
use Rattle.bounds.specs.Bounds.{max_window, seq_num_limit, slot_size}
use Rattle.refusal.specs.Clauses.{any_of}
use Rattle.refusal.specs.Counts.{count_full}
use Rattle.store.specs.Sound.{sender_slots_broken}
use Rattle.window.specs.declared.SendWindow.{SendWindow}

unfoldable pub window_broken : ℕ → Bool
window_broken window = any_of (ltb window 1 ∷ ltb max_window window ∷ [])

-- the store is shorter than window × 1,404
unfoldable pub store_short : List ℕ → ℕ → Bool
store_short store window = ltb (length store) (window * slot_size)

abbrev pub outstanding : SendWindow → ℕ
outstanding s = s.next_seq_num - s.send_base

-- 9, as far as it doesn't speak of the store
unfoldable pub numbers_broken : SendWindow → Bool
numbers_broken s =
    any_of
    (window_broken s.window_size
    ∷ ltb s.next_seq_num s.send_base
    ∷ ltb s.window_size (outstanding s)
    ∷ ltb seq_num_limit s.next_seq_num
    ∷ [])

-- 9: selective is true of a Selective Repeat sender
unfoldable pub state_broken : Bool → SendWindow → List ℕ → Bool
state_broken selective s store =
    any_of
    (numbers_broken s
    ∷ store_short store s.window_size
    ∷ sender_slots_broken selective store s.window_size s.send_base (outstanding s)
    ∷ [])

-- 8
unfoldable pub counts_broken : SendWindow → Bool
counts_broken s = any_of (count_full s.total_sent ∷ count_full s.retransmissions ∷ [])
