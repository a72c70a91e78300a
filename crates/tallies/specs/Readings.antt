-- Document 01, `arq/sw.rs`, `arq/gbn.rs`, `arq/sr.rs`: what the datagrams handed to a receiver, each as what it reads
-- as, say of its counters. The latest stands first; nothing here looks at a receiver's state.
use Rattle.std.specs.Prelude.{ℕ, suc, ◌+◌, ◌-◌, List, [], ◌∷◌, Bool, true, false, cond, not, ◌||◌, ◌&&◌, get_or, ltb}
use Rattle.std.specs.Prelude.{leb, eqb}
use Rattle.protocol.specs.Runs.{lead}
use Rattle.protocol.specs.PlainMachine.{note}
use Rattle.receiver.specs.declared.PacketReading.{PacketReading}
use Rattle.receiver.specs.declared.PacketReading.TheVariants as reading

-- Data with a number that passes a test
abbrev pub data_that : (ℕ → Bool) → PacketReading → Bool
data_that test (reading.Data n) = test n
data_that test (reading.Fin n) = false
data_that test reading.Ack = false
data_that test reading.Corrupted = false

abbrev pub is_corrupted : PacketReading → Bool
is_corrupted (reading.Data n) = false
is_corrupted (reading.Fin n) = false
is_corrupted reading.Ack = false
is_corrupted reading.Corrupted = true

-- how many pass a test, which is given those before as well
unfoldable pub count : (List PacketReading → PacketReading → Bool) → List PacketReading → ℕ
count test [] = 0
count test (h ∷ hs) = cond (test hs h) (suc (count test hs)) (count test hs)

-- Stop-and-Wait, Go-Back-N: the number expected is raised by Data of that number
unfoldable pub expected : List PacketReading → ℕ
expected [] = 0
expected (h ∷ hs) = cond (data_that (λ n. eqb n (expected hs)) h) (expected hs + 1) (expected hs)

-- Stop-and-Wait: an older number is a duplicate
abbrev pub is_older : List PacketReading → PacketReading → Bool
is_older hs h = data_that (λ n. ltb n (expected hs)) h

-- Go-Back-N: other Data is discarded and, once something was delivered, answered with the last ACK again
abbrev pub is_out_of_order : List PacketReading → PacketReading → Bool
is_out_of_order hs h = data_that (λ n. not (eqb n (expected hs))) h

abbrev pub is_answered_again : List PacketReading → PacketReading → Bool
is_answered_again hs h = is_out_of_order hs h && not (eqb (expected hs) 0)

-- Selective Repeat, window w: Data from base to base + w - 1 is noted; base is the lowest number not noted
abbrev pub is_in_window : ℕ → ℕ → ℕ → Bool
is_in_window w base n = leb base n && ltb n (base + w)

abbrev pub note_data : ℕ → List Bool → PacketReading → List Bool
note_data w marks (reading.Data n) = cond (is_in_window w (lead marks) n) (note marks n) marks
note_data w marks (reading.Fin n) = marks
note_data w marks reading.Ack = marks
note_data w marks reading.Corrupted = marks

unfoldable pub noted : ℕ → List PacketReading → List Bool
noted w [] = []
noted w (h ∷ hs) = note_data w (noted w hs) h

abbrev pub is_noted : ℕ → List PacketReading → ℕ → Bool
is_noted w hs n = get_or (noted w hs) n false

abbrev pub base : ℕ → List PacketReading → ℕ
base w hs = lead (noted w hs)

-- above base, and not noted before
abbrev pub is_buffered : ℕ → List PacketReading → PacketReading → Bool
is_buffered w hs h = data_that (λ n. is_in_window w (base w hs) n && not (eqb n (base w hs)) && not (is_noted w hs n)) h

-- noted before, or one of the w numbers below base
abbrev pub is_duplicate : ℕ → List PacketReading → PacketReading → Bool
is_duplicate w hs h =
    data_that (λ n. (is_in_window w (base w hs) n && is_noted w hs n) || (leb (base w hs - w) n && ltb n (base w hs))) h
