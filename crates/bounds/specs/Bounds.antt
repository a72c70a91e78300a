-- Document 01, "What the Rust forms turn into", "Bounds of a setup" and "Turned away": every bound by name. A value at
-- its bound passes, but for the two limits.
use Rattle.std.specs.Prelude.{ℕ}

-- bytes of a header, of a payload and of a datagram at most
abbrev pub header_size : ℕ
header_size = 10

abbrev pub max_payload : ℕ
max_payload = 1400

abbrev pub max_datagram : ℕ
max_datagram = 1410

-- bytes of a slot, 4 more than a payload; of a place in the schedule's store
abbrev pub slot_size : ℕ
slot_size = 1404

abbrev pub place_size : ℕ
place_size = 1410

-- packets outstanding at most
abbrev pub max_window : ℕ
max_window = 32

-- chunks of a file at most
abbrev pub max_chunks : ℕ
max_chunks = 65536

-- a chunk never has this number or a higher one
abbrev pub seq_num_limit : ℕ
seq_num_limit = 4294901760

-- 2^60: a counter at this value or above it is refused
abbrev pub count_limit : ℕ
count_limit = 1152921504606846976

-- nanoseconds: durations, samples and virtual time; other times; SRTT and RTTVAR; the granularity
abbrev pub max_duration : ℕ
max_duration = 86400000000000

abbrev pub max_time : ℕ
max_time = 172800000000000

abbrev pub max_estimate : ℕ
max_estimate = 86401000000000

abbrev pub max_granularity : ℕ
max_granularity = 1000000000

-- milliseconds: each delay of a setup, the delay of a delivery
abbrev pub max_setup_delay : ℕ
max_setup_delay = 60000

abbrev pub max_delivery_delay : ℕ
max_delivery_delay = 180000
