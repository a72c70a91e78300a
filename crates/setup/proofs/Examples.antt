-- Document 01's `linkrun` at its start, and the same setup turned away.
use Rattle.std.specs.Prelude.{Err}
use mathlib.Core.Path.{◌≡◌, refl, sym}
use mathlib.Core.Bool.{true, false, ◌||◌}
use mathlib.Core.List.{List, [], ◌∷◌}
use Prim.Native.Nat.{ℕ, ◌*◌, ◌<◌}
use native.Mathlib.Omega.{arith}
use lib.ListN.{length, replicate}
use lib.Ieee.{le, eq}
use Rattle.bounds.specs.Bounds.{max_chunks, slot_size}
use Rattle.refusal.specs.Clauses.{any_of}
use Rattle.refusal.specs.Order.{verdict}
use Rattle.refusal.specs.declared.Refusal.TheVariants.{Setup, Full}
use Rattle.protocol.specs.declared.ProtocolType.{ProtocolType}
use Rattle.protocol.specs.declared.ProtocolType.TheVariants.{StopAndWait, GoBackN, SelectiveRepeat}
use Rattle.window.specs.State.{window_broken, store_short}
use Rattle.channel.specs.Bounds.{config_broken}
use Rattle.rtt.specs.Rtt.{zero64, one64, eighth64, quarter64, four64}
use Rattle.rto.specs.Rto.{config_in_bounds}
use Rattle.path.specs.Rolls.{packet_rolls, rolls_broken}
use Rattle.chunks.specs.Chunks.{chunks_of, pieces}
use Rattle.chunks.proofs.Laws.{count_full}
use Rattle.setup.specs.Setup.{Start, start, start_state, start_setup, start_room, start_checks}
use Rattle.setup.specs.Setup.{state_broken, clock_broken, setup_broken, room_missing}
use Rattle.setup.specs.declared.ClockChoice.{ClockChoice}
use Rattle.setup.specs.declared.ClockChoice.TheVariants.{Source, Edition}
use Rattle.setup.specs.declared.TransferConfig.{TransferConfig}
use Rattle.setup.proofs.Checks.{none_true}
use Rattle.setup.proofs.Laws.{refuses_setup, refuses_full, many_chunks}
use Rattle.refusal.specs.Order.{passed}

-- linkrun's but for protocol, clock and largest RTO
abbrev config : ProtocolType → ClockChoice → ℕ → TransferConfig
config p clock most =
    record {
      protocol = p;
      clock = clock;
      window_size = 4;
      chunk_size = 1;
      channel = record { loss = zero64; duplicate = zero64; reorder = zero64; reorder_extra_ms = 0; corrupt = zero64; base_delay_ms = 5; jitter_ms = 0 };
      rto = record { initial_rto = 1000000000; min_rto = 1000000000; max_rto = most; granularity = 1000000; alpha = eighth64; beta = quarter64; k = four64; rto_multiplier = one64 };
      max_virtual_time = 60000000000;
      max_retransmissions = 10;
    }

-- stores and timer slices of the window, one note
abbrev given : TransferConfig → List ℕ → List ℕ → Start
given c file output = start c file (replicate packet_rolls zero64) (replicate packet_rolls zero64) (replicate (4 * slot_size) 0) (replicate (4 * slot_size) 0) output (replicate 7 0 ∷ []) (replicate 4 0) (replicate 4 0)

state_ok : (p : ProtocolType) (clock : ClockChoice) (most : ℕ) (file output : List ℕ) → start_state (given (config p clock most) file output) ≡ false
unfolding state_broken store_short
state_ok StopAndWait clock most file output = refl
state_ok GoBackN clock most file output = refl
state_ok SelectiveRepeat clock most file output = refl

rolls_ok : (rolls_broken (replicate packet_rolls zero64) || rolls_broken (replicate packet_rolls zero64)) ≡ false
unfolding rolls_broken le
rolls_ok = refl

abbrev pub linkrun : List ℕ → List ℕ → Start
linkrun file output = given (config SelectiveRepeat Source 60000000000) file output

-- the byte 0x41
abbrev one : List ℕ
one = 65 ∷ []

setup_ok : start_setup (linkrun one one) ≡ false
unfolding setup_broken window_broken any_of chunks_of pieces config_broken config_in_bounds clock_broken le
setup_ok = refl

room_ok : start_room (linkrun one one) ≡ false
unfolding room_missing chunks_of pieces
room_ok = refl

pub linkrun_accepted : verdict (start_checks (linkrun one one)) ≡ passed
linkrun_accepted = sym (none_true _ _ _ _ (state_ok SelectiveRepeat Source 60000000000 one one) rolls_ok setup_ok room_ok)

-- the empty file is one chunk and takes one note
empty_setup : start_setup (linkrun [] []) ≡ false
unfolding setup_broken window_broken any_of chunks_of pieces config_broken config_in_bounds clock_broken le
empty_setup = refl

empty_room : start_room (linkrun [] []) ≡ false
unfolding room_missing chunks_of pieces
empty_room = refl

pub empty_accepted : verdict (start_checks (linkrun [] [])) ≡ passed
empty_accepted = sym (none_true _ _ _ _ (state_ok SelectiveRepeat Source 60000000000 [] []) rolls_ok empty_setup empty_room)

-- without space for the byte: 5
no_room : start_room (linkrun one []) ≡ true
unfolding room_missing
no_room = refl

pub short_output : verdict (start_checks (linkrun one [])) ≡ Err Full
short_output = refuses_full _ (state_ok SelectiveRepeat Source 60000000000 one []) rolls_ok setup_ok no_room

-- Selective Repeat on the edition clock: 4
abbrev pub edition : ProtocolType → ℕ → Start
edition p most = given (config p Edition most) one one

edition_selective : start_setup (edition SelectiveRepeat 60000000000) ≡ true
unfolding setup_broken window_broken any_of chunks_of pieces config_broken config_in_bounds clock_broken le
edition_selective = refl

pub edition_selective_refused : verdict (start_checks (edition SelectiveRepeat 60000000000)) ≡ Err Setup
edition_selective_refused = refuses_setup _ (state_ok SelectiveRepeat Edition 60000000000 one one) rolls_ok edition_selective

-- Go-Back-N on it is fine, but not with another largest RTO
edition_ok : start_setup (edition GoBackN 60000000000) ≡ false
unfolding setup_broken window_broken any_of chunks_of pieces config_broken config_in_bounds clock_broken le eq
edition_ok = refl

edition_room : start_room (edition GoBackN 60000000000) ≡ false
unfolding room_missing chunks_of pieces
edition_room = refl

pub edition_accepted : verdict (start_checks (edition GoBackN 60000000000)) ≡ passed
edition_accepted = sym (none_true _ _ _ _ (state_ok GoBackN Edition 60000000000 one one) rolls_ok edition_ok edition_room)

edition_longer : start_setup (edition GoBackN 61000000000) ≡ true
unfolding setup_broken window_broken any_of chunks_of pieces config_broken config_in_bounds clock_broken le
edition_longer = refl

pub edition_longer_refused : verdict (start_checks (edition GoBackN 61000000000)) ≡ Err Setup
edition_longer_refused = refuses_setup _ (state_ok GoBackN Edition 61000000000 one one) rolls_ok edition_longer

-- 65,537 bytes in chunks of 1 are a 4, though the output is short as well
pub too_many : (file : List ℕ) → length file ≡ 65537 → verdict (start_checks (linkrun file [])) ≡ Err Setup
too_many file e =
    let some : length file ≡ 0 → ⊥ = λ z. omega arith in
    let count = count_full 1 file (omega arith) some in
    let many : max_chunks < length (chunks_of 1 file) = omega arith in
    refuses_setup _ (state_ok SelectiveRepeat Source 60000000000 file []) rolls_ok (many_chunks (config SelectiveRepeat Source 60000000000) file many)

pub too_many_short : (file : List ℕ) → length file ≡ 65537 → start_room (linkrun file []) ≡ true
unfolding room_missing
too_many_short file e = rw e
