-- Document 01's `linkrun` row "0 0 5 510" by computation: base delay 5 ms, all else 0. And the other answers, each with the tests behind it true as well.
use Rattle.std.specs.Prelude.{Err, Ok, Result}
use mathlib.Core.Path.{◌≡◌, refl}
use Prim.Native.Nat.{ℕ}
use native.Mathlib.Omega.{arith}
use mathlib.Core.Bool.{Bool, true, false}
use mathlib.Core.List.{List, [], ◌∷◌}
use lib.ListN.{replicate, get_or-replicate}
use lib.IntN.{pos}
use lib.Ieee.{Float, fin, nan, fits, le, lt, to_unsigned, mul, of_int}
use Rattle.bounds.specs.Bounds.{place_size}
use Rattle.octets.specs.Fold.{sum, fold_bytes}
use Rattle.schedule.specs.Record.{vacant, free_from, place_in}
use Rattle.schedule.specs.declared.Deliveries.TheVariants.{Lost, One}
use Rattle.channel.specs.Bounds.{config_broken}
use Rattle.channel.specs.Faults.{is_lost, is_duplicated, is_reordered, is_corrupted, carried_bytes, deliveries_of}
use Rattle.channel.specs.Process.{process_unchecked}
use Rattle.channel.specs.declared.ChannelConfig.{ChannelConfig}
use Rattle.path.specs.Rolls.{packet_rolls, rolls_at, rolls_broken, Doubles}
use Rattle.path.specs.Direction.{Direction}
use Rattle.path.specs.Path.{new_path, left_by_carry, copy_fold, carry, CanCarry}
use Rattle.path.proofs.Laws.{new_good}
use Rattle.schedule.specs.declared.Deliveries.{Deliveries}
use Rattle.path.specs.declared.Stop.{Stop}
use Rattle.path.specs.declared.Stop.TheVariants as stop

nought : Float
nought = fin false 0 (pos 0)

-- the chance of a loss
config : Float → ChannelConfig
config loss = record { loss = loss; duplicate = nought; reorder = nought; reorder_extra_ms = 0; corrupt = nought; base_delay_ms = 5; jitter_ms = 0 }

rolls : List Float
rolls = replicate packet_rolls nought

-- the number 0 and the byte 0x41
wire : List ℕ
wire = 0 ∷ 0 ∷ 0 ∷ 0 ∷ 1 ∷ 0 ∷ 0 ∷ 1 ∷ 189 ∷ 254 ∷ 65 ∷ []

-- so many records and places
fresh : Float → ℕ → Direction
fresh loss n = new_path (config loss) (replicate n vacant) (replicate place_size 0)

config_fine : config_broken (config nought) ≡ false
unfolding config_broken config nought le
config_fine = refl

rolls_bounded : rolls_broken rolls ≡ false
unfolding rolls_broken rolls nought le
rolls_bounded = refl

doubles : Doubles rolls
unfolding rolls nought fits
doubles = record { each = λ i h. rw (get_or-replicate packet_rolls i (fin false 0 (pos 0)) nan) tt; size = omega arith }

-- what a call asks is met
can : CanCarry (fresh nought 1) rolls 0 wire
unfolding fresh wire
can = record { good = new_good (config nought) (replicate 1 vacant) (replicate place_size 0) rolls config_fine doubles rolls_bounded; in_time = omega arith; short = omega arith }

-- the answer to a first packet: by the chance of a loss, the number of records, and whether an entry is free
first : Float → ℕ → Bool → Result (Deliveries × ℕ) Stop
first loss n free = (carry (fresh loss n) rolls free 0 wire).result.answer

linkrun_row : first nought 1 true ≡ Ok (One 5, 510)
unfolding first carry new_path fresh wire rolls config nought rolls_at process_unchecked deliveries_of is_lost is_duplicated is_reordered is_corrupted carried_bytes copy_fold fold_bytes sum free_from place_in lt to_unsigned mul of_int
linkrun_row = refl

-- no room, but the packet is lost
lost_needs_none : first (fin false 1 (pos 0)) 0 true ≡ Ok (Lost, 0)
unfolding first carry new_path fresh wire rolls config nought rolls_at process_unchecked deliveries_of is_lost is_duplicated is_reordered is_corrupted carried_bytes copy_fold free_from place_in lt
lost_needs_none = refl

no_room : first nought 0 true ≡ Err stop.ScheduleFull
unfolding first carry new_path fresh wire rolls config nought rolls_at process_unchecked deliveries_of is_lost is_duplicated is_reordered is_corrupted carried_bytes copy_fold free_from place_in lt
no_room = refl

no_entry_no_room : first nought 0 false ≡ Err stop.EventsFull
unfolding first carry new_path fresh wire rolls config nought rolls_at process_unchecked deliveries_of is_lost is_duplicated is_reordered is_corrupted carried_bytes copy_fold free_from place_in lt
no_entry_no_room = refl

-- the second packet finds no rolls, no entry and no room
then_spent : (carry (left_by_carry (carry (fresh nought 1) rolls true 0 wire)) rolls false 0 wire).result.answer ≡ Err stop.RollsSpent
unfolding carry new_path fresh wire rolls config nought rolls_at process_unchecked deliveries_of is_lost is_duplicated is_reordered is_corrupted carried_bytes copy_fold fold_bytes sum free_from place_in lt
then_spent = refl
