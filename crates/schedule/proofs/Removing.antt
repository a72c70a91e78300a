-- The packet that leaves first: taking it out is removing it where its place and length are known, and these lie within bounds.
use Rattle.std.specs.Prelude.{None, Ok, Option, Some}
use mathlib.Core.Path.{◌≡◌, refl}
use Prim.Native.Nat.{ℕ, ◌+◌, ◌*◌, ◌<◌, ◌≤◌}
use native.Mathlib.Omega.{arith}
use mathlib.Core.Bool.{Bool, true, false, cond, ◌&&◌}
use mathlib.Core.List.{List, ◌++◌}
use lib.ListN.{length, take, drop}
use lib.Dec.{ltb, leb}
use borrow.Author.Tests.{ltb-true}
use Rattle.bounds.specs.Bounds.{max_datagram, place_size}
use Rattle.std.proofs.lemmas.Option.{some_pair_parts}
use Rattle.schedule.specs.Record.{time_of, record_length, place_of}
use Rattle.schedule.specs.State.{Schedule, state_broken}
use Rattle.schedule.specs.Schedule.{first_record, due, first_due, without_first, PopExit, on_pop, pop_first, pop_unchecked}
use Rattle.schedule.proofs.Memory.{first_fine, first_inside}

-- what taking leaves and answers, where the first packet is known
abbrev pub pop_by : Option (ℕ × ℕ) → Schedule → List ℕ → PopExit
pop_by None m out = on_pop m out (Ok None)
pop_by (Some (place, len)) m out = on_pop (without_first m) (take len (drop (place * place_size) m.places) ++ drop len out) (Ok (Some len))

-- such a packet lies in the store, and is no longer than a datagram
pub record FirstPacket (m : Schedule) (place len : ℕ) : Type 0 where
  pub some : 0 < m.scheduler.count
  pub inside : place * place_size + place_size ≤ length m.places
  pub short : len ≤ max_datagram

module _ (m : Schedule) (now : ℕ) where
  pub pop_by_first : (out : List ℕ) → pop_unchecked m now out ≡ pop_by (first_due m.scheduler.count m.records now) m out
  unfolding pop_unchecked first_due
  pop_by_first out = go (due m.scheduler.count m.records now)
    where
      go : (t : Bool) → cond t (pop_first m out) (on_pop m out (Ok None)) ≡ pop_by (cond t (Some (place_of (first_record m.records), record_length (first_record m.records))) None) m out
      go true = refl
      go false = refl

  pub first_packet : (place len : ℕ) → state_broken m ≡ false → first_due m.scheduler.count m.records now ≡ Some (place, len) → FirstPacket m place len
  unfolding first_due
  first_packet place len sound = go (ltb 0 m.scheduler.count) refl (leb (time_of (first_record m.records)) now)
    where
      go : (t : Bool) → ltb 0 m.scheduler.count ≡ t → (u : Bool) → cond {A = Option (ℕ × ℕ)} (t && u) (Some (place_of (first_record m.records), record_length (first_record m.records))) None ≡ Some (place, len) → FirstPacket m place len
      go true e true q =
          let some = ltb-true 0 m.scheduler.count e in
          let parts = some_pair_parts (place_of (first_record m.records)) place (record_length (first_record m.records)) len q in
          let p = parts.0 in
          let n = parts.1 in
          record { some = some; inside = rw (← p) (first_inside m sound some); short = rw (← n) (first_fine m sound some).short }
      go true e false q = let z : ◌≡◌ {A = ℕ} 0 1 = cc in absurd (omega arith)
      go false e u q = let z : ◌≡◌ {A = ℕ} 0 1 = cc in absurd (omega arith)
