-- A schedule just made that meets what the laws ask: one record, one place, and a packet of one byte to leave after 5 ms.
use Rattle.std.specs.Prelude.{Ok, Some}
use mathlib.Core.Path.{◌≡◌, refl, sym, ◌∙◌, ap, subst}
use mathlib.Core.List.{[], ◌∷◌}
use Prim.Native.Nat.{ℕ}
use native.Mathlib.Omega.{arith}
use lib.ListN.{length, replicate, length-replicate}
use Rattle.refusal.specs.Counts.{count_full}
use Rattle.schedule.specs.Record.{vacant, inserted, place_in, free_from}
use Rattle.schedule.specs.State.{Schedule, CanSchedule}
use Rattle.schedule.specs.Schedule.{new_schedule, schedule_at_unchecked, on_schedule, schedule_at, pop_unchecked, CanPop, next_deadline}
use Rattle.schedule.specs.Waiting.{WaitingCopy, All, of_none, of_more, copy, waiting, new_copies, inserted_all, put_copies, first_deadline}
use Rattle.schedule.specs.declared.Deliveries.TheVariants.{One}
use Rattle.schedule.proofs.Laws.{new_waits, new_sound, new_times, schedule_waits, can_pop, deadline_is, Leaves, schedule_leaves, can_schedule_at, schedule_accepted, schedule_accepts, schedule_all, pop_takes}
use Rattle.refusal.specs.Order.{passed}

abbrev made : Schedule
made = new_schedule (vacant ∷ []) (replicate 1410 7)

can : CanSchedule made 0 (65 ∷ []) (One 5)
unfolding free_from place_in
can = can_schedule_at made 0 (65 ∷ []) (One 5) (new_sound (vacant ∷ []) (replicate 1410 7)) (omega arith) (omega arith) (omega arith) (omega arith) (omega arith)

pub one_done : schedule_at made 0 (65 ∷ []) (One 5) ≡ on_schedule (schedule_at_unchecked made 0 (65 ∷ []) (One 5)) passed
one_done = schedule_accepted made 0 (65 ∷ []) (One 5) (schedule_accepts made 0 (65 ∷ []) (One 5) can refl (new_times (vacant ∷ []) (replicate 1410 7)))

pub one_waits : waiting (schedule_at_unchecked made 0 (65 ∷ []) (One 5)) ≡ copy 5000000 0 (65 ∷ []) ∷ []
unfolding inserted_all new_copies inserted
one_waits = schedule_waits made 0 (65 ∷ []) (One 5) can ∙ ap (put_copies 0 0 (65 ∷ []) (One 5)) (new_waits (vacant ∷ []) (replicate 1410 7))

pub one_leaves : Leaves made (schedule_at_unchecked made 0 (65 ∷ []) (One 5)) 1
one_leaves = schedule_leaves made 0 (65 ∷ []) (One 5) can (new_times (vacant ∷ []) (replicate 1410 7))

pub one_deadline : next_deadline (schedule_at_unchecked made 0 (65 ∷ []) (One 5)) ≡ Ok (Some 5000000)
unfolding first_deadline
one_deadline = deadline_is (schedule_at_unchecked made 0 (65 ∷ []) (One 5)) one_leaves.sound (ap count_full one_leaves.next) one_leaves.times ∙ ap first_deadline one_waits

pub one_pops : CanPop (schedule_at_unchecked made 0 (65 ∷ []) (One 5)) 5000000 (replicate 1410 7)
one_pops = can_pop (schedule_at_unchecked made 0 (65 ∷ []) (One 5)) 5000000 (replicate 1410 7) one_leaves.sound (omega (arith, length-replicate {A = ℕ} 1410 7))

-- each that waits is a packet of one byte
abbrev OneByte : WaitingCopy → Type 0
OneByte c = length c.bytes ≡ 1

pub one_byte : All OneByte (waiting (schedule_at_unchecked made 0 (65 ∷ []) (One 5)))
unfolding new_copies
one_byte = schedule_all made 0 (65 ∷ []) (One 5) can (of_more refl of_none) (subst (All OneByte) (sym (new_waits (vacant ∷ []) (replicate 1410 7))) of_none)

pub one_byte_leaves : (n : ℕ) → (pop_unchecked (schedule_at_unchecked made 0 (65 ∷ []) (One 5)) 5000000 (replicate 1410 7)).result.answer ≡ Ok (Some n) → n ≡ 1
one_byte_leaves n e = let t = pop_takes (schedule_at_unchecked made 0 (65 ∷ []) (One 5)) 5000000 (replicate 1410 7) one_leaves.sound one_byte n e in sym t.size ∙ t.holds
