-- Document 01, `channel/scheduler.rs`: what a schedule means, the list of the copies that wait, in leaving order.
use Rattle.std.specs.Prelude.{ℕ, ◌+◌, Bool, cond, List, [], ◌∷◌, map, leb, None, Ok, Option, Result, Some}
use Rattle.schedule.specs.Record.{time_of, order_of, later, inserted}
use Rattle.schedule.specs.State.{Schedule, waiting_records, leaves_at}
use Rattle.schedule.specs.declared.Deliveries.{Deliveries}
use Rattle.schedule.specs.declared.Deliveries.TheVariants.{Lost, One, Two}
use Rattle.schedule.specs.Schedule.{bytes_of}
use Rattle.refusal.specs.declared.Refusal.{Refusal}

-- a copy that waits: when it leaves, how many were scheduled before it, and its bytes
pub record WaitingCopy : Type 0 where
  pub time : ℕ
  pub order : ℕ
  pub bytes : List ℕ

abbrev pub copy : ℕ → ℕ → List ℕ → WaitingCopy
copy t o b = record { time = t; order = o; bytes = b }

abbrev pub copy_after : WaitingCopy → WaitingCopy → Bool
copy_after a b = later a.time a.order b.time b.order

abbrev pub waiting_copy : List ℕ → List ℕ → WaitingCopy
waiting_copy ps r = copy (time_of r) (order_of r) (bytes_of ps r)

unfoldable pub waiting : Schedule → List WaitingCopy
waiting m = map (waiting_copy m.places) (waiting_records m)

-- the copies of one answer of the channel, numbered from `next` on
unfoldable pub new_copies : ℕ → ℕ → List ℕ → Deliveries → List WaitingCopy
new_copies next now packet Lost = []
new_copies next now packet (One d) = copy (leaves_at now d) next packet ∷ []
new_copies next now packet (Two d e) = copy (leaves_at now d) next packet
    ∷ copy (leaves_at now e) (next + 1) packet ∷ []

-- copies put, one after the other, among those that wait
unfoldable pub inserted_all : List WaitingCopy → List WaitingCopy → List WaitingCopy
inserted_all [] cs = cs
inserted_all (x ∷ xs) cs = inserted_all xs (inserted copy_after x cs)

abbrev pub put_copies : ℕ → ℕ → List ℕ → Deliveries → List WaitingCopy → List WaitingCopy
put_copies next now packet ds cs = inserted_all (new_copies next now packet ds) cs

-- P holds of each of a list
pub data All {A : Type 0} (P : A → Type 0) : List A → Type 0 where
  of_none : All P []
  of_more : {x : A} {xs : List A} → P x → All P xs → All P (x ∷ xs)

-- what leaves at `now`: the first, if it is due; and what goes on waiting
pub data Popped : Type 0 where
  nothing : Popped
  leaves : WaitingCopy → List WaitingCopy → Popped

unfoldable pub pop_copies : ℕ → List WaitingCopy → Popped
pop_copies now [] = nothing
pop_copies now (c ∷ cs) = cond (leb c.time now) (leaves c cs) nothing

-- when the next copy leaves
unfoldable pub first_deadline : List WaitingCopy → Result (Option ℕ) Refusal
first_deadline [] = Ok None
first_deadline (c ∷ cs) = Ok (Some c.time)
