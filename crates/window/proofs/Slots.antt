-- Laws of what a sender does to its slots.
use Rattle.std.specs.Prelude.{Err, Option, Result}
use Prim.Native.Nat.{ℕ, zero, suc, ◌+◌, ◌-◌, ◌%◌, ◌<◌}
use mathlib.Core.Path.{◌≡◌, refl, ap}
use mathlib.Core.Bool.{Bool, true}
use mathlib.Core.List.{List}
use native.Mathlib.Omega.{arith}
use lib.ListN.{length, replicate, length-replicate}
use Rattle.refusal.specs.declared.Refusal.TheVariants.{State}
use Rattle.refusal.specs.Order.{order, or_else, numbered, first_of, verdict, decide}
use Rattle.store.specs.Slot.{SlotIn, empty_slot}
use Rattle.store.proofs.Laws.{put_length}
pub use Rattle.store.proofs.Laws.{slot_payload_length}
use Rattle.window.specs.Slots.{Sender, empty_from}
use Rattle.window.specs.State.{state_broken}
use Rattle.window.specs.Sending.{send_exit, send_checks, send_chunk}
use Rattle.refusal.specs.declared.Refusal.{Refusal}

-- one slot more emptied
pub empty_more : (store : List ℕ) (w n k : ℕ) → 0 < k → empty_from (empty_slot store (n % w)) w (n + 1) (k - 1) ≡ empty_from store w n k
unfolding empty_from
empty_more store w n zero h = absurd (omega arith)
empty_more store w n (suc k) h = let e : suc k - 1 ≡ k = omega arith in ap (empty_from (empty_slot store (n % w)) w (n + 1)) e

pub empty_done : (store : List ℕ) (w n : ℕ) → empty_from store w n 0 ≡ store
unfolding empty_from
empty_done store w n = refl

pub empty_length : (store : List ℕ) (j : ℕ) → SlotIn store j → length (empty_slot store j) ≡ length store
empty_length store j h = put_length store j (replicate 1404 0) h (length-replicate {A = ℕ} 1404 0)

-- the parts of what a send leaves
pub sending_is : {S : Type 0} (a : Result (Option ℕ) Refusal) {v w : S} {out last : List ℕ} → v ≡ w → out ≡ last → send_exit a v out ≡ send_exit a w last
sending_is a e f = rw (e, f)

pub send_state : (selective : Bool) (v : Sender) (payload out : List ℕ) → state_broken selective v.window v.store ≡ true → send_exit (Err State) v out ≡ send_chunk selective v payload out
unfolding send_chunk send_checks verdict first_of numbered or_else order decide
send_state selective v payload out e = rw e
