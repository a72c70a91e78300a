-- What a receiver's state that isn't broken is like, and what its decisions are like.
use Prim.Native.Nat.{ℕ, ◌+◌, ◌-◌, ◌≤◌, ◌<◌}
use mathlib.Core.Path.{◌≡◌, refl}
use mathlib.Core.Bool.{Bool, true, false, cond, ◌&&◌}
use mathlib.Core.List.{List}
use native.Mathlib.Omega.{arith}
use borrow.Author.Tests.{ltb-false, le-ltb}
use lib.ListN.{length}
use lib.Dec.{ltb, leb, eqb}
use Rattle.bounds.specs.Bounds.{max_window}
use Rattle.refusal.proofs.Laws.{none_of, any_of_none}
use Rattle.store.specs.Numbers.{PayloadsIn}
use Rattle.store.proofs.Laws.{receiver_slot_short, run_within}
use Rattle.window.specs.State.{window_broken, store_short}
use Rattle.receiver.specs.declared.PacketReading.{PacketReading}
use Rattle.receiver.specs.declared.PacketReading.TheVariants as reading
use Rattle.selective_repeat.specs.Receiver.{Receiver, Ready, state_broken, receiving_broken, held, in_order, out_of_order, duplicate, unanswered, data_decision, decision, counted, released}
use Rattle.selective_repeat.specs.declared.SelectiveRepeatReceiver.{SelectiveRepeatReceiver}
use Rattle.selective_repeat.specs.declared.SelectiveRepeatDecision.{SelectiveRepeatDecision}

pub ready : (r : SelectiveRepeatReceiver) (store : List ℕ) → state_broken r store ≡ false → Ready r store
unfolding state_broken window_broken store_short
ready r store e =
    let none = none_of _ e in
    let window = none_of _ none.0 in
    let p : 1 ≤ r.window_size = ltb-false r.window_size 1 window.0 in
    record {
      positive = omega arith;
      small = ltb-false max_window r.window_size window.1.0;
      room = ltb-false _ _ none.1.0;
      low = ltb-false _ _ none.1.1.0;
      slots = none.1.1.1.0;
    }

pub not_broken : (r : SelectiveRepeatReceiver) (store : List ℕ) → Ready r store → state_broken r store ≡ false
unfolding state_broken window_broken store_short
not_broken r store h =
    let p = h.positive in
    any_of_none _ (
      any_of_none _ (le-ltb r.window_size 1 (omega arith), (le-ltb max_window r.window_size h.small, tt)),
      (le-ltb _ _ h.room, (le-ltb _ _ h.low, (h.slots, tt))),
    )

pub receiving_sound : (r : SelectiveRepeatReceiver) (store output : List ℕ) → receiving_broken r store output ≡ false → (state_broken r store ≡ false) × (r.filled ≤ length output)
unfolding receiving_broken
receiving_sound r store output e = let none = none_of _ e in (none.0, ltb-false _ _ none.1.0)

-- the payloads held after base can be read
pub payloads_in : (r : SelectiveRepeatReceiver) (store : List ℕ) (k : ℕ) → Ready r store → k < r.window_size → PayloadsIn store r.window_size (r.recv_base + 1) k
payloads_in r store k h few =
    record {
      positive = h.positive;
      room = h.room;
      short = λ i l. let n : r.recv_base + 1 + i ≡ r.recv_base + (i + 1) = omega arith in
          rw n (receiver_slot_short store r.window_size r.recv_base (i + 1) (omega arith) h.slots);
    }

-- what is released: fewer than the window, and nothing without a delivery
pub record Releases (w : ℕ) (d : SelectiveRepeatDecision) : Type 0 where
  pub few : released d.change < w
  pub none : d.decision.deliver ≡ false → released d.change ≡ 0

data_releases : (v : Receiver) (n : ℕ) → 0 < v.state.window_size → Releases v.state.window_size (data_decision v n)
unfolding data_decision
data_releases v n h =
    by_number_lem (eqb n v.state.recv_base) (ltb v.state.recv_base n && ltb n (v.state.recv_base + v.state.window_size)) (leb (v.state.recv_base - v.state.window_size) n && ltb n v.state.recv_base) (held v n) where
      still : (d : SelectiveRepeatDecision) → released d.change ≡ 0 → Releases v.state.window_size d
      still d e = record { few = omega arith; none = λ f. e }

      by_number_lem : (a b c t : Bool) → Releases v.state.window_size (cond a (in_order v n) (cond b (cond t (duplicate v n) (out_of_order v n)) (cond c (duplicate v n) (unanswered v.state))))
      by_number_lem true b c t =
          let run = run_within 1 v.store v.state.window_size (v.state.recv_base + 1) (v.state.window_size - 1) in
          record { few = omega arith; none = λ f. let z : ◌≡◌ {A = ℕ} 0 1 = cc in absurd (omega arith) }
      by_number_lem false true c true = still (duplicate v n) refl
      by_number_lem false true c false = still (out_of_order v n) refl
      by_number_lem false false true t = still (duplicate v n) refl
      by_number_lem false false false t = still (unanswered v.state) refl

pub releases : (v : Receiver) (h : PacketReading) → 0 < v.state.window_size → Releases v.state.window_size (decision v h)
unfolding decision
releases v (reading.Data n) p = data_releases (counted v) n p
releases v (reading.Fin n) p = record { few = p; none = λ f. refl }
releases v reading.Ack p = record { few = p; none = λ f. refl }
releases v reading.Corrupted p = record { few = p; none = λ f. refl }
