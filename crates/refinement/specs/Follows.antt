-- The ends over a byte store as the ends over numbers, marks and chunks: what the one holds, read as the other.
use Rattle.std.specs.Prelude.{ℕ, List, [], ◌∷◌, map, Bool, cond, eqb, Err, None, Ok, Result, Some, Option}
use Rattle.protocol.specs.Runs.{up_from}
use Rattle.protocol.specs.Machine.{Chunk, SenderState, ReceiverState}
use Rattle.store.specs.Slot.{slot_mark, slot_payload}
use Rattle.store.specs.Sound.{slot_of}
use Rattle.window.specs.State.{outstanding}
use Rattle.window.specs.Slots.{Sender}
use Rattle.refusal.specs.declared.Refusal.{Refusal}

-- what a slot holds
abbrev pub acknowledged_in : List ℕ → Bool
acknowledged_in slot = eqb (slot_mark slot) 2

abbrev pub held_in : List ℕ → Option Chunk
held_in slot = cond (eqb (slot_mark slot) 0) None (Some (slot_payload slot))

-- the slots of count numbers from base on, each read
unfoldable pub slots_read : {A : Type 0} → (List ℕ → A) → List ℕ → ℕ → ℕ → ℕ → List A
slots_read reading store window base count = map (λ k. reading (slot_of store window base k)) (up_from 0 count)

-- a sender: the slots of the outstanding numbers
abbrev pub sender_of : Sender → SenderState
sender_of v = record {
  base = v.window.send_base;
  chunks = slots_read slot_payload v.store v.window.window_size v.window.send_base
      (outstanding v.window);
  acknowledged = slots_read acknowledged_in v.store v.window.window_size v.window.send_base
      (outstanding v.window);
}

-- a Stop-and-Wait or Go-Back-N receiver holds nothing
abbrev pub in_order_receiver_of : ℕ → ReceiverState
in_order_receiver_of expected = record { base = expected; held = [] }

-- a Selective Repeat receiver: all slots of the window
abbrev pub receiver_of : ℕ → ℕ → List ℕ → ReceiverState
receiver_of window base store = record { base = base; held = slots_read held_in store window base window }

-- the numbers that a receiver's answer acknowledges
abbrev pub acks_of : Result (Option ℕ) Refusal → List ℕ
acks_of (Ok (Some n)) = n ∷ []
acks_of (Ok None) = []
acks_of (Err r) = []
