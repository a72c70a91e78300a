-- Document 01, "Turned away" 9: a state that no call turns away.
use Rattle.std.specs.Prelude.{ℕ, ◌+◌, ◌≤◌, ◌<◌, ◌≡◌, Bool, false, List}
use Rattle.bounds.specs.Bounds.{seq_num_limit}
use Rattle.store.specs.Slot.{slot_mark}
use Rattle.store.specs.Sound.{slot_of}
use Rattle.window.specs.State.{state_broken}
use Rattle.window.specs.Slots.{Sender}
use Rattle.selective_repeat.specs.Receiver.{Receiver, receiving_broken}

-- a sender's; selective is true of Selective Repeat
abbrev pub Good : Bool → Sender → Type 0
Good selective v = state_broken selective v.window v.store ≡ false

-- a Selective Repeat receiver holds no number from limit on: delivering such a number would take its base past the
-- bound
abbrev pub NoneHeldFrom : ℕ → List ℕ → ℕ → ℕ → Type 0
NoneHeldFrom limit store window base =
    (k : ℕ) → k < window → limit ≤ base + k → slot_mark (slot_of store window base k) ≡ 0

pub record GoodSelectiveReceiver (v : Receiver) (output : List ℕ) : Type 0 where
  pub sound : receiving_broken v.state v.store output ≡ false
  pub none_high : NoneHeldFrom seq_num_limit v.store v.state.window_size v.state.recv_base
