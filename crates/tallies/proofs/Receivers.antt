-- A receiver's counters are what the history of calls says: one law over the receivers.
use Rattle.std.specs.Prelude.{None, Option, Some}
use Prim.Native.Nat.{ℕ}
use mathlib.Core.Path.{◌≡◌, refl}
use mathlib.Core.Bool.{true}
use mathlib.Core.List.{List, [], ◌∷◌}
use Rattle.receiver.specs.Reading.{read_packet}
use Rattle.receiver.specs.Reply.{answer_of}
use Rattle.receiver.specs.Receive.{ReceiveExit, Reception, receive}
use Rattle.receiver.specs.declared.PacketReading.{PacketReading}
use Rattle.receiver.proofs.Laws.{ReceiveKnown, receive_either}
use Rattle.delivery.specs.Ends.{is_received}
use Rattle.tallies.specs.Receivers.{Call, Handling, after_calls, readings_with, readings_after}

-- what is counted stays right with each call
abbrev pub EachReadingCounted : {R : Type 0} → Handling R → (List PacketReading → R → Type 0) → Type 0
EachReadingCounted {R} handle Counted =
    (hs : List PacketReading) (r : R) → Counted hs r → (raw output ack : List ℕ) → Counted (readings_with (handle r raw output ack) raw hs) (handle r raw output ack).receiver

pub every_list : {R : Type 0} (handle : Handling R) (Counted : List PacketReading → R → Type 0) → EachReadingCounted handle Counted → (hs : List PacketReading) (r : R) → Counted hs r
    → (cs : List Call) → Counted (readings_after handle r hs cs) (after_calls handle r cs)
unfolding after_calls readings_after
every_list handle Counted each hs r start [] = start
every_list handle Counted each hs r start (c ∷ cs) = every_list handle Counted each (readings_with (handle r c.raw c.output c.ack) c.raw hs) (handle r c.raw c.output c.ack).receiver (each hs r start c.raw c.output c.ack) cs

-- a call is refused and changes nothing, or its reading is counted
reply_received : (r : Option ℕ) → is_received (answer_of r) ≡ true
reply_received (Some n) = refl
reply_received None = refl

pub one_call : {R : Type 0} (Counted : List PacketReading → R → Type 0) (hs : List PacketReading) (x : Reception R) (raw output ack : List ℕ)
    → Counted hs x.state → (ReceiveKnown x raw output ack → (n : ℕ) → Counted (read_packet raw ∷ hs) (x.after n))
    → Counted (readings_with (receive x raw output ack) raw hs) (receive x raw output ack).receiver
one_call {R} Counted hs x raw output ack same more =
    receive_either x raw output ack (λ (y : ReceiveExit R). Counted (readings_with y raw hs) y.receiver) (λ s. same)
    (λ k. rw (reply_received x.decision.reply) (more k _))
