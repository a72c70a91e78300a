-- Document 01, `channel/mod.rs` and `app/transfer.rs`: what a line makes of the packets handed to it. Each packet that
-- it carried took the next eight rolls of its direction.
use Rattle.std.specs.Prelude.{ℕ, ◌+◌, Bool, false, cond, ◌||◌, List, [], ◌∷◌, map, Float, length}
use Rattle.channel.specs.Faults.{carried_bytes, deliveries_of}
use Rattle.channel.specs.History as channel
use Rattle.channel.specs.declared.ChannelConfig.{ChannelConfig}
use Rattle.channel.specs.declared.Rolls.{Rolls}
use Rattle.path.specs.Rolls.{packet_rolls, rolls_at}
use Rattle.path.specs.Path.{copy_fold, packet_buffer}
use Rattle.events.specs.Events.{ForwardEvent, forward_event}
use Rattle.run_history.specs.Calls.{Submission, Reply}

unfoldable pub filter : {A : Type 0} → (A → Bool) → List A → List A
filter test [] = []
filter test (x ∷ xs) = cond (test x) (x ∷ filter test xs) (filter test xs)

abbrev pub count : {A : Type 0} → (A → Bool) → List A → ℕ
count test xs = length (filter test xs)

unfoldable pub any : {A : Type 0} → (A → Bool) → List A → Bool
any test [] = false
any test (x ∷ xs) = test x || any test xs

-- the packets that a line carried, in order
abbrev pub carried_of : List Submission → List Submission
carried_of xs = filter (λ x. x.carried) xs

abbrev pub forward_wires : List Submission → List (List ℕ)
forward_wires xs = map (λ (x : Submission). x.wire) (carried_of xs)

abbrev pub reverse_wires : List Reply → List (List ℕ)
reverse_wires xs = map (λ (x : Reply). x.wire) (filter (λ x. x.carried) xs)

-- the channel's calls, each with its own rolls from `at` on; the latest first, as its history has them
unfoldable pub packets_from : List Float → ℕ → List channel.Call → List (List ℕ) → List channel.Call
packets_from rolls at before [] = before
packets_from rolls at before (wire ∷ wires) =
    let x : channel.Call = record { packet = wire; rolls = rolls_at rolls at; out = packet_buffer } in
    packets_from rolls (at + packet_rolls) (x ∷ before) wires

abbrev pub packets : List Float → List (List ℕ) → List channel.Call
packets rolls wires = packets_from rolls 0 [] wires

-- the event of a packet: its number, first or again, and of each copy that its rolls grant the delay and the fold of
-- the bytes that arrive
abbrev pub event_for : ChannelConfig → Rolls → Submission → ForwardEvent
event_for c r x =
    let ds = deliveries_of c r in
    forward_event x.seq x.again ds (copy_fold ds (carried_bytes c r x.wire))

unfoldable pub events_from : ChannelConfig → List Float → ℕ → List Submission → List ForwardEvent
events_from c rolls at [] = []
events_from c rolls at (x ∷ xs) = event_for c (rolls_at rolls at) x ∷ events_from c rolls (at + packet_rolls) xs
