-- The datagrams of a timeout: their numbers were sent, and none is too long.
use Prim.Native.Nat.{ℕ, zero, suc, ◌+◌, ◌≤◌, ◌<◌}
use mathlib.Core.Path.{◌≡◌, sym, subst}
use mathlib.Core.Bool.{false}
use mathlib.Core.List.{List, [], ◌∷◌, map}
use native.Mathlib.Omega.{arith}
use lib.ListN.{length}
use Rattle.bounds.specs.Bounds.{max_datagram}
use Rattle.protocol.specs.Runs.{up_from}
use Rattle.window.specs.Slots as slots
use Rattle.window.specs.Slots.{datagram_for}
use Rattle.delivery.specs.Calls.{number_of}
use Rattle.session.specs.Sending.{SenderEnd, window_of, window_end, resent}
use Rattle.session.specs.GoodSender.{sender_broken, SenderUnbroken, GoodSender, Within}
use Rattle.session.specs.declared.Timeout.{Timeout}
use Rattle.session.proofs.Laws.{datagram_number, datagram_short, resent_as, resent_good}

-- below the next number
abbrev pub Below : ℕ → List (List ℕ) → Type 0
Below next [] = Unit {0}
Below next (wire ∷ wires) = (number_of wire < next) × Below next wires

below_made : (v : slots.Sender) (next count first : ℕ) → first + count ≤ next → Below next (map (datagram_for v) (up_from first count))
below_made v next zero first h = tt
below_made v next (suc count) first h = (rw (datagram_number v first) (omega arith), below_made v next count (suc first) (omega arith))

pub resent_below : (v : SenderEnd) (t : Timeout) → SenderUnbroken v → Below (window_of v.sender).next_seq_num (resent v t).packets
resent_below v t unbroken =
    let r = resent_as v t unbroken in
    subst (Below (window_of v.sender).next_seq_num) (sym r.packets_are) (below_made (window_end (resent v t).after) (window_of v.sender).next_seq_num r.count r.first r.within.below)

-- each fits a buffer
abbrev pub Short : List (List ℕ) → Type 0
Short [] = Unit {0}
Short (wire ∷ wires) = (length wire ≤ max_datagram) × Short wires

short_made : (v : SenderEnd) (count first : ℕ) → sender_broken v ≡ false → Within (window_of v.sender) first count → Short (map (datagram_for (window_end v)) (up_from first count))
short_made v zero first e w = tt
short_made v (suc count) first e w =
    let f = w.from in
    let b = w.below in
    (datagram_short v first e (record { from = f; below = omega (arith, b) }), short_made v count (suc first) e (record { from = omega (arith, f); below = omega (arith, b) }))

pub resent_short : (v : SenderEnd) (t : Timeout) → SenderUnbroken v → Short (resent v t).packets
resent_short v t unbroken =
    let r = resent_as v t unbroken in
    let w = r.within in
    let s = window_of v.sender in
    let good : GoodSender v (s.total_sent + s.retransmissions) = record { state = record { state = unbroken.state; clean = unbroken.clean }; sent = omega arith; again = omega arith } in
    subst Short (sym r.packets_are) (short_made (resent v t).after r.count r.first (resent_good v t _ good).state.state (record { from = rw r.same.base w.from; below = rw r.same.next w.below }))
