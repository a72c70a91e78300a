-- What the lines hand over: copies to the receiver, any bytes to the sender.
use Rattle.std.specs.Prelude.{Ok, Some}
use Prim.Native.Nat.{ℕ}
use mathlib.Core.Path.{◌≡◌, refl, sym, subst}
use mathlib.Core.Bool.{Bool, true, false}
use mathlib.Core.List.{List}
use lib.Ieee.{Float}
use lib.ListN.{take}
use Rattle.protocol.specs.Machine.{Chunk}
use Rattle.packet.specs.Reading.{read_datagram}
use Rattle.path.specs.Direction.{Direction}
use Rattle.path.specs.Path.{left_by_take, packet_buffer}
use Rattle.path.proofs.Laws.{EachWaiting, take_each, take_front}
use Rattle.clock.specs.declared.Timing.{Timing}
use Rattle.receiving.specs.Receiving.{Inbound, ForwardExit, ack_buffer, is_data, on_forward, serve_forward}
use Rattle.receiving.specs.Good.{CanServeForward}
use Rattle.receiving.proofs.Laws.{forward_dropped, forward_delivers, next_taken, next_exit, turn_good, serve_keeps}
use Rattle.acks.specs.Acks.{AckState, on_accepted, on_ack}
use Rattle.acks.specs.Reverse.{serve_reverse}
use Rattle.acks.proofs.Laws.{by_ack, serve_reverse_invariant}
use Rattle.completion.proofs.Laws.{end_of}
use Rattle.prefixes.proofs.Receiver.{Honest, EndWritten, packet_written}
use Rattle.prefixes.proofs.Sender.{SenderHolds, ack_held}

-- ---- the forward line
module _ (P : ℕ → Chunk → Type 0) (before : List ℕ) where
  abbrev pub InboundWritten : Inbound → Type 0
  InboundWritten b = EndWritten P before (end_of b) b.output

  module _ (rolls : List Float) (total now : ℕ) where
    -- what can't be read or is no Data is dropped, and is no call
    pub on_forward_written : (raw : List ℕ) (b : Inbound) → Honest P raw → InboundWritten b → InboundWritten (on_forward rolls total now raw b).inbound
    on_forward_written raw b h w = go (is_data (read_datagram raw)) refl
      where
        go : (t : Bool) → is_data (read_datagram raw) ≡ t → InboundWritten (on_forward rolls total now raw b).inbound
        go false e = subst (λ (x : ForwardExit). InboundWritten x.inbound) (sym (forward_dropped rolls total now raw b e)) w
        go true e = let d = forward_delivers rolls total now raw b e in rw (d.receiver, d.output) (packet_written P before (end_of b) raw b.output ack_buffer h w)

    -- a turn of the loop, and the loop
    pub record Serves (forward : Direction) (b : Inbound) : Type 0 where
      pub can : CanServeForward forward b rolls now
      pub waiting : EachWaiting (Honest P) forward
      pub written : InboundWritten b

    pub turn_written : (forward : Direction) (b : Inbound) (n : ℕ) → (next_taken now forward).result.answer ≡ Ok (Some n) → Serves forward b → Serves (left_by_take (next_taken now forward)) (next_exit rolls total now forward b n).inbound
    turn_written forward b n e q =
        record {
          can = turn_good rolls total now forward b q.can n e;
          waiting = take_each forward now packet_buffer q.can.sound q.waiting;
          written = on_forward_written (take n (next_taken now forward).out) b (take_front forward now packet_buffer q.can.sound q.waiting n e) q.written;
        }

    pub serve_forward_written : (forward : Direction) (b : Inbound) → Serves forward b → Serves (serve_forward rolls total now forward b).forward (serve_forward rolls total now forward b).inbound
    serve_forward_written forward b q = serve_keeps rolls total now Serves turn_written forward b q

-- ---- the reverse line: whatever it hands over
module _ (chunks : List Chunk) (timing : Timing) (now : ℕ) where
  pub on_ack_holds : (raw : List ℕ) (a : AckState) → SenderHolds chunks a.sender → SenderHolds chunks (on_ack timing now raw a).sender
  unfolding on_accepted
  on_ack_holds raw a h = by_ack timing now raw a (λ (x : AckState). SenderHolds chunks x.sender) h (ack_held chunks a.sender raw h) (λ n. ack_held chunks a.sender raw h)

  pub serve_reverse_holds : (d : Direction) (a : AckState) → SenderHolds chunks a.sender → SenderHolds chunks (serve_reverse timing now d a).state.sender
  serve_reverse_holds d a h = serve_reverse_invariant timing now (λ (d : Direction) (a : AckState). SenderHolds chunks a.sender) (λ d a n e q. on_ack_holds _ a q) d a h
