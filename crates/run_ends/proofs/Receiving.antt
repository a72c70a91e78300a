-- What is due on both lines: what came of each ACK that was due on the reverse line; the forward line only gives copies out.
use Rattle.std.specs.Prelude.{None, Option}
use Prim.Native.Nat.{ℕ, ◌<◌}
use native.Mathlib.Omega.{arith}
use mathlib.Core.Path.{sym, subst}
use mathlib.Core.Bool.{Bool, true}
use mathlib.Core.List.{List, []}
use lib.Ieee.{Float}
use lib.ListN.{length, take}
use Rattle.packet.specs.Format.{new_packet, made}
use Rattle.packet.specs.declared.PacketType.TheVariants as packetType
use Rattle.packet.proofs.Laws.{made_length}
use Rattle.channel.specs.declared.ChannelConfig.{ChannelConfig}
use Rattle.path.specs.Direction.{Direction}
use Rattle.path.specs.Path.{packet_buffer}
use Rattle.path.specs.declared.Stop.{Stop}
use Rattle.clock.specs.declared.Timing.{Timing}
use Rattle.acks.specs.Acks.{AckState}
use Rattle.acks.proofs.Laws.{serve_reverse_invariant}
use Rattle.receiving.specs.Receiving.{Inbound, ForwardExit, submit_ack, received, on_forward, ServeForwardExit, serve_forward}
use Rattle.receiving.proofs.Laws.{data_received, forward_either, next_taken, serve_turns, serve_keeps}
use Rattle.arrivals.specs.Arrivals.{ArrivalState, ArrivalExit, acks_of, serve_arrivals, CanServeArrivals}
use Rattle.arrivals.proofs.Laws.{between, either_exit}
use Rattle.run_ends.proofs.Lines.{LineAt, line_due, line_going, line_more, line_taken}

ack_some : (n : ℕ) → 0 < length (made (new_packet n packetType.Ack) [])
ack_some n = omega (arith, made_length (new_packet n packetType.Ack) [])

-- ---- the reverse line after `ack_sent` ACKs
module _ (c : ChannelConfig) (rolls : List Float) where
  abbrev pub ReverseAt : Option Stop → Inbound → Type 0
  ReverseAt st b = LineAt st c rolls true b.side.ack_sent b.reverse

  abbrev RepliedAt : ForwardExit → Type 0
  RepliedAt x = ReverseAt x.stop x.inbound

  ack_at : (now n : ℕ) (b : Inbound) → ReverseAt (None) b → RepliedAt (submit_ack rolls now n (made (new_packet n packetType.Ack) []) b)
  unfolding submit_ack
  ack_at now n b q = line_more now (made (new_packet n packetType.Ack) []) (ack_some n) q

  module _ (total now : ℕ) where
    received_at : (raw : List ℕ) (b : Inbound) → ReverseAt (None) b → ReverseAt (None) (received total now raw b)
    received_at raw b q =
        let d = data_received total now raw b in
        subst (λ (x : Direction). LineAt (None) c rolls true (received total now raw b).side.ack_sent x) (sym d.reverse) (line_due d.acks q)

    forward_at : (raw : List ℕ) (b : Inbound) → ReverseAt (None) b → RepliedAt (on_forward rolls total now raw b)
    forward_at raw b q =
        forward_either rolls total now raw b RepliedAt (λ h. q) (λ h. received_at raw b q) (λ h n e. ack_at now n (received total now raw b) (received_at raw b q))

    serve_at : (f : Direction) (b : Inbound) → ReverseAt (None) b → ReverseAt (serve_forward rolls total now f b).stop (serve_forward rolls total now f b).inbound
    serve_at =
        serve_turns rolls total now (λ (f : Direction) (b : Inbound) (x : ServeForwardExit). ReverseAt (None) b → ReverseAt x.stop x.inbound) (λ f b e q. q)
        (λ f b n x e g rest q. rest (line_going g (forward_at (take n (next_taken now f).out) b q))) (λ f b n e g q. forward_at (take n (next_taken now f).out) b q)

    -- ---- both lines; the forward one has the rolls `other`
    module _ (forward : ChannelConfig) (other : List Float) where
      given_out : {free : Bool} {n : ℕ} (f : Direction) (b : Inbound) → LineAt (None) forward other free n f → LineAt (None) forward other free n (serve_forward rolls total now f b).forward
      given_out {free} {n} f b q = serve_keeps rolls total now (λ (x : Direction) (y : Inbound). LineAt (None) forward other free n x) (λ x y m e p. line_taken now packet_buffer p) f b q

      pub arrivals_at : (t : Timing) {free : Bool} {n : ℕ} (s : ArrivalState) → CanServeArrivals rolls now s → LineAt (None) forward other free n s.forward → ReverseAt (None) s.inbound
          → LineAt (None) forward other free n (serve_arrivals t rolls total now s).state.forward × ReverseAt (serve_arrivals t rolls total now s).stop (serve_arrivals t rolls total now s).state.inbound
      arrivals_at t {free} {n} s can p q =
          either_exit t rolls total now s can (λ (x : ArrivalExit). LineAt (None) forward other free n x.state.forward × ReverseAt x.stop x.state.inbound) (λ e. (first, second))
          (λ e. (
            first,
            serve_reverse_invariant t now (λ (d : Direction) (a : AckState). LineAt (None) c rolls true (serve_forward rolls total now s.forward s.inbound).inbound.side.ack_sent d) (λ d a m e k. line_taken now packet_buffer k)
                (between t rolls total now s can).inbound.reverse (acks_of (between t rolls total now s can)) (line_going e second),
          ))
        where
          first : LineAt (None) forward other free n (serve_forward rolls total now s.forward s.inbound).forward
          first = given_out s.forward s.inbound p

          second : ReverseAt (serve_forward rolls total now s.forward s.inbound).stop (serve_forward rolls total now s.forward s.inbound).inbound
          second = serve_at s.forward s.inbound q
