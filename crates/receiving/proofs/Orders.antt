-- What a run needs besides of the forward line's loop: on the reverse line the copies that wait and the orders given out rise together, and the times of the notes stay.
use Prim.Native.Nat.{ℕ}
use mathlib.Core.Bool.{true}
use mathlib.Core.List.{List, []}
use lib.ListN.{take}
use lib.Ieee.{Float}
use Rattle.packet.specs.Format.{new_packet, made}
use Rattle.packet.specs.declared.PacketType.TheVariants as packetType
use Rattle.notes.specs.Notes.{Timely, SegMetas}
use Rattle.notes.proofs.Laws.{timely_mark}
use Rattle.path.specs.Direction.{Direction}
use Rattle.path.proofs.Laws.{RiseAlike, rise_same, rise_then, carry_orders}
use Rattle.receiving.specs.Receiving.{Inbound, ForwardExit, received, submit_ack, on_forward, serve_forward}
use Rattle.receiving.proofs.Kept.{forward_either, metas_either}
use Rattle.receiving.proofs.Serving.{next_taken}
use Rattle.receiving.proofs.Turns.{serve_keeps}

module _ (rolls : List Float) (total now : ℕ) where
  pub forward_orders : (raw : List ℕ) (b : Inbound) → RiseAlike b.reverse (on_forward rolls total now raw b).inbound.reverse
  unfolding submit_ack received
  forward_orders raw b =
      forward_either rolls total now raw b (λ (x : ForwardExit). RiseAlike b.reverse x.inbound.reverse) (λ h. rise_same b.reverse) (λ h. rise_same b.reverse)
      (λ h n e. carry_orders b.reverse rolls true now (made (new_packet n packetType.Ack) []))

  pub forward_timely : (raw : List ℕ) (b : Inbound) → Timely b.metas now → Timely (on_forward rolls total now raw b).inbound.metas now
  unfolding received
  forward_timely raw b t =
      forward_either rolls total now raw b (λ (x : ForwardExit). Timely x.inbound.metas now) (λ h. t) (λ h. t)
      (λ h n e. metas_either rolls now n (made (new_packet n packetType.Ack) []) (received total now raw b) (λ (m : SegMetas). Timely m now) (timely_mark _ _ _ _ t) t)

  pub serve_timely : (f : Direction) (c : Inbound) → Timely c.metas now → Timely (serve_forward rolls total now f c).inbound.metas now
  serve_timely f c t = serve_keeps rolls total now (λ g d. Timely d.metas now) (λ g d n e q. forward_timely (take n (next_taken now g).out) d q) f c t

  pub serve_orders : (f : Direction) (c : Inbound) → RiseAlike c.reverse (serve_forward rolls total now f c).inbound.reverse
  serve_orders f c =
      serve_keeps rolls total now (λ g d. RiseAlike c.reverse d.reverse)
      (λ g d n e q. rise_then q (forward_orders (take n (next_taken now g).out) d)) f c (rise_same c.reverse)
