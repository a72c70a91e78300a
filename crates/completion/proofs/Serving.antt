-- A copy that the forward line hands over, and all that are due: the ends stay those of a list of calls.
use Rattle.std.specs.Prelude.{Ok, Some}
use Prim.Native.Nat.{ℕ}
use mathlib.Core.Path.{◌≡◌, refl, sym, ap, ◌∙◌, subst}
use mathlib.Core.Bool.{Bool, true, false}
use mathlib.Core.List.{List, [], ◌∷◌, ◌++◌}
use lib.Ieee.{Float}
use lib.ListN.{take}
use Rattle.packet.specs.Format.{new_packet, made}
use Rattle.packet.specs.Reading.{read_datagram}
use Rattle.packet.specs.declared.PacketType.TheVariants.{Ack}
use Rattle.packet.proofs.Laws.{made_length}
use Rattle.channel.proofs.Laws.{NoFaults}
use native.Mathlib.Omega.{arith}
use Rattle.path.specs.Direction.{Direction}
use Rattle.path.specs.Path.{left_by_take, packet_buffer, CanCarry}
use Rattle.path.proofs.Laws.{EachWaiting, take_each, take_front}
use Rattle.delivery.specs.Calls.{step}
use Rattle.delivery.specs.Ends.{ends}
use Rattle.session.specs.Sending.{SenderEnd}
use Rattle.session.specs.Receiving.{ReceiverEnd, receiver_end}
use Rattle.session.proofs.Laws.{ack_packets, replied_packets_lem}
use Rattle.receiving.specs.Receiving.{Inbound, ForwardExit, ack_buffer, handled, received, submit_ack, is_data, on_forward, serve_forward}
use Rattle.receiving.specs.Good.{CanOnForward, CanServeForward}
use Rattle.receiving.proofs.Laws.{forward_either, forward_dropped, forward_delivers, forward_keeps, next_taken, next_exit, can_hand_over, turn_good, serve_keeps}
use Rattle.completion.proofs.Reached.{Start, RunWorld}
use Rattle.completion.proofs.Follows.{CopyOf, WholeOf, whole_of_new, whole_one, FollowsIn, Follows, on_lines, packet_call, packet_follows, packet_replied}
use Rattle.completion.proofs.Lines.{carry_each_whole}

abbrev pub end_of : Inbound → ReceiverEnd
end_of b = receiver_end b.side.receiver b.store

-- the invariant of a run's parts, with the receiving side and the forward line
abbrev pub FollowsInbound : Start → SenderEnd → Direction → Inbound → Type 0
FollowsInbound s v forward b = Follows s v (end_of b) b.output forward b.reverse

module _ (rolls : List Float) (total now : ℕ) (raw : List ℕ) (b : Inbound) (can : CanOnForward b rolls now) (none : NoFaults b.reverse.path.channel.config) where
  can_carry : (n : ℕ) → CanCarry b.reverse rolls now (made (new_packet n Ack) [])
  can_carry n = record { good = can.good.reverse; in_time = can.in_time; short = omega (arith, made_length (new_packet n Ack) []) }

  -- each copy that waits on the reverse line has P, if the ACK that goes out has it
  reverse_each : {P : List ℕ → Type 0} → ((n : ℕ) → (handled raw b).answer ≡ Ok (Some n) → P (made (new_packet n Ack) [])) → EachWaiting P b.reverse → EachWaiting P (on_forward rolls total now raw b).inbound.reverse
  unfolding submit_ack received
  reverse_each {P} each a =
      forward_either rolls total now raw b (λ (x : ForwardExit). EachWaiting P x.inbound.reverse) (λ h. a) (λ h. a)
      (λ h n e. carry_each_whole b.reverse rolls true now (made (new_packet n Ack) []) (can_carry n) none (each n e) a)

  -- a copy that is handed over: what reads as no Data is no call
  pub on_forward_follows : {s : Start} {u : RunWorld s} {v : SenderEnd} {forward : Direction} → FollowsIn s u v (end_of b) b.output forward b.reverse → CopyOf u.sent raw → FollowsInbound s v forward (on_forward rolls total now raw b).inbound
  on_forward_follows {s} {u} {v} {forward} f m = go (is_data (read_datagram raw)) refl
    where
      after : RunWorld s
      after = step (ends s.protocol) u (packet_call f m ack_buffer)

      replied : (n : ℕ) → (handled raw b).answer ≡ Ok (Some n) → WholeOf after.replies (made (new_packet n Ack) [])
      replied n e =
          subst (λ (l : List (List ℕ)). WholeOf l (made (new_packet n Ack) [])) (sym (packet_replied f m ack_buffer ∙ ap (λ (l : List (List ℕ)). u.replies ++ l) (replied_packets_lem (end_of b) raw b.output ack_buffer ∙ ap ack_packets e)))
          (whole_of_new u.replies (made (new_packet n Ack) [] ∷ []) (made (new_packet n Ack) []) (whole_one (made (new_packet n Ack) [])))

      go : (t : Bool) → is_data (read_datagram raw) ≡ t → FollowsInbound s v forward (on_forward rolls total now raw b).inbound
      go false h = subst (λ (x : ForwardExit). FollowsInbound s v forward x.inbound) (sym (forward_dropped rolls total now raw b h)) (record { world = u; holds = f })
      go true h =
          let d = forward_delivers rolls total now raw b h in
          let g = packet_follows f m ack_buffer in
          record {
            world = after;
            holds = rw (d.receiver, d.output) (on_lines g g.forward_copies (reverse_each replied g.reverse_copies));
          }

-- ---- a turn of the loop, and the loop
pub record Serves (s : Start) (v : SenderEnd) (rolls : List Float) (now : ℕ) (forward : Direction) (b : Inbound) : Type 0 where
  pub can : CanServeForward forward b rolls now
  pub no_faults : NoFaults b.reverse.path.channel.config
  pub follows : FollowsInbound s v forward b

module _ (rolls : List Float) (total now : ℕ) {s : Start} {v : SenderEnd} where
  pub turn_follows : (forward : Direction) (b : Inbound) (n : ℕ) → (next_taken now forward).result.answer ≡ Ok (Some n) → Serves s v rolls now forward b → Serves s v rolls now (left_by_take (next_taken now forward)) (next_exit rolls total now forward b n).inbound
  turn_follows forward b n e q =
      let raw = take n (next_taken now forward).out in
      let on = can_hand_over rolls total now forward b q.can n e in
      let f = q.follows.holds in
      let g = on_lines f (take_each forward now packet_buffer q.can.sound f.forward_copies) f.reverse_copies in
      record {
        can = turn_good rolls total now forward b q.can n e;
        no_faults = subst NoFaults (sym (forward_keeps rolls total now raw b on).reverse.config) q.no_faults;
        follows = on_forward_follows rolls total now raw b on q.no_faults g (take_front forward now packet_buffer q.can.sound f.forward_copies n e);
      }

  pub serve_forward_follows : (forward : Direction) (b : Inbound) → Serves s v rolls now forward b → Serves s v rolls now (serve_forward rolls total now forward b).forward (serve_forward rolls total now forward b).inbound
  serve_forward_follows forward b q = serve_keeps rolls total now (λ (f : Direction) (c : Inbound). Serves s v rolls now f c) turn_follows forward b q
