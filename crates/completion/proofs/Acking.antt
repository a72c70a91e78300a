-- A copy that the reverse line hands over, and all that are due: the ends stay those of a list of calls.
use Rattle.std.specs.Prelude.{Ok, Some}
use Prim.Native.Nat.{ℕ}
use mathlib.Core.Path.{◌≡◌}
use mathlib.Core.List.{List}
use Rattle.path.specs.Direction.{Direction}
use Rattle.path.specs.Path.{left_by_take, packet_buffer}
use Rattle.path.proofs.Laws.{take_each, take_front}
use Rattle.clock.specs.declared.Timing.{Timing}
use Rattle.session.specs.Receiving.{ReceiverEnd}
use Rattle.acks.specs.Acks.{AckState, on_accepted, on_ack}
use Rattle.acks.specs.Reverse.{serve_reverse, CanServeReverse}
use Rattle.acks.proofs.Laws.{by_ack, next_taken, next_state, turn_good, serve_reverse_invariant}
use Rattle.completion.proofs.Reached.{Start, RunWorld}
use Rattle.completion.proofs.Follows.{WholeOf, FollowsIn, Follows, on_lines, ack_follows}

-- what is no valid ACK is no call
module _ (timing : Timing) (now : ℕ) {raw : List ℕ} (a : AckState) {s : Start} {u : RunWorld s} {r : ReceiverEnd} {output : List ℕ} {forward reverse : Direction} where
  pub on_ack_follows : FollowsIn s u a.sender r output forward reverse → WholeOf u.replies raw → Follows s (on_ack timing now raw a).sender r output forward reverse
  unfolding on_accepted
  on_ack_follows f m = by_ack timing now raw a (λ (x : AckState). Follows s x.sender r output forward reverse) (record { world = u; holds = f }) (ack_follows f m) (λ n. ack_follows f m)

-- ---- a turn of the loop, and the loop
module _ (timing : Timing) (now : ℕ) (s : Start) (r : ReceiverEnd) (output : List ℕ) (forward : Direction) where
  record Acks (d : Direction) (a : AckState) : Type 0 where
    can : CanServeReverse d a now
    follows : Follows s a.sender r output forward d

  turn_follows : (d : Direction) (a : AckState) (n : ℕ) → (next_taken now d).result.answer ≡ Ok (Some n) → Acks d a → Acks (left_by_take (next_taken now d)) (next_state timing now d a n)
  turn_follows d a n e q =
      let f = q.follows.holds in
      let left = on_lines f f.forward_copies (take_each d now packet_buffer q.can.sound f.reverse_copies) in
      record { can = turn_good timing now d a q.can n e; follows = on_ack_follows timing now a left (take_front d now packet_buffer q.can.sound f.reverse_copies n e) }

  pub serve_reverse_follows : (d : Direction) (a : AckState) → CanServeReverse d a now → Follows s a.sender r output forward d → Follows s (serve_reverse timing now d a).state.sender r output forward (serve_reverse timing now d a).reverse
  serve_reverse_follows d a can f = (serve_reverse_invariant timing now Acks turn_follows d a (record { can = can; follows = f })).follows
