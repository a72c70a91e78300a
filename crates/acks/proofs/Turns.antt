-- What the loop over the reverse line leaves, turn by turn.
use Rattle.std.specs.Prelude.{None, Ok, Some}
use Prim.Native.Nat.{ℕ, ◌+◌, ◌≤◌}
use mathlib.Core.Path.{◌≡◌, sym, ap, subst}
use mathlib.Core.Bool.{false}
use mathlib.Core.List.{List}
use native.Mathlib.Omega.{arith}
use lib.ListN.{take}
use lib.Ieee.{Float}
use Rattle.bounds.specs.Bounds.{count_limit}
use Rattle.path.specs.Direction.{Direction, Good}
use Rattle.path.specs.Path.{left_by_take, take_ready, packet_buffer, is_taken}
use Rattle.path.proofs.Laws.{EachWaiting, TakeKeeps, take_keeps_same, take_keeps_then, take_count, by_takes, taken_keeps, take_good, take_each, take_front}
use Rattle.clock.specs.declared.Timing.{Timing}
use Rattle.clock.proofs.Laws as clock-laws
use Rattle.acks.specs.Acks.{AckState, on_ack}
use Rattle.acks.specs.Good.{GoodAcks, CanOnAck}
use Rattle.acks.specs.Reverse.{ServeExit, serve_exit, progressed, serve_reverse, CanServeReverse}
use Rattle.acks.proofs.Keeps.{AckKeeps, ack_keeps_same, ack_keeps_then, AckCounts, on_ack_keeps, on_ack_clock, on_ack_counts}
use Rattle.acks.proofs.Serving.{next_taken, next_state, serve_reverse_idle, serve_reverse_next, can_hand_over, turn_good}

module _ (timing : Timing) (now : ℕ) where
  -- whatever holds where nothing is due, and before a turn if it holds after it, holds of the loop
  pub serve_reverse_turns : (R : Direction → AckState → ServeExit → Type 0)
      → ((d : Direction) (s : AckState) → (next_taken now d).result.answer ≡ Ok None → R d s (serve_exit d s false))
      → ((d : Direction) (s : AckState) (n : ℕ) (x : ServeExit) → (next_taken now d).result.answer ≡ Ok (Some n) → R (left_by_take (next_taken now d)) (next_state timing now d s n) x → R d s (progressed x))
      → (d : Direction) (s : AckState) → R d s (serve_reverse timing now d s)
  serve_reverse_turns R idle next =
      by_takes now packet_buffer (next_state timing now) (λ d s. R d s (serve_reverse timing now d s)) (λ d s e. subst (R d s) (sym (serve_reverse_idle timing now d s e)) (idle d s e))
      (λ d s n e rest. subst (R d s) (sym (serve_reverse_next timing now d s n e)) (next d s n _ e rest))

  -- an invariant of the turns holds at the end
  pub serve_reverse_invariant : (Q : Direction → AckState → Type 0)
      → ((d : Direction) (s : AckState) (n : ℕ) → (next_taken now d).result.answer ≡ Ok (Some n) → Q d s → Q (left_by_take (next_taken now d)) (next_state timing now d s n))
      → (d : Direction) (s : AckState) → Q d s → Q (serve_reverse timing now d s).reverse (serve_reverse timing now d s).state
  serve_reverse_invariant Q turn d s = serve_reverse_turns (λ d s x. Q d s → Q x.reverse x.state) (λ d s e q. q) (λ d s n x e rest q. rest (turn d s n e q)) d s

  module _ (d : Direction) (s : AckState) where
    pub serve_reverse_direction_good : (rolls : List Float) → Good d rolls → Good (serve_reverse timing now d s).reverse rolls
    serve_reverse_direction_good rolls good = serve_reverse_invariant (λ d s. Good d rolls) (λ d s n e q. take_good d now packet_buffer rolls q) d s good

    -- no count falls, and none rises by more than the copies handed over
    pub serve_reverse_counts : AckCounts d.path.scheduler.count (serve_reverse timing now d s).reverse.path.scheduler.count s (serve_reverse timing now d s).state
    serve_reverse_counts =
        serve_reverse_turns (λ d s x. AckCounts d.path.scheduler.count x.reverse.path.scheduler.count s x.state)
        (λ d s e. record { received = (omega arith, omega arith); duplicates = (omega arith, omega arith) })
        (λ d s n x e rest.
        let m = on_ack_counts timing now (take n (next_taken now d).out) s in
        let k = take_count d now packet_buffer n e in
        record {
          received = (omega (arith, m.received.0, rest.received.0), omega (arith, m.received.1, rest.received.1, k));
          duplicates = (omega (arith, m.duplicates.0, rest.duplicates.0), omega (arith, m.duplicates.1, rest.duplicates.1, k));
        }) d s

    -- ---- progress, and the end of the loop
    pub serve_reverse_progress : (serve_reverse timing now d s).progress ≡ is_taken (next_taken now d).result.answer
    serve_reverse_progress = serve_reverse_turns (λ d s x. x.progress ≡ is_taken (next_taken now d).result.answer) (λ d s e. ap is_taken (sym e)) (λ d s n x e rest. ap is_taken (sym e)) d s

    -- nothing that is due is left
    pub serve_reverse_drained : (take_ready (serve_reverse timing now d s).reverse now packet_buffer).result.answer ≡ Ok None
    serve_reverse_drained = serve_reverse_turns (λ d s x. (take_ready x.reverse now packet_buffer).result.answer ≡ Ok None) (λ d s e. e) (λ d s n x e rest. rest) d s

    -- ---- where the loop can be asked
    module _ (can : CanServeReverse d s now) where
      pub serve_reverse_good : CanServeReverse (serve_reverse timing now d s).reverse (serve_reverse timing now d s).state now
      serve_reverse_good = serve_reverse_invariant (λ d s. CanServeReverse d s now) (λ d s n e q. turn_good timing now d s q n e) d s can

      -- of the reverse line only the waiting copies have changed
      pub serve_reverse_keeps_direction : TakeKeeps d (serve_reverse timing now d s).reverse
      serve_reverse_keeps_direction =
          serve_reverse_turns (λ d s x. CanServeReverse d s now → TakeKeeps d x.reverse) (λ d s e can. take_keeps_same d)
          (λ d s n x e rest can. take_keeps_then (taken_keeps d now packet_buffer can.sound can.times) (rest (turn_good timing now d s can n e))) d s can

      -- what each ACK keeps of the sender, the estimator, the notes and the timers
      pub serve_reverse_keeps : AckKeeps s (serve_reverse timing now d s).state
      serve_reverse_keeps =
          serve_reverse_turns (λ d s x. CanServeReverse d s now → AckKeeps s x.state) (λ d s e can. ack_keeps_same s)
          (λ d s n x e rest can. ack_keeps_then (on_ack_keeps timing now s (can_hand_over timing now d s can n e) (take n (next_taken now d).out)) (rest (turn_good timing now d s can n e))) d s can

      module _ {P : List ℕ → Type 0} (a : EachWaiting P d) where
        turned : (Q : AckState → Type 0) → ((raw : List ℕ) (s : AckState) → P raw → CanOnAck s now → Q s → Q (on_ack timing now raw s)) → Q s
            → CanServeReverse (serve_reverse timing now d s).reverse (serve_reverse timing now d s).state now × EachWaiting P (serve_reverse timing now d s).reverse × Q (serve_reverse timing now d s).state
        turned Q keeps q =
            serve_reverse_invariant (λ d s. CanServeReverse d s now × EachWaiting P d × Q s)
            (λ d s n e h. (turn_good timing now d s h.0 n e, take_each d now packet_buffer h.0.sound h.1, keeps (take n (next_taken now d).out) s (take_front d now packet_buffer h.0.sound h.1 n e) (can_hand_over timing now d s h.0 n e) h.2))
            d s (can, a, q)

        -- each copy that still waits waited before
        pub serve_reverse_each : EachWaiting P (serve_reverse timing now d s).reverse
        serve_reverse_each = (turned (λ s. Unit {0}) (λ raw s p on q. tt) tt).1

        -- whatever an ACK keeps whose bytes are a waiting copy's, the loop keeps
        pub serve_reverse_each_ack : (Q : AckState → Type 0) → ((raw : List ℕ) (s : AckState) → P raw → CanOnAck s now → Q s → Q (on_ack timing now raw s)) → Q s → Q (serve_reverse timing now d s).state
        serve_reverse_each_ack Q keeps q = (turned Q keeps q).2

      -- the timers' numbers stay in the window
      pub serve_reverse_clock : {low high : ℕ} → clock-laws.Good low high s.clock → clock-laws.Good low high (serve_reverse timing now d s).state.clock
      serve_reverse_clock {low} {high} g =
          (serve_reverse_invariant (λ d s. CanServeReverse d s now × clock-laws.Good low high s.clock)
          (λ d s n e h. (turn_good timing now d s h.0 n e, on_ack_clock timing now s (can_hand_over timing now d s h.0 n e) (take n (next_taken now d).out) h.1)) d s (can, g)).1

-- what the loop asks is met by a good direction and a good state, if their copies and ACKs are few
pub good_can_serve_reverse : {d : Direction} {s : AckState} {rolls : List Float} {now : ℕ} → Good d rolls → GoodAcks s now → s.received + d.path.scheduler.count ≤ count_limit → CanServeReverse d s now
good_can_serve_reverse good g few = record { sound = good.sound; times = good.times; cleared = good.cleared; good = g; few = few }
