-- The timers beside the sender after a datagram from the reverse line.
use Rattle.std.specs.Prelude.{None, Ok, Option, Some}
use Prim.Native.Nat.{ℕ}
use mathlib.Core.Path.{◌≡◌, refl, sym, ap, ◌∙◌, subst}
use mathlib.Core.Bool.{Bool, true, false}
use mathlib.Core.List.{List}
use lib.ListN.{take}
use Rattle.packet.specs.Reading.{read_datagram}
use Rattle.window.specs.Acknowledgement.{is_in_window, AckExit, ack_exit}
use Rattle.path.specs.Direction.{Direction}
use Rattle.clock.specs.Clock.{sample_rtt, Held}
use Rattle.clock.specs.Timers.{GoodTimers}
use Rattle.clock.specs.declared.Timing.{Timing}
use Rattle.clock.specs.declared.Timing.TheVariants.{PerNumber}
use Rattle.clock.proofs.Laws.{rearm_timers}
use Rattle.session.specs.Sending.{SenderEnd, window_of, oldest_outstanding, handle_ack, acknowledged}
use Rattle.session.specs.GoodSender.{is_selective, SenderUnbroken}
use Rattle.session.proofs.Laws.{ack_accepted, ack_keeps_sender, acknowledged_due}
use Rattle.acks.specs.Acks.{AckState, ack_number, sample_seq, on_accepted, counted, on_ack}
use Rattle.acks.specs.Reverse.{serve_reverse, CanServeReverse}
use Rattle.acks.proofs.Answers.{on_ack_dropped, on_ack_duplicate, on_ack_accepted, on_accepted_is}
use Rattle.acks.proofs.Calls.{acked}
use Rattle.acks.proofs.Keeps.{on_ack_keeps}
use Rattle.acks.proofs.Serving.{next_taken, can_hand_over, turn_good}
use Rattle.acks.proofs.Turns.{serve_reverse_invariant}

module _ (timing : Timing) (now : ℕ) (raw : List ℕ) (s : AckState) where
  abbrev Kept : AckState → Type 0
  Kept y = GoodTimers timing y.sender y.clock

  -- the ACK of an outstanding number: its timer is cancelled, the others' numbers are due as before
  accepted_timers : (n : ℕ) → SenderUnbroken s.sender → ack_number (read_datagram raw) ≡ Some n → Held s.clock → (timing ≡ PerNumber → is_selective s.sender.sender.state ≡ true) → is_in_window (window_of s.sender.sender) n ≡ true → Kept s
      → Kept (on_accepted timing now n (sample_seq s.sender.sender.state n) (counted s (acknowledged s.sender n)))
  accepted_timers n h e held selective i g =
      let seq = sample_seq s.sender.sender.state n in
      let v = acknowledged s.sender n in
      let is : handle_ack s.sender raw ≡ ack_exit (Ok true) v = acked s.sender raw h n e ∙ sym (ack_accepted s.sender n i refl) in
      let x = sample_rtt s.estimator s.metas seq now in
      subst Kept (sym (on_accepted_is timing now raw (counted s v) n seq))
      (rearm_timers timing s.sender v s.clock x.metas (record { time = now; seq = n; rto = x.estimator.current_rto; oldest = oldest_outstanding v.sender }) g held
      (λ q key other d. acknowledged_due s.sender n key h.state (selective q) i other d) (ap (λ (y : AckExit SenderEnd). (window_of y.after.sender).window_size) (sym is) ∙ (ack_keeps_sender s.sender raw).size))

  pub on_ack_timers : SenderUnbroken s.sender → Held s.clock → (timing ≡ PerNumber → is_selective s.sender.sender.state ≡ true)
      → GoodTimers timing s.sender s.clock → GoodTimers timing (on_ack timing now raw s).sender (on_ack timing now raw s).clock
  on_ack_timers h held selective g = by_number_lem (ack_number (read_datagram raw)) refl
    where
      by_test_lem : (n : ℕ) → ack_number (read_datagram raw) ≡ Some n → (b : Bool) → is_in_window (window_of s.sender.sender) n ≡ b → Kept (on_ack timing now raw s)
      by_test_lem n e true i = subst Kept (sym (on_ack_accepted timing now raw s n h e i)) (accepted_timers n h e held selective i g)
      by_test_lem n e false i = subst Kept (sym (on_ack_duplicate timing now raw s n h e i)) g

      by_number_lem : (x : Option ℕ) → ack_number (read_datagram raw) ≡ x → Kept (on_ack timing now raw s)
      by_number_lem None e = subst Kept (sym (on_ack_dropped timing now raw s e)) g
      by_number_lem (Some n) e = by_test_lem n e (is_in_window (window_of s.sender.sender) n) refl

-- the loop over what is due on the reverse line
pub serve_reverse_timers : (timing : Timing) (now : ℕ) (d : Direction) (s : AckState) → CanServeReverse d s now → (timing ≡ PerNumber → is_selective s.sender.sender.state ≡ true)
    → GoodTimers timing s.sender s.clock → GoodTimers timing (serve_reverse timing now d s).state.sender (serve_reverse timing now d s).state.clock
serve_reverse_timers timing now d s can selective g =
    (serve_reverse_invariant timing now (λ d s. CanServeReverse d s now × ((timing ≡ PerNumber → is_selective s.sender.sender.state ≡ true) × GoodTimers timing s.sender s.clock))
    (λ d s n e q.
    let raw = take n (next_taken now d).out in
    let on = can_hand_over timing now d s q.0 n e in
    (turn_good timing now d s q.0 n e, ((λ p. (on_ack_keeps timing now s on raw).sender.selective ∙ q.1.0 p), on_ack_timers timing now raw s on.good.sender on.good.clock q.1.0 q.1.1)))
    d s (can, (selective, g))).1.1
