-- What a datagram from the reverse line leaves, by what it is.
use Rattle.std.specs.Prelude.{None, Option, Some}
use Prim.Native.Nat.{ℕ, ◌+◌}
use mathlib.Core.Path.{◌≡◌, refl, sym, ap, ◌∙◌}
use mathlib.Core.Bool.{Bool, true, false, cond}
use mathlib.Core.List.{List}
use Rattle.packet.specs.Reading.{read_datagram}
use Rattle.window.specs.Acknowledgement.{is_in_window}
use Rattle.clock.specs.Clock.{rearm_after_ack, sample_rtt}
use Rattle.clock.specs.declared.Timing.{Timing}
use Rattle.session.specs.Sending.{window_of, oldest_outstanding, handle_ack, acknowledged}
use Rattle.session.specs.GoodSender.{SenderUnbroken}
use Rattle.session.proofs.Laws.{ack_accepted, ack_not_accepted}
use Rattle.acks.specs.Acks.{AckState, ack_state, ack_number, sample_seq, on_accepted, counted, duplicate, is_accepted, by_number, on_ack}
use Rattle.acks.proofs.Calls.{acked, answered, dropped_law, answered_is}

module _ (timing : Timing) (now : ℕ) (raw : List ℕ) (s : AckState) where
  -- anything else than a valid ACK is dropped uncounted
  pub on_ack_dropped : ack_number (read_datagram raw) ≡ None → on_ack timing now raw s ≡ s
  on_ack_dropped e = sym (dropped_law timing now raw s (sym e) refl)

  module _ (n : ℕ) (h : SenderUnbroken s.sender) (e : ack_number (read_datagram raw) ≡ Some n) where
    -- of a number that isn't outstanding: the two counts, and nothing else
    pub on_ack_duplicate : is_in_window (window_of s.sender.sender) n ≡ false → on_ack timing now raw s ≡ ack_state s.sender s.estimator s.clock s.metas (s.received + 1) (s.duplicates + 1)
    on_ack_duplicate i = sym (ap (answered timing now raw s n) (ack_not_accepted s.sender n i ∙ sym (acked s.sender raw h n e)) ∙ answered_is timing now raw s n e)

    pub on_ack_accepted : is_in_window (window_of s.sender.sender) n ≡ true → on_ack timing now raw s ≡ on_accepted timing now n (sample_seq s.sender.sender.state n) (counted s (acknowledged s.sender n))
    on_ack_accepted i = sym (ap (answered timing now raw s n) (ack_accepted s.sender n i refl ∙ sym (acked s.sender raw h n e)) ∙ answered_is timing now raw s n e)

  -- the sample first, then the timer with the RTO that results
  pub on_accepted_is : (n seq : ℕ)
      → on_accepted timing now n seq s
      ≡ ack_state s.sender (sample_rtt s.estimator s.metas seq now).estimator
      (rearm_after_ack timing s.clock (sample_rtt s.estimator s.metas seq now).metas (record { time = now; seq = n; rto = (sample_rtt s.estimator s.metas seq now).estimator.current_rto; oldest = oldest_outstanding s.sender.sender }))
      (sample_rtt s.estimator s.metas seq now).metas s.received s.duplicates
  unfolding on_accepted
  on_accepted_is n seq = refl

  -- whatever holds of these three exits holds of the call's
  pub by_ack : (P : AckState → Type 0) → P s → P (duplicate (counted s (handle_ack s.sender raw).after)) → ((n : ℕ) → P (on_accepted timing now n (sample_seq s.sender.sender.state n) (counted s (handle_ack s.sender raw).after))) → P (on_ack timing now raw s)
  unfolding on_ack
  by_ack P dropped twice accepted = go (ack_number (read_datagram raw))
    where
      test : (n : ℕ) (b : Bool) → P (cond b (on_accepted timing now n (sample_seq s.sender.sender.state n) (counted s (handle_ack s.sender raw).after)) (duplicate (counted s (handle_ack s.sender raw).after)))
      test n true = accepted n
      test n false = twice

      go : (x : Option ℕ) → P (by_number x timing now raw s)
      go None = dropped
      go (Some n) = test n (is_accepted (handle_ack s.sender raw).answer)
