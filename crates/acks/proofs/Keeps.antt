-- What every ACK keeps.
use Prim.Native.Nat.{ℕ, ◌+◌, ◌≤◌}
use native.Mathlib.Omega.{arith}
use mathlib.Core.Path.{◌≡◌, refl, sym, ap, ◌∙◌}
use mathlib.Core.List.{List}
use lib.ListN.{length}
use Rattle.multi_timer.proofs.Laws.{cancel_holds, cancel_times}
use Rattle.notes.specs.Notes.{SegMetas}
use Rattle.notes.proofs.Laws.{sample_notes}
use Rattle.clock.specs.Clock.{ClockState, timer_of, timers_of, is_outstanding, cancel_number, Accepted, rearm_after_ack, sample_rtt, Held, CanRearm}
use Rattle.clock.specs.declared.Timing.{Timing}
use Rattle.clock.specs.declared.Timing.TheVariants.{Single, PerNumber, Edition}
use Rattle.clock.proofs.Laws.{arm_oldest_held, on_ack_held, held_lengths, ack_keys, sample_rtt_metas, sample_rtt_counts, estimator_more, sampled_good, rto_within, sampled_timely, sampled_scheduled, sampled_length}
use Rattle.clock.proofs.Laws as clock-laws
use Rattle.session.specs.Sending.{SenderEnd, handle_ack, oldest_outstanding}
use Rattle.session.specs.GoodSender.{SenderUnbroken, GoodSender}
use Rattle.session.proofs.Laws.{AckKeepsSender, sender_keeps_same, sender_keeps_then, ack_keeps_sender, ack_good}
use Rattle.acks.specs.Acks.{AckState, sample_seq, on_accepted, counted, on_ack}
use Rattle.acks.specs.Good.{GoodAcks, CanOnAck}
use Rattle.acks.proofs.Calls.{acked_unbroken}
use Rattle.acks.proofs.Answers.{by_ack}

-- of the sender all but what is acknowledged; of the estimator its setup and the counts of timeouts; the numbers noted, and the lengths of the slices
pub record AckKeeps (s s' : AckState) : Type 0 where
  pub sender : AckKeepsSender s.sender s'.sender
  pub good : (k : ℕ) → GoodSender s.sender k → GoodSender s'.sender k
  pub config : s'.estimator.config ≡ s.estimator.config
  pub timeouts : s'.estimator.stats.timeout_count ≡ s.estimator.stats.timeout_count
  pub backoffs : s'.estimator.stats.backoff_count ≡ s.estimator.stats.backoff_count
  pub notes : s'.metas.notes ≡ s.metas.notes
  pub rows : length s'.metas.rows ≡ length s.metas.rows
  pub keys : length s'.clock.keys ≡ length s.clock.keys
  pub deadlines : length s'.clock.deadlines ≡ length s.clock.deadlines

pub ack_keeps_same : (s : AckState) → AckKeeps s s
ack_keeps_same s = record { sender = sender_keeps_same s.sender; good = λ k g. g; config = refl; timeouts = refl; backoffs = refl; notes = refl; rows = refl; keys = refl; deadlines = refl }

pub ack_keeps_then : {a b c : AckState} → AckKeeps a b → AckKeeps b c → AckKeeps a c
ack_keeps_then p q =
    record {
      sender = sender_keeps_then p.sender q.sender;
      good = λ k g. q.good k (p.good k g);
      config = q.config ∙ p.config;
      timeouts = q.timeouts ∙ p.timeouts;
      backoffs = q.backoffs ∙ p.backoffs;
      notes = q.notes ∙ p.notes;
      rows = q.rows ∙ p.rows;
      keys = q.keys ∙ p.keys;
      deadlines = q.deadlines ∙ p.deadlines;
    }

-- a state and the state after it, where k copies waited before and j wait now
pub record AckCounts (k j : ℕ) (s s' : AckState) : Type 0 where
  pub received : (s.received ≤ s'.received) × (s'.received + j ≤ s.received + k)
  pub duplicates : (s.duplicates ≤ s'.duplicates) × (s'.duplicates + j ≤ s.duplicates + k)

-- ---- the timers
ack_held : (t : Timing) (s : ClockState) (m : SegMetas) (x : Accepted) → CanRearm s m x.time x.rto → Held (rearm_after_ack t s m x)
unfolding rearm_after_ack cancel_number
ack_held Single s m x can = record { timer = arm_oldest_held (timer_of s) can.held.timer m x.time x.oldest can.notes; state = can.held.state; times = can.held.times }
ack_held PerNumber s m x can = record { timer = can.held.timer; state = (cancel_holds (timers_of s) s.keys s.deadlines can.held.state x.seq).state; times = cancel_times (timers_of s) s.keys s.deadlines can.held.state can.held.times x.seq }
ack_held Edition s m x can = record { timer = on_ack_held (timer_of s) can.held.timer (is_outstanding x.oldest) x.time x.rto can.notes.within can.short; state = can.held.state; times = can.held.times }

module _ (timing : Timing) (now : ℕ) (s : AckState) (can : CanOnAck s now) where
  sampled_rearm : (seq : ℕ) → CanRearm s.clock (sample_rtt s.estimator s.metas seq now).metas now (sample_rtt s.estimator s.metas seq now).estimator.current_rto
  sampled_rearm seq = record { held = can.good.clock; notes = sampled_timely s.estimator s.metas seq now can.good.notes; short = rto_within s.estimator s.received can.good.estimator s.metas now can.good.notes seq }

  module _ (n seq : ℕ) (v : SenderEnd) where
    abbrev set : Accepted
    set = record { time = now; seq = n; rto = (sample_rtt s.estimator s.metas seq now).estimator.current_rto; oldest = oldest_outstanding v.sender }

    accepted_good : SenderUnbroken v → GoodAcks (on_accepted timing now n seq (counted s v)) now
    unfolding on_accepted
    accepted_good u =
        record {
          sender = u;
          estimator = sampled_good s.estimator s.received can.good.estimator s.metas now can.good.notes seq;
          clock = ack_held timing s.clock _ set (sampled_rearm seq);
          notes = sampled_timely s.estimator s.metas seq now can.good.notes;
          scheduled = sampled_scheduled s.estimator s.metas seq now can.good.scheduled;
          duplicates = omega (arith, can.good.duplicates);
        }

    accepted_keeps : AckKeeps s (counted s v) → AckKeeps s (on_accepted timing now n seq (counted s v))
    unfolding on_accepted
    accepted_keeps h =
        let k = ack_keys s.clock can.good.clock.state timing (sample_rtt s.estimator s.metas seq now).metas set in
        let c = sample_rtt_counts s.estimator s.metas seq now in
        record {
          sender = h.sender;
          good = h.good;
          config = c.config;
          timeouts = c.timeouts;
          backoffs = c.backoffs;
          notes = ap (λ (m : SegMetas). m.notes) (sample_rtt_metas s.estimator s.metas seq now) ∙ sample_notes s.metas seq now;
          rows = sampled_length s.estimator s.metas seq now;
          keys = k;
          deadlines = sym (held_lengths _ (ack_held timing s.clock _ set (sampled_rearm seq))) ∙ k ∙ held_lengths s.clock can.good.clock;
        }

    accepted_clock : {low high : ℕ} → clock-laws.Good low high s.clock → clock-laws.Good low high (on_accepted timing now n seq (counted s v)).clock
    unfolding on_accepted
    accepted_clock g = clock-laws.ack_good g timing _ set (sampled_rearm seq)

  module _ (raw : List ℕ) where
    pub on_ack_good : GoodAcks (on_ack timing now raw s) now
    on_ack_good =
        let u = acked_unbroken s.sender raw can.good.sender in
        by_ack timing now raw s (λ (y : AckState). GoodAcks y now) can.good
        (record { sender = u; estimator = estimator_more s.estimator s.received can.good.estimator (s.received + 1) (omega arith); clock = can.good.clock; notes = can.good.notes; scheduled = can.good.scheduled; duplicates = omega (arith, can.good.duplicates) })
        (λ n. accepted_good n (sample_seq s.sender.sender.state n) (handle_ack s.sender raw).after u)

    pub on_ack_keeps : AckKeeps s (on_ack timing now raw s)
    on_ack_keeps =
        let v = (handle_ack s.sender raw).after in
        let h : AckKeeps s (counted s v) = record { sender = ack_keeps_sender s.sender raw; good = ack_good s.sender raw; config = refl; timeouts = refl; backoffs = refl; notes = refl; rows = refl; keys = refl; deadlines = refl } in
        by_ack timing now raw s (AckKeeps s) (ack_keeps_same s)
        (record { sender = h.sender; good = h.good; config = refl; timeouts = refl; backoffs = refl; notes = refl; rows = refl; keys = refl; deadlines = refl })
        (λ n. accepted_keeps n (sample_seq s.sender.sender.state n) v h)

    -- the timers' numbers stay in the window
    pub on_ack_clock : {low high : ℕ} → clock-laws.Good low high s.clock → clock-laws.Good low high (on_ack timing now raw s).clock
    on_ack_clock {low} {high} g = by_ack timing now raw s (λ (y : AckState). clock-laws.Good low high y.clock) g g (λ n. accepted_clock n (sample_seq s.sender.sender.state n) (handle_ack s.sender raw).after g)

-- one valid ACK more at most, and one duplicate at most
accepted_counts : (timing : Timing) (now n seq : ℕ) (s : AckState) (v : SenderEnd) → AckCounts 1 0 s (on_accepted timing now n seq (counted s v))
unfolding on_accepted
accepted_counts timing now n seq s v = record { received = (omega arith, omega arith); duplicates = (omega arith, omega arith) }

pub on_ack_counts : (timing : Timing) (now : ℕ) (raw : List ℕ) (s : AckState) → AckCounts 1 0 s (on_ack timing now raw s)
on_ack_counts timing now raw s =
    by_ack timing now raw s (AckCounts 1 0 s) (record { received = (omega arith, omega arith); duplicates = (omega arith, omega arith) })
    (record { received = (omega arith, omega arith); duplicates = (omega arith, omega arith) })
    (λ n. accepted_counts timing now n (sample_seq s.sender.sender.state n) s (handle_ack s.sender raw).after)
