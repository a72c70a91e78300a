-- On the source's timing no timer is set further ahead than the largest RTO.
use Rattle.std.specs.Prelude.{None, Some, Option}
use Prim.Native.Nat.{ℕ, ◌+◌, ◌-◌, ◌≤◌, ◌<◌}
use native.Mathlib.Omega.{arith}
use mathlib.Core.Path.{◌≡◌, refl, sym, ap, ◌∙◌, subst}
use mathlib.Core.Bool.{Bool, true, false, cond, ◌||◌}
use mathlib.Core.List.{List}
use lib.Dec.{eqb}
use lib.Ieee.{Float}
use lib.ListN.{take}
use borrow.Author.Tests.{ltb-true}
use Rattle.packet.specs.Reading.{read_datagram}
use Rattle.window.specs.Acknowledgement.{is_in_window}
use Rattle.timer.specs.Timer.{started_at_unchecked, cancelled_unchecked}
use Rattle.timer.specs.declared.RetransmissionTimer.{RetransmissionTimer}
use Rattle.multi_timer.specs.Map.{Entry, lookup, put, remove}
use Rattle.multi_timer.proofs.Laws.{lookup_put, lookup_remove}
use Rattle.rto.specs.declared.RtoEstimator.{RtoEstimator}
use Rattle.notes.specs.Notes.{SegMetas, meta_at, is_noted, rto_at_send, deadline_of, expiry, Timely}
use Rattle.path.specs.Direction.{Direction}
use Rattle.clock.specs.Clock.{ClockState, timer_of, with_timer, is_oldest, arm_until, arm_oldest, Submission, arm_after_submit, Accepted, rearm_after_ack, cancel, sample_rtt, Held, CanArm}
use Rattle.clock.specs.declared.Timing.{Timing}
use Rattle.clock.specs.declared.Timing.TheVariants.{Single, PerNumber, Edition}
use Rattle.clock.proofs.Laws.{running, submit_entries, cancel_number_entries, sampled_timely}
use Rattle.session.specs.Sending.{window_of, oldest_outstanding, acknowledged}
use Rattle.acks.specs.Acks.{AckState, ack_number, sample_seq, on_accepted, counted, on_ack}
use Rattle.acks.specs.Good.{CanOnAck}
use Rattle.acks.specs.Reverse.{serve_reverse, CanServeReverse}
use Rattle.acks.proofs.Laws.{on_ack_dropped, on_ack_duplicate, on_ack_accepted, on_accepted_is, next_taken, can_hand_over, turn_good, serve_reverse_invariant}
use Rattle.arrivals.specs.Arrivals.{ArrivalState, ArrivalExit, acks_of, serve_arrivals, CanServeArrivals}
use Rattle.arrivals.proofs.Laws.{between, can_serve_reverse, either_exit}
use Rattle.timeouts.specs.Timeouts.{stopped}
use Rattle.run_timers.proofs.Notes.{Limited, sampled_limited, Short, short_rto, short_sampled, serve_short}

-- no timer of the timing is set more than `top` ahead
pub record Near (top : ℕ) (t : Timing) (now : ℕ) (c : ClockState) : Type 0 where
  pub timer : t ≡ Single → (d : ℕ) → (timer_of c).deadline ≡ Some d → d ≤ now + top
  pub numbers : t ≡ PerNumber → (n d : ℕ) → lookup n (running c) ≡ Some d → d ≤ now + top

pub near_later : {top : ℕ} {t : Timing} {now later : ℕ} {c : ClockState} → now ≤ later → Near top t now c → Near top t later c
near_later h q = record { timer = λ i d e. let k = q.timer i d e in omega (arith, h, k); numbers = λ i n d e. let k = q.numbers i n d e in omega (arith, h, k) }

single_other : {A : Type 0} → Single ≡ PerNumber → A
single_other e = let z : ◌≡◌ {A = ℕ} 0 1 = cc in absurd (omega arith)

number_other : {A : Type 0} → PerNumber ≡ Single → A
number_other e = let z : ◌≡◌ {A = ℕ} 0 1 = cc in absurd (omega arith)

edition_single : {A : Type 0} → Edition ≡ Single → A
edition_single e = let z : ◌≡◌ {A = ℕ} 0 1 = cc in absurd (omega arith)

edition_number : {A : Type 0} → Edition ≡ PerNumber → A
edition_number e = let z : ◌≡◌ {A = ℕ} 0 1 = cc in absurd (omega arith)

-- ---- the calls of the clock
module _ (top : ℕ) where
  oldest_near : (t : RetransmissionTimer) (m : SegMetas) (now : ℕ) (o : Option ℕ) → Timely m now → Short top m → (d : ℕ) → (arm_oldest t m now o).deadline ≡ Some d → d ≤ now + top
  unfolding arm_oldest expiry started_at_unchecked cancelled_unchecked
  oldest_near t m now None y s d e = let z : ◌≡◌ {A = ℕ} 0 1 = cc in absurd (omega arith)
  oldest_near t m now (Some seq) y s d e = by_noted (is_noted m seq) (ltb-true seq m.notes.count) e
    where
      by_noted : (b : Bool) → (b ≡ true → seq < m.notes.count) → (arm_until t now (cond b (Some (deadline_of (meta_at m seq))) None)).deadline ≡ Some d → d ≤ now + top
      by_noted true n e =
          let k : now + (deadline_of (meta_at m seq) - now) ≡ d = cc in
          let a = (y.at seq (n refl)).last in
          let b = s.at seq (n refl) in
          omega (arith, k, a, b)
      by_noted false n e = let z : ◌≡◌ {A = ℕ} 0 1 = cc in absurd (omega arith)

  some_is : {d e : ℕ} → ◌≡◌ {A = Option ℕ} (Some d) (Some e) → d ≡ e
  some_is e = cc

  none_is : {A : Type 0} {d : ℕ} → ◌≡◌ {A = Option ℕ} None (Some d) → A
  none_is e = let z : ◌≡◌ {A = ℕ} 0 1 = cc in absurd (omega arith)

  pub put_near : (bound k x : ℕ) (es : List Entry) → x ≤ bound → ((n d : ℕ) → lookup n es ≡ Some d → d ≤ bound) → (n d : ℕ) → lookup n (put k x es) ≡ Some d → d ≤ bound
  put_near bound k x es h near n d e = by_key (eqb k n) (sym (lookup_put k x n es) ∙ e)
    where
      by_key : (b : Bool) → cond b (Some x) (lookup n es) ≡ Some d → d ≤ bound
      by_key true e = let q = some_is e in omega (arith, h, q)
      by_key false e = near n d e

  pub remove_near : (bound k : ℕ) (es : List Entry) → ((n d : ℕ) → lookup n es ≡ Some d → d ≤ bound) → (n d : ℕ) → lookup n (remove k es) ≡ Some d → d ≤ bound
  remove_near bound k es near n d e = by_key (eqb k n) (sym (lookup_remove k n es) ∙ e)
    where
      by_key : (b : Bool) → cond b None (lookup n es) ≡ Some d → d ≤ bound
      by_key true e = none_is e
      by_key false e = near n d e

  pub armed_near : (t : Timing) (c : ClockState) (m : SegMetas) (x : Submission) → Timely m x.time → Short top m → x.rto ≤ top → (t ≡ PerNumber → CanArm t c m x.time x.rto x.seq) → Near top t x.time c → Near top t x.time (arm_after_submit t c m x)
  unfolding arm_after_submit
  armed_near Single c m x y s r can q = record { timer = λ i d e. by_oldest (x.retransmission || is_oldest x.oldest x.seq) d e; numbers = λ i. single_other i }
    where
      by_oldest : (b : Bool) (d : ℕ) → (timer_of (cond b (with_timer c (arm_oldest (timer_of c) m x.time x.oldest)) c)).deadline ≡ Some d → d ≤ x.time + top
      by_oldest true d e = oldest_near (timer_of c) m x.time x.oldest y s d e
      by_oldest false d e = q.timer refl d e
  armed_near PerNumber c m x y s r can q =
      record {
        timer = λ i. number_other i;
        numbers = λ i n d e.
            let b = short_rto top m s x.seq x.rto r in
            put_near (x.time + top) x.seq (x.time + rto_at_send m x.seq x.rto) (running c) (omega (arith, b)) (q.numbers refl) n d (ap (lookup n) (sym (submit_entries c m x (can refl))) ∙ e);
      }
  armed_near Edition c m x y s r can q = record { timer = λ i. edition_single i; numbers = λ i. edition_number i }

  rearmed_near : (t : Timing) (c : ClockState) (m : SegMetas) (x : Accepted) → Timely m x.time → Short top m → Held c → Near top t x.time c → Near top t x.time (rearm_after_ack t c m x)
  unfolding rearm_after_ack
  rearmed_near Single c m x y s h q = record { timer = λ i d e. oldest_near (timer_of c) m x.time x.oldest y s d e; numbers = λ i. single_other i }
  rearmed_near PerNumber c m x y s h q =
      record { timer = λ i. number_other i; numbers = λ i n d e. remove_near (x.time + top) x.seq (running c) (q.numbers refl) n d (ap (lookup n) (sym (cancel_number_entries c x.seq h.state)) ∙ e) }
  rearmed_near Edition c m x y s h q = record { timer = λ i. edition_single i; numbers = λ i. edition_number i }

  pub stopped_near : {t : Timing} {now : ℕ} (c : ClockState) → Near top t now c → Near top t now (stopped c)
  unfolding cancel cancelled_unchecked
  stopped_near c q = record { timer = λ i d e. let z : ◌≡◌ {A = ℕ} 0 1 = cc in absurd (omega arith); numbers = q.numbers }

-- ---- with the notes and the estimator
pub record Ahead (top : ℕ) (t : Timing) (now : ℕ) (e : RtoEstimator) (c : ClockState) (m : SegMetas) : Type 0 where
  pub estimator : Limited top e
  pub notes : Short top m
  pub near : Near top t now c

-- ---- an ACK
module _ (top : ℕ) (t : Timing) (now : ℕ) where
  abbrev OfAcks : AckState → Type 0
  OfAcks s = Ahead top t now s.estimator s.clock s.metas

  on_ack_ahead : (raw : List ℕ) (s : AckState) → CanOnAck s now → OfAcks s → OfAcks (on_ack t now raw s)
  on_ack_ahead raw s on h = by_number_lem (ack_number (read_datagram raw)) refl
    where
      accepted : (n : ℕ) → OfAcks (on_accepted t now n (sample_seq s.sender.sender.state n) (counted s (acknowledged s.sender n)))
      accepted n =
          let seq = sample_seq s.sender.sender.state n in
          let u = counted s (acknowledged s.sender n) in
          let x = sample_rtt s.estimator s.metas seq now in
          let m = short_sampled top s.metas h.notes s.estimator seq now in
          subst OfAcks (sym (on_accepted_is t now raw u n seq))
          (record {
            estimator = sampled_limited top s.estimator s.metas seq now h.estimator;
            notes = m;
            near = rearmed_near top t s.clock x.metas (record { time = now; seq = n; rto = x.estimator.current_rto; oldest = oldest_outstanding (acknowledged s.sender n).sender })
                (sampled_timely s.estimator s.metas seq now on.good.notes) m on.good.clock h.near;
          })

      by_test_lem : (n : ℕ) → ack_number (read_datagram raw) ≡ Some n → (b : Bool) → is_in_window (window_of s.sender.sender) n ≡ b → OfAcks (on_ack t now raw s)
      by_test_lem n e true i = subst OfAcks (sym (on_ack_accepted t now raw s n on.good.sender e i)) (accepted n)
      by_test_lem n e false i = subst OfAcks (sym (on_ack_duplicate t now raw s n on.good.sender e i)) (record { estimator = h.estimator; notes = h.notes; near = h.near })

      by_number_lem : (x : Option ℕ) → ack_number (read_datagram raw) ≡ x → OfAcks (on_ack t now raw s)
      by_number_lem None e = subst OfAcks (sym (on_ack_dropped t now raw s e)) h
      by_number_lem (Some n) e = by_test_lem n e (is_in_window (window_of s.sender.sender) n) refl

  reverse_ahead : (d : Direction) (s : AckState) → CanServeReverse d s now → OfAcks s → OfAcks (serve_reverse t now d s).state
  reverse_ahead d s can h =
      (serve_reverse_invariant t now (λ d s. CanServeReverse d s now × OfAcks s)
      (λ d s n e q. (turn_good t now d s q.0 n e, on_ack_ahead (take n (next_taken now d).out) s (can_hand_over t now d s q.0 n e) q.1)) d s (can, h)).1

  -- ---- the arrivals of a moment
  abbrev OfArrivals : ArrivalState → Type 0
  OfArrivals s = Ahead top t now s.estimator s.clock s.inbound.metas

  pub arrivals_ahead : (rolls : List Float) (total : ℕ) (s : ArrivalState) → CanServeArrivals rolls now s → OfArrivals s → OfArrivals (serve_arrivals t rolls total now s).state
  arrivals_ahead rolls total s can h =
      either_exit t rolls total now s can (λ (x : ArrivalExit). OfArrivals x.state) (λ g. forth) (λ g. reverse_ahead _ (acks_of (between t rolls total now s can)) (can_serve_reverse rolls total now s can) forth)
    where
      forth : OfArrivals (between t rolls total now s can)
      forth = record { estimator = h.estimator; notes = serve_short top rolls total now s.forward s.inbound h.notes; near = h.near }
