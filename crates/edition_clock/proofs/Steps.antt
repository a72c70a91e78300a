-- What the parts of a step keep, and a step that goes on.
use Rattle.std.specs.Prelude.{None, Option, Some}
use Prim.Native.Nat.{ℕ, ◌+◌, ◌*◌, ◌≤◌, ◌<◌, min, max}
use native.Mathlib.Omega.{arith}
use mathlib.Core.Path.{◌≡◌, refl, sym, ◌∙◌, subst}
use mathlib.Core.Bool.{Bool, true, false, cond, not, true≢false, and-eq-true_iff}
use mathlib.Core.List.{List}
use lib.Ieee.{Float}
use lib.ListN.{take}
use Rattle.bounds.specs.Bounds.{max_duration}
use Rattle.packet.specs.Reading.{read_datagram}
use Rattle.window.specs.Acknowledgement.{is_in_window}
use Rattle.chunks.specs.Chunks.{chunks_of}
use Rattle.timer.specs.Timer.{expired_at}
use Rattle.rto.specs.Rto.{accept_sample, reject_sample, on_timeout_unchecked}
use Rattle.rto.specs.declared.RtoEstimator.{RtoEstimator}
use Rattle.notes.specs.Notes.{SegMetas, take_sample}
use Rattle.path.specs.Direction.{Direction}
use Rattle.path.specs.Path.{is_going}
use Rattle.path.proofs.Laws.{going_is}
use Rattle.clock.specs.Clock.{ClockState, timer_of, is_outstanding, by_sample, sample_rtt, next_deadline}
use Rattle.clock.specs.declared.Timing.{Timing}
use Rattle.clock.specs.declared.Timing.TheVariants.{Edition}
use Rattle.clock.proofs.Laws as clock
use Rattle.session.specs.Sending.{window_of, has_outstanding, oldest_outstanding, acknowledged}
use Rattle.submission.proofs.Laws.{going_written}
use Rattle.sending.specs.Sending.{PumpState, PumpExit, can_pump, send_one, pump_sends}
use Rattle.sending.specs.Good.{CanPump}
use Rattle.sending.specs.Retransmit.{ceiling_met}
use Rattle.sending.proofs.Laws.{chunk, blank, given, written, can_send_lem, pump_turns}
use Rattle.acks.specs.Acks.{AckState, ack_number, sample_seq, on_accepted, counted, on_ack}
use Rattle.acks.specs.Good.{CanOnAck}
use Rattle.acks.specs.Reverse.{serve_reverse, CanServeReverse}
use Rattle.acks.proofs.Laws.{on_ack_dropped, on_ack_duplicate, on_ack_accepted, on_accepted_is, next_taken, can_hand_over, turn_good, serve_reverse_invariant}
use Rattle.arrivals.specs.Arrivals.{ArrivalState, ArrivalExit, acks_of, serve_arrivals, CanServeArrivals}
use Rattle.arrivals.proofs.Laws.{between, can_serve_reverse, either_exit}
use Rattle.timeouts.specs.Timeouts.{FireState, FireExit, stopped, fire_timers}
use Rattle.timeouts.specs.Good.{GoodFire}
use Rattle.timeouts.proofs.Laws.{sender_unbroken, timers_met}
use Rattle.departures.specs.Departures.{pump_of, pumped, is_going_on, send_due, CanSendDue}
use Rattle.departures.proofs.Laws.{fired, can_pump_lem}
use Rattle.step.specs.State.{Given, RunState, fire_of, with_arrivals, at}
use Rattle.step.specs.Settle.{StepExit, settle}
use Rattle.step.specs.Step.{round_less, step}
use Rattle.step.specs.Good.{GoodPlan, GoodRun}
use Rattle.step.specs.declared.Plan.{Plan}
use Rattle.step.specs.declared.Course.TheVariants as course
use Rattle.step.proofs.Laws.{arrives, can_arrive, arrived_good, good_fire, can_send_due, after_both, both_exit, going_cases, earliest, settle_going}
use Rattle.edition_clock.specs.Section5.{min_rto, max_rto, on_new_ack}
use Rattle.edition_clock.specs.AlongARun.{StepFollows}
use Rattle.edition_clock.proofs.Rules.{timer_at, send_5_1, accepted_5_3}
use Rattle.edition_clock.proofs.Senders.{LimitIs, retries_of, sent_fresh, acknowledged_fresh, earliest_again}
use Rattle.edition_clock.proofs.Expiry.{EditionLimits, not_expired, idle_expiry, expiry_is, expiry_written, expiry_resent, expiry_5_6}
use Rattle.edition_clock.proofs.Estimates.{Unsampled, sampling, backed_unsampled}
use Rattle.edition_clock.proofs.Moments.{Moment, moment, Kept, Chain, Along, along_start, ack_along, duplicate_along, sent_along, expired_along, idle_along, retries_left, kept_later}

-- ---- the RTO after a sample is within the limits
pub record Limited (e : RtoEstimator) : Type 0 where
  pub limits : EditionLimits e.config
  pub low : min_rto ≤ e.current_rto
  pub high : e.current_rto ≤ max_rto

clamped : (x a b : ℕ) → a ≡ min_rto → b ≡ max_rto → (min_rto ≤ min (max x a) b) × (min (max x a) b ≤ max_rto)
clamped x a b e f = (omega arith, omega arith)

by_sample_lem : (e : RtoEstimator) (x : Option (ℕ × Bool)) → Limited e → Limited (by_sample e x)
unfolding accept_sample reject_sample
by_sample_lem e None l = l
by_sample_lem e (Some (d, true)) l = record { limits = l.limits; low = l.low; high = l.high }
by_sample_lem e (Some (d, false)) l = let c = clamped _ e.config.min_rto e.config.max_rto l.limits.lower l.limits.upper in record { limits = l.limits; low = c.0; high = c.1 }

sampled : (e : RtoEstimator) (m : SegMetas) (seq now : ℕ) → Limited e → Limited (sample_rtt e m seq now).estimator
unfolding sample_rtt
sampled e m seq now l = by_sample_lem e (take_sample m seq now).sample l

-- ---- moments of the parts
abbrev of_acks : ℕ → ℕ → AckState → Moment
of_acks written again s = moment s.sender s.estimator s.clock written again s.received s.duplicates

abbrev of_arrivals : ℕ → ℕ → ArrivalState → Moment
of_arrivals written again s = moment s.sender s.estimator s.clock written again s.received s.duplicates

abbrev pub of_fire : ℕ → ℕ → FireState → Moment
of_fire received duplicates s = moment s.sender s.estimator s.outgoing.clock s.outgoing.written s.resends.retx_submitted received duplicates

abbrev of_pump : RtoEstimator → ℕ → ℕ → ℕ → PumpState → Moment
of_pump e again received duplicates s = moment s.sender e s.outgoing.clock s.outgoing.written again received duplicates

abbrev pub of_run : RunState → Moment
of_run s = moment s.arrivals.sender s.arrivals.estimator s.arrivals.clock s.written s.resends.retx_submitted s.arrivals.received s.arrivals.duplicates

-- ---- an ACK
module _ (limit now : ℕ) (from : Moment) (w a : ℕ) where
  abbrev Is : AckState → Type 0
  Is s = Along limit now from (of_acks w a s)

  on_ack_along : (raw : List ℕ) (s : AckState) → CanOnAck s now → Is s → Is (on_ack Edition now raw s)
  on_ack_along raw s on h = by_number_lem (ack_number (read_datagram raw)) refl
    where
      accepted : (n : ℕ) → Is (on_accepted Edition now n (sample_seq s.sender.sender.state n) (counted s (acknowledged s.sender n)))
      accepted n =
          let seq = sample_seq s.sender.sender.state n in
          let v = acknowledged s.sender n in
          let u = counted s v in
          let k = h.kept in
          let l = sampled s.estimator s.metas seq now (record { limits = k.limits; low = k.low; high = k.high }) in
          subst Is (sym (on_accepted_is Edition now raw u n seq))
          (ack_along h v _ _ (acknowledged_fresh limit s.sender n k.limit_is) l.limits l.low l.high (sampling s.estimator s.metas seq now) (is_outstanding (oldest_outstanding v.sender))
          (subst (λ (y : AckState). timer_at y ≡ on_new_ack (is_outstanding (oldest_outstanding v.sender)) now y.estimator.current_rto) (on_accepted_is Edition now raw u n seq) (accepted_5_3 now n seq u)))

      by_test_lem : (n : ℕ) → ack_number (read_datagram raw) ≡ Some n → (b : Bool) → is_in_window (window_of s.sender.sender) n ≡ b → Is (on_ack Edition now raw s)
      by_test_lem n e true i = subst Is (sym (on_ack_accepted Edition now raw s n on.good.sender e i)) (accepted n)
      by_test_lem n e false i = subst Is (sym (on_ack_duplicate Edition now raw s n on.good.sender e i)) (duplicate_along h)

      by_number_lem : (x : Option ℕ) → ack_number (read_datagram raw) ≡ x → Is (on_ack Edition now raw s)
      by_number_lem None e = subst Is (sym (on_ack_dropped Edition now raw s e)) h
      by_number_lem (Some n) e = by_test_lem n e (is_in_window (window_of s.sender.sender) n) refl

  reverse_along : (d : Direction) (s : AckState) → CanServeReverse d s now → Is s → Is (serve_reverse Edition now d s).state
  reverse_along d s can h =
      (serve_reverse_invariant Edition now (λ d s. CanServeReverse d s now × Is s)
      (λ d s n e q. (turn_good Edition now d s q.0 n e, on_ack_along (take n (next_taken now d).out) s (can_hand_over Edition now d s q.0 n e) q.1)) d s (can, h)).1

  -- ---- the arrivals of a moment
  arrivals_along : (t : Timing) → t ≡ Edition → (rolls : List Float) (total : ℕ) (s : ArrivalState) → CanServeArrivals rolls now s → Along limit now from (of_arrivals w a s) → Along limit now from (of_arrivals w a (serve_arrivals t rolls total now s).state)
  arrivals_along t e rolls total s can h =
      subst (λ (u : Timing). Along limit now from (of_arrivals w a (serve_arrivals u rolls total now s).state)) (sym e)
      (either_exit Edition rolls total now s can (λ (x : ArrivalExit). Along limit now from (of_arrivals w a x.state)) (λ g. h)
      (λ g. reverse_along _ (acks_of (between Edition rolls total now s can)) (can_serve_reverse rolls total now s can) h))

-- ---- the timers
backed_limits : (e : RtoEstimator) → EditionLimits e.config → EditionLimits (on_timeout_unchecked e).config
unfolding on_timeout_unchecked
backed_limits e l = l

module _ (limit now : ℕ) (from : Moment) (rolls : List Float) (received duplicates : ℕ) (patient : max_duration < limit * min_rto) where
  abbrev At : FireState → Type 0
  At s = Along limit now from (of_fire received duplicates s)

  fire_along : (top : ℕ) {samples : ℕ} (s : FireState) → GoodFire Edition rolls samples now s → At s → is_going (fire_timers top Edition rolls now s).stop ≡ true → At (fire_timers top Edition rolls now s).state
  fire_along top s g h = by_ceiling (ceiling_met top s.resends) refl
    where
      After : Type 0
      After = is_going (fire_timers top Edition rolls now s).stop ≡ true → At (fire_timers top Edition rolls now s).state

      resent : (c : ceiling_met top s.resends ≡ false) (x : expired_at (timer_of s.outgoing.clock).deadline now ≡ true) (o : has_outstanding s.sender.sender ≡ true) → After
      resent c x o going =
          let k = h.kept in
          let few = retries_left h max_duration x g.outgoing.notes.within patient in
          let a = earliest_again limit s.sender (sender_unbroken g) o k.limit_is few in
          let eq = expiry_is top rolls now s c x o a in
          let end = (fire_timers top Edition rolls now s).state in
          expired_along h end.sender end.estimator end.outgoing.clock end.outgoing.written end.resends.retx_submitted x
          (subst (λ (y : FireExit). LimitIs limit y.state.sender.sender.state) (sym eq) a.limit_is)
          (subst (λ (y : FireExit). retries_of y.state.sender.sender.state ≤ retries_of s.sender.sender.state + 1) (sym eq) a.retries)
          (subst (λ (y : FireExit). EditionLimits y.state.estimator.config) (sym eq) (backed_limits s.estimator k.limits))
          (subst (λ (y : FireExit). Unsampled s.estimator y.state.estimator) (sym eq) (backed_unsampled s.estimator))
          (expiry_5_6 top rolls now s c x o a going k.limits k.low) (expiry_written top rolls now s c x o a going) (expiry_resent top rolls now s c x o a)

      by_outstanding : ceiling_met top s.resends ≡ false → expired_at (timer_of s.outgoing.clock).deadline now ≡ true → (b : Bool) → has_outstanding s.sender.sender ≡ b → After
      by_outstanding c x true o going = resent c x o going
      by_outstanding c x false o going = subst (λ (y : FireExit). At y.state) (sym (idle_expiry top rolls now s c x o)) (idle_along h (stopped s.outgoing.clock) x o (clock.stopped s.outgoing.clock.answer))

      by_expired : ceiling_met top s.resends ≡ false → (b : Bool) → expired_at (timer_of s.outgoing.clock).deadline now ≡ b → After
      by_expired c true x going = by_outstanding c x (has_outstanding s.sender.sender) refl going
      by_expired c false x going = subst (λ (y : FireExit). At y.state) (sym (not_expired top rolls now s c x)) h

      by_ceiling : (b : Bool) → ceiling_met top s.resends ≡ b → After
      by_ceiling true c going = subst (λ (y : FireExit). At y.state) (sym (timers_met top Edition rolls now s c)) h
      by_ceiling false c going = by_expired c (expired_at (timer_of s.outgoing.clock).deadline now) refl going

  -- ---- new chunks
  module _ (size : ℕ) (file : List ℕ) (total : ℕ) (e : RtoEstimator) (again : ℕ) where
    abbrev Of : PumpState → Type 0
    Of s = Along limit now from (of_pump e again received duplicates s)

    chunk_along : (s : PumpState) → CanPump Edition rolls size file total e.current_rto now s → can_pump total s.sender.sender ≡ true → is_going (send_one Edition rolls (chunks_of size file) e.current_rto now s).stop ≡ true → Of s
        → Of (send_one Edition rolls (chunks_of size file) e.current_rto now s).state
    unfolding send_one
    chunk_along s can free going h =
        let x = send_one Edition rolls (chunks_of size file) e.current_rto now s in
        let g = going_is x.stop going in
        sent_along h x.state.sender x.state.outgoing.clock x.state.outgoing.written (sent_fresh limit s.sender (chunk can free) (blank can free) (can_send_lem can free) h.kept.limit_is)
        (send_5_1 rolls (chunks_of size file) e.current_rto now s g) (going_written Edition rolls (given can free) (written can free) s.outgoing g)

    pump_along : (s : PumpState) → CanPump Edition rolls size file total e.current_rto now s → Of s → is_going (pump_sends Edition rolls (chunks_of size file) e.current_rto now s).stop ≡ true
        → Of (pump_sends Edition rolls (chunks_of size file) e.current_rto now s).state
    pump_along =
        pump_turns (λ (s : PumpState) (x : PumpExit). Of s → is_going x.stop ≡ true → Of x.state) (λ s can none h g. h) (λ s x can free g rest h on. rest (chunk_along s can free g h) on)
        (λ s can free g h on. absurd (true≢false (sym on ∙ g)))

  -- ---- the departures of a moment
  departures_along : (top : ℕ) {size : ℕ} {file : List ℕ} {total samples : ℕ} (s : FireState) → CanSendDue Edition rolls size file total now s → GoodFire Edition rolls samples now s → At s
      → is_going (send_due top Edition rolls (chunks_of size file) now s).stop ≡ true → At (send_due top Edition rolls (chunks_of size file) now s).state
  unfolding send_due
  departures_along top {size} {file} {total} s can g h = by_test_lem (is_going_on (fired top can)) refl
    where
      chunks_sent : PumpExit
      chunks_sent = pump_sends Edition rolls (chunks_of size file) (fired top can).state.estimator.current_rto now (pump_of (fired top can).state)

      by_test_lem : (b : Bool) → is_going_on (fired top can) ≡ b → is_going (cond b (pumped (fired top can) chunks_sent) (fired top can)).stop ≡ true → At (cond b (pumped (fired top can) chunks_sent) (fired top can)).state
      by_test_lem true e on =
          let first = ((and-eq-true_iff (is_going (fired top can).stop) (not (fired top can).state.resends.exhausted)).0 e).0 in
          pump_along size file total (fired top can).state.estimator (fired top can).state.resends.retx_submitted (pump_of (fired top can).state) (can_pump_lem top can e) (fire_along top s g h first) on
      by_test_lem false e on = fire_along top s g h on

-- ---- a step that goes on
next_deadline_is : (t : Timing) → t ≡ Edition → (c : ClockState) → next_deadline t c ≡ (timer_of c).deadline
unfolding next_deadline
next_deadline_is t e c = rw e

pub record Stepped (limit : ℕ) (s u : RunState) : Type 0 where
  pub kept : Kept limit u.time (of_run u)
  pub follows : StepFollows s u

module _ (limit : ℕ) (patient : max_duration < limit * min_rto) {p : Plan} {g : Given} {s : RunState} (edition : p.timing ≡ Edition) (plan : GoodPlan p g) (good : GoodRun p g s) (k : Kept limit s.time (of_run s)) where
  abbrev after : RunState
  after = with_arrivals (round_less s) (arrives p g s).state

  pub arrived : Along limit s.time (of_run s) (of_run after)
  arrived = arrivals_along limit s.time (of_run s) s.written s.resends.retx_submitted p.timing edition g.reverse_rolls p.total_chunks s.arrivals (can_arrive good) (along_start k good.duplicates)

  pub both : is_going (both_exit p g s).stop ≡ true → Along limit s.time (of_run s) (of_run (after_both p g s))
  both = on_clock p.timing edition (can_send_due (arrived_good good) plan) (good_fire (arrived_good good))
    where
      on_clock : (t : Timing) → t ≡ Edition → CanSendDue t g.forward_rolls p.chunk_size g.file p.total_chunks s.time (fire_of after) → GoodFire t g.forward_rolls after.arrivals.received s.time (fire_of after)
          → is_going (send_due p.max_retransmissions t g.forward_rolls (chunks_of p.chunk_size g.file) s.time (fire_of after)).stop ≡ true
          → Along limit s.time (of_run s) (of_fire after.arrivals.received after.arrivals.duplicates (send_due p.max_retransmissions t g.forward_rolls (chunks_of p.chunk_size g.file) s.time (fire_of after)).state)
      on_clock t e can f =
          subst (λ (t : Timing). is_going (send_due p.max_retransmissions t g.forward_rolls (chunks_of p.chunk_size g.file) s.time (fire_of after)).stop ≡ true
          → Along limit s.time (of_run s) (of_fire after.arrivals.received after.arrivals.duplicates (send_due p.max_retransmissions t g.forward_rolls (chunks_of p.chunk_size g.file) s.time (fire_of after)).state)) (sym e)
          (departures_along limit s.time (of_run s) g.forward_rolls after.arrivals.received after.arrivals.duplicates patient p.max_retransmissions (fire_of after)
          (subst (λ (t : Timing). CanSendDue t g.forward_rolls p.chunk_size g.file p.total_chunks s.time (fire_of after)) e can)
          (subst (λ (t : Timing). GoodFire t g.forward_rolls after.arrivals.received s.time (fire_of after)) e f) arrived)

  chained : (u : RunState) (time moves rounds : ℕ) → Chain s.time (of_run s) (of_run u) → StepFollows s (at u time moves rounds)
  chained u time moves rounds c = record { packets = c.packets; again = c.resent; acks = c.acks; rtos = c.rtos; follows = c.follows; written = c.written; resent = c.again; acknowledged = c.acknowledged; estimates = c.estimated.estimates; samples = c.estimated.counted }

  pub step_along : (step p g s).course ≡ course.Going → Stepped limit s (step p g s).state
  step_along =
      going_cases p g s (λ (x : StepExit). Stepped limit s x.state) (λ h i x q r. let b = both i in record { kept = b.kept; follows = chained (after_both p g s) s.time _ _ b.chain })
      (λ h i x r e. moved (both i) e)
    where
      moved : Along limit s.time (of_run s) (of_run (after_both p g s)) → (settle p (after_both p g s)).course ≡ course.Going → Stepped limit s (settle p (after_both p g s)).state
      moved b e =
          let m = settle_going p (after_both p g s) e in
          let c = (after_both p g s).arrivals.clock in
          let u = (settle p (after_both p g s)).state in
          let first = earliest p.timing (after_both p g s).arrivals.forward (after_both p g s).arrivals.inbound.reverse c m.time in
          let later = m.later in
          subst (Stepped limit s) (sym m.same)
          (record {
            kept = kept_later b.kept u.time (omega (arith, later)) (λ d f. first.timer_later (next_deadline_is p.timing edition c ∙ f));
            follows = chained (after_both p g s) u.time u.moves u.rounds b.chain;
          })
