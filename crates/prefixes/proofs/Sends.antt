-- The sending side: every datagram that is submitted is Data of the chunk of its number, so what waits on the forward line are copies of such.
use Rattle.std.specs.Prelude.{Option, None}
use Prim.Native.Nat.{ℕ, zero, suc, ◌+◌, ◌-◌, ◌<◌}
use mathlib.Core.Path.{◌≡◌, refl, sym, ◌∙◌, subst}
use mathlib.Core.Bool.{Bool, true, false, cond}
use mathlib.Core.List.{List, [], ◌∷◌}
use native.Mathlib.Omega.{arith}
use lib.Ieee.{Float}
use lib.ListN.{length, get_or}
use Rattle.octets.specs.Octets.{Octets}
use Rattle.protocol.specs.Machine.{Chunk}
use Rattle.chunks.specs.Chunks.{chunks_of}
use Rattle.chunks.proofs.Laws.{chunk_octets}
use Rattle.path.specs.Direction.{Direction}
use Rattle.path.specs.Path.{is_going}
use Rattle.path.proofs.Laws.{EachWaiting}
use Rattle.rto.specs.Rto.{on_timeout_unchecked}
use Rattle.clock.specs.Clock.{Submission, due, cancel_number}
use Rattle.clock.specs.declared.Timing.{Timing}
use Rattle.clock.specs.declared.Timing.TheVariants.{PerNumber}
use Rattle.clock.specs.declared.Due.{Due}
use Rattle.clock.specs.declared.Due.TheVariants as ran
use Rattle.window.specs.Slots.{datagram_for}
use Rattle.session.specs.Sending.{SenderEnd, window_end, has_outstanding, oldest_outstanding, resent}
use Rattle.session.specs.declared.Timeout.{Timeout}
use Rattle.session.specs.declared.Timeout.TheVariants as timeout
use Rattle.session.proofs.Laws.{datagram_short}
use Rattle.submission.specs.Submission.{Outgoing, entry_free, submit, CanSubmit}
use Rattle.submission.proofs.Laws.{can_carry, submit_forward}
use Rattle.sending.specs.Sending.{PumpState, PumpExit, can_pump, next_number, send_one, pump_sends}
use Rattle.sending.specs.Good.{CanPump}
use Rattle.sending.specs.Retransmit.{RetransmitExit, retransmit, retransmit_all, CanRetransmitAll, ceiling_met, exhausted}
use Rattle.sending.specs.declared.Resends.{Resends}
use Rattle.sending.proofs.Laws.{number_left, blank, can_send_lem, given, sent_next, can_submit_next, send_is, next_grows, send_keeps, pump_nothing, pump_going, pump_stopped, packets_from, can_resubmit, can_retransmit_first, can_retransmit_rest, by_numbers}
use Rattle.timeouts.specs.Timeouts.{FireState, fire_state, fire_exit, with_resends, with_clock, resending, timed_out, timeout_of, stopped, fire_number, fire_numbers, expired, by_due, fire_timers}
use Rattle.completion.specs.Delivered.{sent_to}
use Rattle.completion.proofs.Laws.{CanTimeOut}
use Rattle.prefixes.proofs.Receiver.{Honest}
use Rattle.prefixes.proofs.Copies.{carry_honest, PrefixAt, ChunkData, chunk_honest}
use Rattle.prefixes.proofs.Sender.{SenderHolds, chunk_held, timeout_held, first_data, outstanding_data}

-- each copy that waits and reads as valid Data has a prefix of the chunk of its number
abbrev pub PrefixesWait : List Chunk → Direction → Type 0
PrefixesWait chunks d = EachWaiting (Honest (PrefixAt chunks)) d

-- the sender and the forward line
pub record Sends (chunks : List Chunk) (v : SenderEnd) (forward : Direction) : Type 0 where
  pub sender : SenderHolds chunks v
  pub waiting : PrefixesWait chunks forward

-- ---- a submission
pub submit_waits : (chunks : List Chunk) (t : Timing) (rolls : List Float) (x : Submission) (wire : List ℕ) (o : Outgoing) (n : ℕ) → CanSubmit t rolls x wire o → ChunkData chunks n wire → PrefixesWait chunks o.forward
    → PrefixesWait chunks (submit t rolls x wire o).outgoing.forward
submit_waits chunks t rolls x wire o n can c a =
    subst (PrefixesWait chunks) (sym (submit_forward t rolls x wire o))
    (carry_honest o.forward rolls (entry_free o) x.time wire (can_carry t rolls x wire o can) (chunk_honest chunks n wire c) a)

-- ---- chunks that are sent
module _ (size : ℕ) (file : List ℕ) where
  abbrev pub PumpSends : PumpState → Type 0
  PumpSends w = Sends (chunks_of size file) w.sender w.outgoing.forward

  pub send_one_sends : Octets file → {t : Timing} {rolls : List Float} {total rto now : ℕ} {w : PumpState} → CanPump t rolls size file total rto now w → can_pump total w.sender.sender ≡ true → PumpSends w → PumpSends (send_one t rolls (chunks_of size file) rto now w).state
  send_one_sends octets {t} {rolls} {w = w} can free q =
      let chunks = chunks_of size file in
      let n = sent_to w.sender in
      let left : n < length chunks = subst (λ (k : ℕ). n < k) can.whole (number_left can free) in
      let o = chunk_octets size n file can.some left octets in
      let submits = subst (λ (wire : List ℕ). CanSubmit t rolls (given can free) wire w.outgoing) (sent_next can free).bytes (can_submit_next can free) in
      let next = (sent_next can free).next in
      subst (λ (y : PumpExit). PumpSends y.state) (sym (send_is can free))
      (record {
        sender = record {
          window = chunk_held chunks w.sender (get_or chunks n []) (blank can free) can.good.sender.state o refl q.sender.window;
          sent = omega (arith, next, left);
        };
        waiting = submit_waits chunks t rolls (given can free) _ w.outgoing n submits (first_data chunks w.sender (get_or chunks n []) (blank can free) (can_send_lem can free) o refl left) q.waiting;
      })

  pub pump_sends_lem : Octets file → {t : Timing} {rolls : List Float} {total rto now : ℕ} {w : PumpState} → CanPump t rolls size file total rto now w → PumpSends w → PumpSends (pump_sends t rolls (chunks_of size file) rto now w).state
  pump_sends_lem octets {t} {rolls} {total} {rto} {now} {w} can q = by_left (total - next_number w) w refl can q
    where
      next : PumpState → PumpExit
      next w = send_one t rolls (chunks_of size file) rto now w

      Sent : PumpState → Type 0
      Sent w = PumpSends (pump_sends t rolls (chunks_of size file) rto now w).state

      by_stop_lem : (w : PumpState) (can : CanPump t rolls size file total rto now w) (free : can_pump total w.sender.sender ≡ true) → PumpSends (next w).state → (PumpSends (next w).state → Sent (next w).state) → (b : Bool) → is_going (next w).stop ≡ b → Sent w
      by_stop_lem w can free q then true g = subst (λ (x : PumpExit). PumpSends x.state) (sym (pump_going can free g)) (then q)
      by_stop_lem w can free q then false g = subst (λ (x : PumpExit). PumpSends x.state) (sym (pump_stopped can free g)) q

      by_test_lem : (w : PumpState) (can : CanPump t rolls size file total rto now w) → PumpSends w → ((free : can_pump total w.sender.sender ≡ true) → PumpSends (next w).state → Sent (next w).state) → (b : Bool) → can_pump total w.sender.sender ≡ b → Sent w
      by_test_lem w can q then true free = by_stop_lem w can free (send_one_sends octets can free q) (then free) (is_going (next w).stop) refl
      by_test_lem w can q then false full = subst (λ (x : PumpExit). PumpSends x.state) (sym (pump_nothing can full)) q

      none_left : (a b : ℕ) → a - b ≡ zero → b < a → ⊥
      none_left a b e h = omega arith

      one_less : (a b d k : ℕ) → a - b ≡ suc k → d ≡ b + 1 → a - d ≡ k
      one_less a b d k e h = omega arith

      by_left : (k : ℕ) (w : PumpState) → total - next_number w ≡ k → CanPump t rolls size file total rto now w → PumpSends w → Sent w
      by_left zero w e can q = by_test_lem w can q (λ free x. absurd (none_left total (next_number w) e (number_left can free))) (can_pump total w.sender.sender) refl
      by_left (suc k) w e can q = by_test_lem w can q (λ free x. by_left k (next w).state (one_less total (next_number w) _ k e (next_grows can free)) (send_keeps can free) x) (can_pump total w.sender.sender) refl

-- ---- packets that are sent again
module _ (chunks : List Chunk) (t : Timing) (rolls : List Float) (rto now : ℕ) (oldest : Option ℕ) (limit : ℕ) (v : SenderEnd) (holds : SenderHolds chunks v) where
  record Before (first count : ℕ) (r : Resends) (o : Outgoing) : Type 0 where
    can : CanRetransmitAll t rolls rto now v first count r o
    waiting : PrefixesWait chunks o.forward

  again_waits : (first count : ℕ) (r : Resends) (o : Outgoing) → Before first (suc count) r o → PrefixesWait chunks (retransmit t rolls rto now oldest first (datagram_for (window_end v) first) r o).outgoing.forward
  unfolding retransmit
  again_waits first count r o b =
      let one = can_retransmit_first b.can in
      let packet = datagram_for (window_end v) first in
      let from = b.can.within.from in
      let below = b.can.within.below in
      submit_waits chunks t rolls _ packet o first (can_resubmit one oldest packet (datagram_short v first b.can.sender one.within)) (outstanding_data chunks v first b.can.sender from (omega (arith, below)) holds) b.waiting

  pub numbers_wait : (first count : ℕ) (r : Resends) (o : Outgoing) → CanRetransmitAll t rolls rto now v first count r o → PrefixesWait chunks o.forward
      → PrefixesWait chunks (retransmit_all limit t rolls rto now oldest (packets_from v first count) r o).outgoing.forward
  numbers_wait first count r o can a =
      by_numbers limit t rolls rto now oldest v Before (λ (y : RetransmitExit). PrefixesWait chunks y.outgoing.forward) (λ first r o b. b.waiting) (λ first count r o b. b.waiting)
      (λ first count r o b g. again_waits first count r o b) (λ first count r o b g. record { can = can_retransmit_rest b.can oldest g; waiting = again_waits first count r o b }) count first r o (record { can = can; waiting = a })

-- ---- the timers that have run out
module _ (chunks : List Chunk) (rolls : List Float) (limit now : ℕ) where
  abbrev pub FireSends : FireState → Type 0
  FireSends f = Sends chunks f.sender f.outgoing.forward

  pub timed_out_sends : (t : Timing) (of : Timeout) (f : FireState) → CanTimeOut t rolls now of f → FireSends f → FireSends (timed_out limit t rolls now of f).state
  unfolding timed_out
  timed_out_sends t of f can q = go (resent f.sender of).packets refl
    where
      again : FireState
      again = fire_state (resent f.sender of).after f.estimator f.resends f.outgoing

      holds : SenderHolds chunks (resent f.sender of).after
      holds = timeout_held chunks f.sender of can.resends.same q.sender

      go : (packets : List (List ℕ)) → (resent f.sender of).packets ≡ packets → FireSends (resending limit t rolls now packets again).state
      go [] e = record { sender = holds; waiting = q.waiting }
      go (packet ∷ packets) e =
          let v = (resent f.sender of).after in
          let rto = (on_timeout_unchecked f.estimator).current_rto in
          record {
            sender = holds;
            waiting =
                subst (λ (l : List (List ℕ)). PrefixesWait chunks (retransmit_all limit t rolls rto now (oldest_outstanding v.sender) l f.resends f.outgoing).outgoing.forward) (sym can.resends.packets_are ∙ e)
                (numbers_wait chunks t rolls rto now (oldest_outstanding v.sender) limit v holds can.resends.first can.resends.count f.resends f.outgoing can.can q.waiting);
          }

  -- one number after the other. Can: what the loop asks
  module _ (Can : FireState → Type 0)
      (number : (n : ℕ) (f : FireState) → Can f → ceiling_met limit f.resends ≡ false → CanTimeOut PerNumber rolls now (timeout.Number n) (with_clock f (cancel_number f.outgoing.clock n)))
      (goes_on : (n : ℕ) (f : FireState) → Can f → ceiling_met limit f.resends ≡ false → is_going (fire_number limit rolls now n f).stop ≡ true → Can (fire_number limit rolls now n f).state) where
    number_sends : (n : ℕ) (f : FireState) → Can f → ceiling_met limit f.resends ≡ false → FireSends f → FireSends (fire_number limit rolls now n f).state
    unfolding fire_number
    number_sends n f can e q = timed_out_sends PerNumber (timeout.Number n) (with_clock f (cancel_number f.outgoing.clock n)) (number n f can e) (record { sender = q.sender; waiting = q.waiting })

    pub numbers_send : (ns : List ℕ) (f : FireState) → Can f → FireSends f → FireSends (fire_numbers limit rolls now ns f).state
    unfolding fire_numbers
    numbers_send [] f can q = q
    numbers_send (n ∷ ns) f can q = by_ceiling (ceiling_met limit f.resends) refl (λ k p. numbers_send ns (fire_number limit rolls now n f).state k p)
      where
        by_stop_lem : ceiling_met limit f.resends ≡ false → (Can (fire_number limit rolls now n f).state → FireSends (fire_number limit rolls now n f).state → FireSends (fire_numbers limit rolls now ns (fire_number limit rolls now n f).state).state)
            → (b : Bool) → is_going (fire_number limit rolls now n f).stop ≡ b → FireSends (cond b (fire_numbers limit rolls now ns (fire_number limit rolls now n f).state) (fire_number limit rolls now n f)).state
        by_stop_lem e next true g = next (goes_on n f can e g) (number_sends n f can e q)
        by_stop_lem e next false g = number_sends n f can e q

        by_ceiling : (b : Bool) → ceiling_met limit f.resends ≡ b → (Can (fire_number limit rolls now n f).state → FireSends (fire_number limit rolls now n f).state → FireSends (fire_numbers limit rolls now ns (fire_number limit rolls now n f).state).state)
            → FireSends (cond b (fire_exit (with_resends f (exhausted f.resends)) true (None)) (cond (is_going (fire_number limit rolls now n f).stop) (fire_numbers limit rolls now ns (fire_number limit rolls now n f).state) (fire_number limit rolls now n f))).state
        by_ceiling true e next = q
        by_ceiling false e next = by_stop_lem e next (is_going (fire_number limit rolls now n f).stop) refl

    -- all that have run out
    pub fired_sends : (t : Timing) (f : FireState) → (ceiling_met limit f.resends ≡ false → due t f.outgoing.clock now (has_outstanding f.sender.sender) ≡ ran.Numbers → Can f)
        → (ceiling_met limit f.resends ≡ false → due t f.outgoing.clock now (has_outstanding f.sender.sender) ≡ ran.Single → CanTimeOut t rolls now (timeout_of t) (with_clock f (stopped f.outgoing.clock)))
        → FireSends f → FireSends (fire_timers limit t rolls now f).state
    unfolding fire_timers
    fired_sends t f can single q = by_ceiling (ceiling_met limit f.resends) refl
      where
        by_due_lem : ceiling_met limit f.resends ≡ false → (d : Due) → due t f.outgoing.clock now (has_outstanding f.sender.sender) ≡ d → FireSends (by_due d limit t rolls now f).state
        by_due_lem e ran.Nothing h = q
        by_due_lem e ran.Idle h = q
        by_due_lem e ran.Single h = timed_out_sends t (timeout_of t) (with_clock f (stopped f.outgoing.clock)) (single e h) (record { sender = q.sender; waiting = q.waiting })
        by_due_lem e ran.Numbers h = numbers_send (expired f.outgoing.clock now) f (can e h) q

        by_ceiling : (b : Bool) → ceiling_met limit f.resends ≡ b → FireSends (cond b (fire_exit (with_resends f (exhausted f.resends)) false (None)) (by_due (due t f.outgoing.clock now (has_outstanding f.sender.sender)) limit t rolls now f)).state
        by_ceiling true e = q
        by_ceiling false e = by_due_lem e (due t f.outgoing.clock now (has_outstanding f.sender.sender)) refl
