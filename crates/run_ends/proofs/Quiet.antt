-- A moment at which nothing happened: every chunk was sent or the window has no space, and every deadline is later, but for the single timer's with nothing outstanding.
use Rattle.std.specs.Prelude.{None, Ok, Option, Some}
use Prim.Native.Nat.{ℕ, zero, suc, ◌-◌, ◌≤◌, ◌<◌}
use native.Mathlib.Omega.{arith}
use mathlib.Core.Path.{◌≡◌, refl, sym, ap, ◌∙◌, subst}
use mathlib.Core.Bool.{Bool, true, false, cond, not, true≢false, ◌&&◌, ◌||◌}
use mathlib.Core.Logic.{◌⊎◌, inl, inr}
use mathlib.Core.List.{List, [], ◌∷◌}
use lib.Dec.{ltb, leb}
use lib.Ieee.{Float}
use lib.ListN.{length}
use borrow.Author.Tests.{leb-false, ltb-false}
use Rattle.chunks.specs.Chunks.{chunks_of}
use Rattle.timer.specs.Timer.{expired_at}
use Rattle.multi_timer.specs.Map.{Entry, keys_of, deadlines_of, keep, due_keys, min_of, earliest}
use Rattle.multi_timer.specs.Map as map
use Rattle.schedule.specs.Record.{time_of}
use Rattle.schedule.specs.Schedule.{first_record, pop_first, pop_unchecked, on_pop}
use Rattle.window.specs.State.{outstanding}
use Rattle.path.specs.Direction.{Direction, schedule_of}
use Rattle.path.specs.Path.{is_going, take_ready, packet_buffer}
use Rattle.path.specs.Path as path
use Rattle.clock.specs.Clock.{ClockState, timer_of, single_due, due, as_deadline}
use Rattle.clock.specs.Clock as clock
use Rattle.clock.specs.declared.Timing.{Timing}
use Rattle.clock.specs.declared.Timing.TheVariants as timing
use Rattle.clock.specs.declared.Due.{Due}
use Rattle.clock.specs.declared.Due.TheVariants as ran
use Rattle.clock.proofs.Laws.{running, no_numbers_due}
use Rattle.session.specs.Sending.{window_of, can_send, has_outstanding}
use Rattle.session.specs.declared.Sender.{Sender}
use Rattle.session.specs.declared.Timeout.{Timeout}
use Rattle.session.specs.declared.Timeout.TheVariants as timeout
use Rattle.sending.specs.Sending.{PumpState, PumpExit, pump_exit, next_number, can_pump, send_one, progressed, pump_most, pump_sends}
use Rattle.sending.specs.Retransmit.{ceiling_met, exhausted}
use Rattle.sending.proofs.Laws.{pump_turns}
use Rattle.receiving.specs.Receiving.{ServeForwardExit, serve_forward}
use Rattle.receiving.proofs.Laws.{serve_drained}
use Rattle.acks.specs.Reverse.{serve_reverse}
use Rattle.acks.proofs.Laws.{serve_reverse_drained}
use Rattle.arrivals.specs.Arrivals.{ArrivalState, arrival_exit, acks_of, with_forward, reverse_served, serve_arrivals}
use Rattle.timeouts.specs.Timeouts.{FireState, FireExit, fire_exit, with_resends, with_clock, stopped, timed_out, timeout_of, fire_number, fire_numbers, expired, by_due, fire_timers}
use Rattle.timeouts.proofs.Laws.{timed_out_by, timers_met, timers_due_lem}
use Rattle.departures.specs.Departures.{pump_of, pumped, is_going_on, send_due, CanSendDue}
use Rattle.departures.proofs.Laws.{fired, can_pump_lem}

-- ---- a chunk that can be sent is sent
abbrev pub NoneLeft : ℕ → Sender → Type 0
NoneLeft total s = (total ≤ (window_of s).next_seq_num) ⊎ ((window_of s).window_size ≤ outstanding (window_of s))

not_free : (total : ℕ) (s : Sender) → can_pump total s ≡ false → NoneLeft total s
not_free total s e = by_tests (can_send s) (ltb (window_of s).next_seq_num total) refl refl e
  where
    by_tests : (a b : Bool) → can_send s ≡ a → ltb (window_of s).next_seq_num total ≡ b → (a && b) ≡ false → NoneLeft total s
    by_tests true true p q e = absurd (true≢false e)
    by_tests true false p q e = inl (ltb-false _ _ q)
    by_tests false b p q e = inr (ltb-false _ _ p)

pub or_right : (a b : Bool) → (a || b) ≡ false → b ≡ false
or_right true b e = absurd (true≢false e)
or_right false b e = e

or_left : (a b : Bool) → (a || b) ≡ false → a ≡ false
or_left true b e = absurd (true≢false e)
or_left false b e = refl

module _ (t : Timing) (rolls : List Float) (chunks : List (List ℕ)) (now : ℕ) where
  none_pumped : (n rto : ℕ) (s : PumpState) → (pump_most n t rolls chunks rto now s).progress ≡ false → (pump_most n t rolls chunks rto now s).state ≡ s
  unfolding pump_most send_one
  none_pumped zero rto s e = refl
  none_pumped (suc n) rto s e = by_free (can_pump (length chunks) s.sender.sender) e
    where
      one : PumpExit
      one = send_one t rolls chunks rto now s

      sends : (b : Bool) → (cond b (progressed (pump_most n t rolls chunks rto now one.state)) one).progress ≡ false → ⊥
      sends true e = true≢false e
      sends false e = true≢false e

      by_free : (b : Bool) → (cond b (cond (is_going one.stop) (progressed (pump_most n t rolls chunks rto now one.state)) one) (pump_exit s false (None))).progress ≡ false
          → (cond b (cond (is_going one.stop) (progressed (pump_most n t rolls chunks rto now one.state)) one) (pump_exit s false (None))).state ≡ s
      by_free true e = absurd (sends (is_going one.stop) e)
      by_free false e = refl

-- ---- a timer that has run out does something
module _ (limit : ℕ) (rolls : List Float) (now : ℕ) where
  timed_out_progress : (t : Timing) (of : Timeout) (s : FireState) → (timed_out limit t rolls now of s).progress ≡ true
  timed_out_progress t of s = timed_out_by limit t rolls now of s (λ (x : FireExit). x.progress ≡ true) (λ e. refl) (λ h. refl)

  number_progress : (n : ℕ) (s : FireState) → (fire_number limit rolls now n s).progress ≡ true
  unfolding fire_number
  number_progress n s = timed_out_progress timing.PerNumber (timeout.Number n) _

  numbers_progress : (ns : List ℕ) (s : FireState) → (fire_numbers limit rolls now ns s).progress ≡ true
  unfolding fire_numbers
  numbers_progress [] s = refl
  numbers_progress (n ∷ ns) s = by_tests (ceiling_met limit s.resends) (is_going (fire_number limit rolls now n s).stop) (numbers_progress ns (fire_number limit rolls now n s).state)
    where
      by_tests : (a b : Bool) → (fire_numbers limit rolls now ns (fire_number limit rolls now n s).state).progress ≡ true
          → (cond a (fire_exit (with_resends s (exhausted s.resends)) true (None)) (cond b (fire_numbers limit rolls now ns (fire_number limit rolls now n s).state) (fire_number limit rolls now n s))).progress ≡ true
      by_tests true b rest = refl
      by_tests false true rest = rest
      by_tests false false rest = number_progress n s

  none_fired : (t : Timing) (s : FireState) → (fire_timers limit t rolls now s).progress ≡ false → (fire_timers limit t rolls now s).state.resends.exhausted ≡ false
      → ((fire_timers limit t rolls now s).state ≡ s) × (due t s.outgoing.clock now (has_outstanding s.sender.sender) ≡ ran.Nothing)
  none_fired t s = by_ceiling (ceiling_met limit s.resends) refl
    where
      Quiet : FireExit → Type 0
      Quiet x = x.progress ≡ false → x.state.resends.exhausted ≡ false → (x.state ≡ s) × (due t s.outgoing.clock now (has_outstanding s.sender.sender) ≡ ran.Nothing)

      by_what : (d : Due) → d ≡ due t s.outgoing.clock now (has_outstanding s.sender.sender) → Quiet (by_due d limit t rolls now s)
      by_what ran.Nothing e p x = (refl, sym e)
      by_what ran.Idle e p x = absurd (true≢false p)
      by_what ran.Single e p x = absurd (true≢false (sym (timed_out_progress t (timeout_of t) (with_clock s (stopped s.outgoing.clock))) ∙ p))
      by_what ran.Numbers e p x = absurd (true≢false (sym (numbers_progress (expired s.outgoing.clock now) s) ∙ p))

      by_ceiling : (b : Bool) → ceiling_met limit s.resends ≡ b → Quiet (fire_timers limit t rolls now s)
      by_ceiling true c = subst Quiet (sym (timers_met limit t rolls now s c)) (λ p x. absurd (true≢false x))
      by_ceiling false c = subst Quiet (sym (timers_due_lem limit t rolls now s c refl)) (by_what _ refl)

  -- ---- the departures: nothing was sent, no timer has run out, and all is as it was
  pub record NoneSent (t : Timing) (s : FireState) (x : FireExit) : Type 0 where
    pub sender : x.state.sender ≡ s.sender
    pub outgoing : x.state.outgoing ≡ s.outgoing
    pub not_due : due t s.outgoing.clock now (has_outstanding s.sender.sender) ≡ ran.Nothing

  pub none_sent : (t : Timing) (chunks : List (List ℕ)) (s : FireState) → let x = send_due limit t rolls chunks now s in is_going x.stop ≡ true → x.state.resends.exhausted ≡ false → x.progress ≡ false → NoneSent t s x
  unfolding send_due
  none_sent t chunks s = by_test_lem (is_going_on fired) refl
    where
      fired : FireExit
      fired = fire_timers limit t rolls now s

      sent : PumpExit
      sent = pump_sends t rolls chunks fired.state.estimator.current_rto now (pump_of fired.state)

      by_test_lem : (b : Bool) → is_going_on fired ≡ b → let x = cond b (pumped fired sent) fired in is_going x.stop ≡ true → x.state.resends.exhausted ≡ false → x.progress ≡ false → NoneSent t s x
      by_test_lem true g on k e =
          let f = none_fired t s (or_left fired.progress sent.progress e) k in
          let n = none_pumped t rolls chunks now (length chunks - next_number (pump_of fired.state)) fired.state.estimator.current_rto (pump_of fired.state) (or_right fired.progress sent.progress e) in
          record {
            sender = ap (λ (y : PumpState). y.sender) n ∙ ap (λ (y : FireState). y.sender) f.0;
            outgoing = ap (λ (y : PumpState). y.outgoing) n ∙ ap (λ (y : FireState). y.outgoing) f.0;
            not_due = f.1;
          }
      by_test_lem false g on k e = absurd (true≢false (sym (ap (λ (b : Bool). b && not fired.state.resends.exhausted) on ∙ ap not k) ∙ g))

-- ---- departures that went on left nothing to send
pub sent_left : {t : Timing} {rolls : List Float} {size : ℕ} {file : List ℕ} {total now : ℕ} {s : FireState} (limit : ℕ) → CanSendDue t rolls size file total now s → let x = send_due limit t rolls (chunks_of size file) now s in is_going x.stop ≡ true → x.state.resends.exhausted ≡ false → NoneLeft total x.state.sender.sender
unfolding send_due
sent_left {t} {rolls} {size} {file} {total} {now} {s} limit can = by_test_lem (is_going_on (fired limit can)) refl
  where
    sent : PumpExit
    sent = pump_sends t rolls (chunks_of size file) (fired limit can).state.estimator.current_rto now (pump_of (fired limit can).state)

    by_test_lem : (b : Bool) → is_going_on (fired limit can) ≡ b → let x = cond b (pumped (fired limit can) sent) (fired limit can) in is_going x.stop ≡ true → x.state.resends.exhausted ≡ false → NoneLeft total x.state.sender.sender
    by_test_lem true g on k =
        pump_turns (λ v x. is_going x.stop ≡ true → NoneLeft total x.state.sender.sender) (λ v c none i. not_free total v.sender.sender none) (λ v x c free i rest. rest) (λ v c free stops i. absurd (true≢false (sym i ∙ stops)))
        (pump_of (fired limit can).state) (can_pump_lem limit can g) on
    by_test_lem false g on k = absurd (true≢false (sym (ap (λ (b : Bool). b && not (fired limit can).state.resends.exhausted) on ∙ ap not k) ∙ g))

-- ---- the arrivals: what was due on the lines was handed over
pub record Drained (now : ℕ) (a : ArrivalState) : Type 0 where
  pub forward : (take_ready a.forward now packet_buffer).result.answer ≡ Ok None
  pub reverse : (take_ready a.inbound.reverse now packet_buffer).result.answer ≡ Ok None

pub arrivals_drained : (t : Timing) (rolls : List Float) (total now : ℕ) (a : ArrivalState) → is_going (serve_arrivals t rolls total now a).stop ≡ true → Drained now (serve_arrivals t rolls total now a).state
unfolding serve_arrivals
arrivals_drained t rolls total now a = by_stop_lem (is_going forth.stop) refl
  where
    forth : ServeForwardExit
    forth = serve_forward rolls total now a.forward a.inbound

    middle : ArrivalState
    middle = with_forward a forth

    by_stop_lem : (b : Bool) → is_going forth.stop ≡ b → let x = cond b (reverse_served middle forth.progress (serve_reverse t now middle.inbound.reverse (acks_of middle))) (arrival_exit middle forth.progress forth.stop) in is_going x.stop ≡ true → Drained now x.state
    by_stop_lem true g on = record { forward = serve_drained rolls total now a.forward a.inbound g; reverse = serve_reverse_drained t now middle.inbound.reverse (acks_of middle) }
    by_stop_lem false g on = absurd (true≢false (sym on ∙ g))

-- ---- deadlines that are later
pub line_later : (d : Direction) (now : ℕ) → (take_ready d now packet_buffer).result.answer ≡ Ok None → {u : ℕ} → path.next_deadline d.path d.records ≡ Some u → now < u
unfolding take_ready pop_unchecked path.deadline_of
line_later d now e {u} f = by_tests (ltb 0 d.path.scheduler.count) (leb (time_of (first_record d.records)) now) (leb-false (time_of (first_record d.records)) now) e f
  where
    by_tests : (a b : Bool) → (b ≡ false → now < time_of (first_record d.records)) → (cond (a && b) (pop_first (schedule_of d) packet_buffer) (on_pop (schedule_of d) packet_buffer (Ok None))).result.answer ≡ Ok None
        → path.deadline_of (cond a (Ok (Some (time_of (first_record d.records)))) (Ok None)) ≡ Some u → now < u
    by_tests true true h e f = let z : ◌≡◌ {A = ℕ} 0 1 = cc in absurd (omega arith)
    by_tests true false h e f = let k : time_of (first_record d.records) ≡ u = cc in let l = h refl in omega (arith, k, l)
    by_tests false b h e f = let z : ◌≡◌ {A = ℕ} 0 1 = cc in absurd (omega arith)

-- of the timer set
first_later : (now : ℕ) (x : Entry) (es : List Entry) → due_keys now (x ∷ es) ≡ [] → (now < x.deadline) × (due_keys now es ≡ [])
unfolding keys_of keep
first_later now x es e = by_test_lem (leb x.deadline now) (leb-false x.deadline now) e
  where
    by_test_lem : (b : Bool) → (b ≡ false → now < x.deadline) → keys_of (cond b (x ∷ keep (map.due now) es) (keep (map.due now) es)) ≡ [] → (now < x.deadline) × (due_keys now es ≡ [])
    by_test_lem true l e = let z : ◌≡◌ {A = ℕ} 0 1 = cc in absurd (omega arith)
    by_test_lem false l e = (l refl, e)

min_later : (now d : ℕ) (es : List Entry) → now < d → due_keys now es ≡ [] → now < min_of d (deadlines_of es)
unfolding deadlines_of min_of
min_later now d [] h e = h
min_later now d (x ∷ es) h e = let f = first_later now x es e in let r = min_later now x.deadline es f.0 f.1 in omega (arith, h, r)

entries_later : (now : ℕ) (es : List Entry) → due_keys now es ≡ [] → (u : ℕ) → as_deadline (earliest (deadlines_of es)) ≡ Some u → now < u
unfolding deadlines_of earliest
entries_later now [] e u f = let z : ◌≡◌ {A = ℕ} 0 1 = cc in absurd (omega arith)
entries_later now (x ∷ es) e u f =
    let l = first_later now x es e in
    let r = min_later now x.deadline es l.0 l.1 in
    let k : min_of x.deadline (deadlines_of es) ≡ u = cc in
    omega (arith, r, k)

-- the single timer has run out though nothing is outstanding
pub record SinglePast (t : Timing) (c : ClockState) (some : Bool) (u : ℕ) : Type 0 where
  pub single : t ≡ timing.Single
  pub none : some ≡ false
  pub at : (timer_of c).deadline ≡ Some u

pub timers_later : (t : Timing) (c : ClockState) (now : ℕ) (some : Bool) → due t c now some ≡ ran.Nothing → (u : ℕ) → clock.next_deadline t c ≡ Some u → (now < u) ⊎ SinglePast t c some u
unfolding due clock.next_deadline
timers_later timing.Single c now some e u f = by_tests (expired_at (timer_of c).deadline now) some refl refl e
  where
    by_tests : (a b : Bool) → expired_at (timer_of c).deadline now ≡ a → some ≡ b → single_due a b ran.Nothing ≡ ran.Nothing → (now < u) ⊎ SinglePast timing.Single c some u
    by_tests true true x o e = let z : ◌≡◌ {A = ℕ} 0 1 = cc in absurd (omega arith)
    by_tests true false x o e = inr (record { single = refl; none = o; at = f })
    by_tests false b x o e = inl (leb-false u now (ap (λ (d : Option ℕ). expired_at d now) (sym f) ∙ x))
timers_later timing.PerNumber c now some e u f = inl (entries_later now (running c) (no_numbers_due c now some e) u f)
timers_later timing.Edition c now some e u f = by_tests (expired_at (timer_of c).deadline now) some refl e
  where
    by_tests : (a b : Bool) → expired_at (timer_of c).deadline now ≡ a → single_due a b ran.Idle ≡ ran.Nothing → (now < u) ⊎ SinglePast timing.Edition c some u
    by_tests true true x e = let z : ◌≡◌ {A = ℕ} 0 1 = cc in absurd (omega arith)
    by_tests true false x e = let z : ◌≡◌ {A = ℕ} 0 1 = cc in absurd (omega arith)
    by_tests false b x e = inl (leb-false u now (ap (λ (d : Option ℕ). expired_at d now) (sym f) ∙ x))
