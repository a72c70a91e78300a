-- One number's timer: what `fire_number` leaves, and what it keeps.
use Rattle.std.specs.Prelude.{Option, None, Some}
use Prim.Native.Nat.{ℕ, suc, ◌+◌, ◌*◌, ◌≤◌}
use native.Mathlib.Omega.{arith}
use native.Mathlib.Nat.{le_refl}
use mathlib.Core.Path.{◌≡◌, refl, sym, ap, ◌∙◌, subst}
use mathlib.Core.Bool.{Bool, true, false, cond, true≢false}
use mathlib.Core.List.{List, [], ◌∷◌}
use borrow.Author.Tests.{eqb-true}
use lib.Dec.{eqb}
use lib.Ieee.{Float}
use lib.ListN.{length}
use Rattle.bounds.specs.Bounds.{max_datagram}
use Rattle.rows.specs.Rows.{as_number}
use Rattle.window.specs.Slots.{mark_retransmitted, datagram_for}
use Rattle.window.specs.Resending.{mark_from}
use Rattle.path.specs.Rolls.{packet_rolls}
use Rattle.path.specs.Path.{is_going}
use Rattle.path.proofs.Laws.{going_is}
use Rattle.delivery.specs.Calls.{number_of}
use Rattle.multi_timer.specs.Map.{Entry, lookup, is_some, put, remove, due_keys_from}
use Rattle.multi_timer.proofs.Laws.{lookup_put, lookup_remove, due_from_put, due_from_remove}
use Rattle.rto.specs.Rto.{on_timeout_unchecked}
use Rattle.notes.specs.Notes.{is_premature}
use Rattle.clock.specs.Clock.{ClockState, Submission, cancel_number}
use Rattle.clock.specs.Timers.{GoodTimers}
use Rattle.clock.specs.declared.Timing.{Timing}
use Rattle.clock.specs.declared.Timing.TheVariants.{PerNumber}
use Rattle.clock.proofs.Laws as clock
use Rattle.clock.proofs.Laws.{held_lengths, running, cancel_number_good, cancel_number_keys, cancel_number_entries, submit_entries, back_off_counts}
use Rattle.session.specs.Sending.{SenderEnd, selective_repeat_end, window_of, window_end, oldest_outstanding, is_due, Resent, resent}
use Rattle.session.specs.GoodSender.{is_selective, CleanSender, SenderUnbroken, Within}
use Rattle.session.specs.declared.Timeout.TheVariants as timeout
use Rattle.session.proofs.Laws.{due_within, timeout_due, timeout_not_due, timeout_due_one, datagram_number, datagram_short}
use Rattle.submission.specs.Submission.{Outgoing, GoodOutgoing}
use Rattle.submission.proofs.Laws.{metas_of, by_outgoing, armed, submit_rto}
use Rattle.sending.specs.Retransmit.{RetransmitExit, retransmit_exit, retransmit, CanRetransmit, ceiling_met, exhausted, retransmit_all}
use Rattle.sending.specs.declared.Resends.{Resends}
use Rattle.sending.proofs.Laws.{can_resubmit, retransmit_good, retransmit_keeps, retransmit_going_used, retransmit_timers, can_retransmit_first, all_none, all_met, all_stopped, all_going}
use Rattle.timeouts.specs.Timeouts.{FireState, fire_state, FireExit, fire_exit, with_clock, after_resending, resending, timed_out, fire_number}
use Rattle.timeouts.specs.Good.{Counted, GoodFire, CanFire}
use Rattle.timeouts.proofs.Single.{timed_out_by, sender_unbroken, backed_off_estimator, can_resend_all, after_good, FireKeeps, timed_out_keeps}

-- ---- one packet: the ceiling is not met
one_packet : (limit : ℕ) (t : Timing) (rolls : List Float) (rto now : ℕ) (oldest : Option ℕ) (seq : ℕ) (packet : List ℕ) (r : Resends) (o : Outgoing) → number_of packet ≡ seq → ceiling_met limit r ≡ false
    → retransmit_all limit t rolls rto now oldest (packet ∷ []) r o ≡ retransmit t rolls rto now oldest seq packet r o
one_packet limit t rolls rto now oldest seq packet r o n c = by_stop_lem (is_going one.stop) refl
  where
    one : RetransmitExit
    one = retransmit t rolls rto now oldest seq packet r o

    by_stop_lem : (b : Bool) → is_going one.stop ≡ b → retransmit_all limit t rolls rto now oldest (packet ∷ []) r o ≡ one
    by_stop_lem true g =
        all_going limit t rolls rto now oldest packet [] r o n c g ∙ all_none limit t rolls rto now oldest one.resends one.outgoing
        ∙ ap (retransmit_exit one.resends one.outgoing) (sym (going_is one.stop g))
    by_stop_lem false g = all_stopped limit t rolls rto now oldest packet [] r o n c g

-- ---- the number marked as sent again
abbrev pub marked_again : SenderEnd → ℕ → SenderEnd
marked_again v n = selective_repeat_end (mark_from (window_end v) n 1)

-- the state with its timer stopped
abbrev pub cancelled : FireState → ℕ → FireState
cancelled s n = with_clock s (cancel_number s.outgoing.clock n)

-- its packet again
abbrev pub resent_number : List Float → ℕ → ℕ → FireState → RetransmitExit
resent_number rolls now n s =
    retransmit PerNumber rolls (on_timeout_unchecked s.estimator).current_rto now (oldest_outstanding (marked_again s.sender n).sender) n
    (datagram_for (window_end (marked_again s.sender n)) n) s.resends (cancelled s n).outgoing

-- ---- the three cases of a number
module _ (limit : ℕ) (rolls : List Float) (now n : ℕ) (s : FireState) (h : SenderUnbroken s.sender) (selective : is_selective s.sender.sender.state ≡ true) where
  abbrev fired : Resent → FireExit
  fired x = resending limit PerNumber rolls now x.packets (fire_state x.after s.estimator s.resends (cancelled s n).outgoing)

  pub fire_not_due : is_due s.sender n ≡ false → fire_number limit rolls now n s ≡ fire_exit (cancelled s n) true (None)
  unfolding fire_number timed_out
  fire_not_due d = ap fired (timeout_not_due s.sender h n selective d)

  module _ (d : is_due s.sender n ≡ true) where
    fire_again : fire_number limit rolls now n s
        ≡ after_resending (marked_again s.sender n) (on_timeout_unchecked s.estimator)
        (retransmit_all limit PerNumber rolls (on_timeout_unchecked s.estimator).current_rto now (oldest_outstanding (marked_again s.sender n).sender) (datagram_for (window_end (marked_again s.sender n)) n ∷ []) s.resends (cancelled s n).outgoing)
    unfolding fire_number timed_out
    fire_again = ap fired (timeout_due_one s.sender h n selective d)

    pub fire_due : ceiling_met limit s.resends ≡ false → fire_number limit rolls now n s ≡ after_resending (marked_again s.sender n) (on_timeout_unchecked s.estimator) (resent_number rolls now n s)
    fire_due c =
        fire_again ∙ ap (after_resending (marked_again s.sender n) (on_timeout_unchecked s.estimator))
        (one_packet limit PerNumber rolls _ now _ n _ s.resends (cancelled s n).outgoing (datagram_number (window_end (marked_again s.sender n)) n) c)

    pub fire_exhausted : ceiling_met limit s.resends ≡ true → fire_number limit rolls now n s ≡ after_resending (marked_again s.sender n) (on_timeout_unchecked s.estimator) (retransmit_exit (exhausted s.resends) (cancelled s n).outgoing (None))
    fire_exhausted c = fire_again ∙ ap (after_resending (marked_again s.sender n) (on_timeout_unchecked s.estimator)) (all_met limit PerNumber rolls _ now _ _ [] s.resends (cancelled s n).outgoing c)

-- ---- what a state asks for
module _ {rolls : List Float} {samples now : ℕ} {s : FireState} (g : GoodFire PerNumber rolls samples now s) where
  clock_good : clock.Good (window_of s.sender.sender).send_base (window_of s.sender.sender).next_seq_num s.outgoing.clock
  clock_good = record { held = g.outgoing.clock; window = record { bounds = g.timers } }

  module _ (n : ℕ) where
    cancelled_outgoing : GoodOutgoing (cancelled s n).outgoing rolls now
    cancelled_outgoing =
        record {
          forward = g.outgoing.forward;
          notes = g.outgoing.notes;
          scheduled = g.outgoing.scheduled;
          clock = (cancel_number_good clock_good n).held;
          events = g.outgoing.events;
        }

    -- its timer stopped
    pub cancelled_good : GoodFire PerNumber rolls samples now (cancelled s n)
    cancelled_good =
        record {
          outgoing = cancelled_outgoing;
          sender = g.sender;
          estimator = g.estimator;
          counted = g.counted;
          rows = g.rows;
          timers = (cancel_number_good clock_good n).window.bounds;
          entries = λ e. rw (cancel_number_keys s.outgoing.clock g.outgoing.clock.state n) (g.entries e);
          selective = g.selective;
        }

    module _ (d : is_due s.sender n ≡ true) where
      marked_within : Within (window_of (marked_again s.sender n).sender) n 1
      unfolding mark_from mark_retransmitted
      marked_within = let w = due_within s.sender n d in record { from = w.from; below = w.below }

      can_resend : CanRetransmit PerNumber rolls (on_timeout_unchecked s.estimator).current_rto now (marked_again s.sender n) n s.resends (cancelled s n).outgoing
      can_resend = can_retransmit_first (can_resend_all cancelled_good (timeout.Number n) (ap (λ (x : Resent). x.after) (sym (timeout_due_one s.sender (sender_unbroken g) n (g.selective refl) d))) marked_within refl)

      abbrev packet : List ℕ
      packet = datagram_for (window_end (marked_again s.sender n)) n

      abbrev oldest : Option ℕ
      oldest = oldest_outstanding (marked_again s.sender n).sender

      abbrev given : Submission
      given = record { time = now; seq = n; rto = (on_timeout_unchecked s.estimator).current_rto; retransmission = true; oldest = oldest }

      packet_short : length packet ≤ max_datagram
      packet_short = datagram_short (marked_again s.sender n) n can_resend.sender can_resend.within

      -- the number's timer starts again, or it stays stopped where the packet ends the run
      resent_timers : (P : List Entry → Type 0) → P (remove n (running s.outgoing.clock)) → P (put n (now + (on_timeout_unchecked s.estimator).current_rto) (remove n (running s.outgoing.clock))) → P (running (resent_number rolls now n s).outgoing.clock)
      unfolding retransmit
      resent_timers P stays starts =
          let can = can_resubmit can_resend oldest packet packet_short in
          let stopped = cancel_number_entries s.outgoing.clock n g.outgoing.clock.state in
          by_outgoing PerNumber rolls given packet (cancelled s n).outgoing (λ (y : Outgoing). P (running y.clock))
          (subst P (sym stopped) stays)
          (λ f. subst P (sym (submit_entries (cancelled s n).outgoing.clock (metas_of rolls given (cancelled s n).outgoing) given (armed PerNumber rolls given packet (cancelled s n).outgoing can)
          ∙ ap (λ (k : ℕ). put n (now + k) (running (cancelled s n).outgoing.clock)) (submit_rto rolls given packet (cancelled s n).outgoing PerNumber can (λ e. absurd (true≢false e)))
          ∙ ap (put n (now + (on_timeout_unchecked s.estimator).current_rto)) stopped)) starts)

      module _ (going : is_going (resent_number rolls now n s).stop ≡ true) where
        resent_counted : Counted (resent_number rolls now n s).outgoing.forward.path.used (marked_again s.sender n) (on_timeout_unchecked s.estimator) (resent_number rolls now n s).resends
        unfolding mark_from mark_retransmitted retransmit
        resent_counted =
            let c = g.counted in
            let b = back_off_counts s.estimator in
            rw (retransmit_going_used PerNumber rolls _ now oldest n packet s.resends (cancelled s n).outgoing going)
            (record {
              sent = one_more (window_of s.sender.sender).total_sent c.sent;
              again = one_more (window_of s.sender.sender).retransmissions c.again;
              submitted = one_more s.resends.retx_submitted c.submitted;
              premature = at_most_one (is_premature (cancelled s n).outgoing.metas n) c.premature;
              timeouts = rw b.0 (one_more s.estimator.stats.timeout_count c.timeouts);
              backoffs = rw b.1 (one_more s.estimator.stats.backoff_count c.backoffs);
            })
          where
            one_more : (x : ℕ) {u : ℕ} → x * packet_rolls ≤ u → (x + 1) * packet_rolls ≤ u + packet_rolls
            one_more x h = omega arith

            at_most_one : {x y : ℕ} (b : Bool) → x ≤ y → x + as_number b ≤ y + 1
            at_most_one true h = omega arith
            at_most_one false h = omega arith

        resent_number_good : GoodFire PerNumber rolls samples now (after_resending (marked_again s.sender n) (on_timeout_unchecked s.estimator) (resent_number rolls now n s)).state
        unfolding mark_from mark_retransmitted
        resent_number_good =
            let k = retransmit_keeps can_resend oldest packet packet_short in
            record {
              outgoing = retransmit_good can_resend oldest packet packet_short;
              sender = subst CleanSender (ap (λ (x : Resent). x.after) (timeout_due_one s.sender (sender_unbroken g) n (g.selective refl) d)) (after_good g (timeout.Number n)).state;
              estimator = backed_off_estimator g;
              counted = resent_counted;
              rows = rw k.rows g.rows;
              timers = retransmit_timers can_resend oldest packet packet_short;
              entries = λ e. rw k.keys (can_resend.entries e);
              selective = λ e. refl;
            }

-- ---- what is known of every number
module _ {rolls : List Float} {samples now : ℕ} {s : FireState} (g : GoodFire PerNumber rolls samples now s) (limit n : ℕ) where
  pub by_cases : (Q : FireExit → Type 0) → Q (fire_exit (cancelled s n) true (None))
      → (is_due s.sender n ≡ true → ceiling_met limit s.resends ≡ false → Q (after_resending (marked_again s.sender n) (on_timeout_unchecked s.estimator) (resent_number rolls now n s)))
      → (is_due s.sender n ≡ true → ceiling_met limit s.resends ≡ true → Q (after_resending (marked_again s.sender n) (on_timeout_unchecked s.estimator) (retransmit_exit (exhausted s.resends) (cancelled s n).outgoing (None))))
      → Q (fire_number limit rolls now n s)
  by_cases Q not_due again met = by_due_lem (is_due s.sender n) refl
    where
      by_ceiling : is_due s.sender n ≡ true → (c : Bool) → ceiling_met limit s.resends ≡ c → Q (fire_number limit rolls now n s)
      by_ceiling d false c = subst Q (sym (fire_due limit rolls now n s (sender_unbroken g) (g.selective refl) d c)) (again d c)
      by_ceiling d true c = subst Q (sym (fire_exhausted limit rolls now n s (sender_unbroken g) (g.selective refl) d c)) (met d c)

      by_due_lem : (b : Bool) → is_due s.sender n ≡ b → Q (fire_number limit rolls now n s)
      by_due_lem false d = subst Q (sym (fire_not_due limit rolls now n s (sender_unbroken g) (g.selective refl) d)) not_due
      by_due_lem true d = by_ceiling d (ceiling_met limit s.resends) refl

  -- its timer is stopped, and started again where its packet was sent
  pub by_timers : (P : List Entry → Type 0) → P (remove n (running s.outgoing.clock)) → (is_due s.sender n ≡ true → P (put n (now + (on_timeout_unchecked s.estimator).current_rto) (remove n (running s.outgoing.clock))))
      → P (running (fire_number limit rolls now n s).state.outgoing.clock)
  by_timers P stays starts = by_cases (λ (x : FireExit). P (running x.state.outgoing.clock)) stopped (λ d c. resent_timers g n d P stays (starts d)) (λ d c. stopped)
    where
      stopped : P (running (cancelled s n).outgoing.clock)
      stopped = subst P (sym (cancel_number_entries s.outgoing.clock n g.outgoing.clock.state)) stays

  -- the due numbers above it are as they were
  pub above_kept : due_keys_from (suc n) now (running (fire_number limit rolls now n s).state.outgoing.clock) ≡ due_keys_from (suc n) now (running s.outgoing.clock)
  above_kept =
      let removed = due_from_remove n (suc n) now (running s.outgoing.clock) (le_refl (suc n)) in
      by_timers (λ (es : List Entry). due_keys_from (suc n) now es ≡ due_keys_from (suc n) now (running s.outgoing.clock)) removed
      (λ d. due_from_put n (now + (on_timeout_unchecked s.estimator).current_rto) (suc n) now (remove n (running s.outgoing.clock)) (le_refl (suc n)) ∙ removed)

  -- while the ceiling isn't met and the run goes on
  pub fire_number_good : ceiling_met limit s.resends ≡ false → is_going (fire_number limit rolls now n s).stop ≡ true → GoodFire PerNumber rolls samples now (fire_number limit rolls now n s).state
  fire_number_good c =
      by_cases (λ (x : FireExit). is_going x.stop ≡ true → GoodFire PerNumber rolls samples now x.state)
      (λ e. cancelled_good g n) (λ d f e. resent_number_good g n d e) (λ d f e. absurd (true≢false (sym f ∙ c)))

-- ---- what is kept, also where the run ends
module _ {rolls : List Float} {samples now : ℕ} {s : FireState} (g : GoodFire PerNumber rolls samples now s) (limit n : ℕ) where
  pub fire_number_keeps : FireKeeps rolls now s (fire_number limit rolls now n s).state
  unfolding fire_number
  fire_number_keeps =
      let k = timed_out_keeps (cancelled_good g n) limit (timeout.Number n) in
      let keys = cancel_number_keys s.outgoing.clock g.outgoing.clock.state n in
      let held = (cancelled_good g n).outgoing.clock in
      record {
        window = k.window;
        sender = k.sender;
        outgoing = k.outgoing;
        timers = k.timers;
        keeps = record {
          forward = k.keeps.forward;
          rows = k.keeps.rows;
          events = k.keeps.events;
          keys = k.keeps.keys ∙ keys;
          deadlines = k.keeps.deadlines ∙ sym (held_lengths _ held) ∙ keys ∙ held_lengths _ g.outgoing.clock;
        };
        notes = k.notes;
        written = k.written;
        used = k.used;
        premature = k.premature;
      }

  -- each number with a timer stays due
  fire_number_sender : (fire_number limit rolls now n s).state.sender ≡ (resent s.sender (timeout.Number n)).after
  unfolding fire_number
  fire_number_sender = timed_out_by limit PerNumber rolls now (timeout.Number n) (cancelled s n) (λ (x : FireExit). x.state.sender ≡ (resent s.sender (timeout.Number n)).after) (λ e. refl) (λ h. refl)

  pub fire_number_due : (key : ℕ) → is_due s.sender key ≡ true → is_due (fire_number limit rolls now n s).state.sender key ≡ true
  fire_number_due key d = ap (λ (v : SenderEnd). is_due v key) fire_number_sender ∙ timeout_due s.sender (sender_unbroken g) (timeout.Number n) key (g.selective refl) d

  pub fire_number_timers : GoodTimers PerNumber s.sender s.outgoing.clock → GoodTimers PerNumber (fire_number limit rolls now n s).state.sender (fire_number limit rolls now n s).state.outgoing.clock
  fire_number_timers t =
      record {
        due = by_timers g limit n (λ (es : List Entry). (key : ℕ) → is_some (lookup key es) ≡ true → is_due (fire_number limit rolls now n s).state.sender key ≡ true) others
            (λ d key h. by_key key (eqb n key) (eqb-true _ _) (fire_number_due n d) (ap is_some (sym (lookup_put n (now + (on_timeout_unchecked s.estimator).current_rto) key (remove n (running s.outgoing.clock)))) ∙ h));
        none = λ e. absurd (e refl);
        entries = λ e. rw (fire_number_keeps.window.size, fire_number_keeps.keeps.keys) (t.entries e);
      }
    where
      others : (key : ℕ) → is_some (lookup key (remove n (running s.outgoing.clock))) ≡ true → is_due (fire_number limit rolls now n s).state.sender key ≡ true
      others key h = fire_number_due key (t.due key (other (eqb n key) (ap is_some (sym (lookup_remove n key (running s.outgoing.clock))) ∙ h)))
        where
          other : (b : Bool) → is_some (cond b None (lookup key (running s.outgoing.clock))) ≡ true → is_some (lookup key (running s.outgoing.clock)) ≡ true
          other true h = absurd (true≢false (sym h))
          other false h = h

      by_key : (key : ℕ) (b : Bool) → (b ≡ true → n ≡ key) → is_due (fire_number limit rolls now n s).state.sender n ≡ true → is_some (cond b (Some (now + (on_timeout_unchecked s.estimator).current_rto)) (lookup key (remove n (running s.outgoing.clock)))) ≡ true
          → is_due (fire_number limit rolls now n s).state.sender key ≡ true
      by_key key true e d h = subst (λ (k : ℕ). is_due (fire_number limit rolls now n s).state.sender k ≡ true) (e refl) d
      by_key key false e d h = others key h

-- ---- the calls of `fire_number`
module _ (rolls : List Float) (now n : ℕ) (s : FireState) {c : ClockState} (e : c ≡ cancel_number s.outgoing.clock n) where
  pub can_cancelled : CanFire PerNumber rolls now s → CanFire PerNumber rolls now (with_clock s c)
  can_cancelled can = subst (λ (k : ClockState). CanFire PerNumber rolls now (with_clock s k)) (sym e) (record { samples = can.samples; few = can.few; good = cancelled_good can.good n })

  pub fires_number : (limit : ℕ) {x : FireExit} → x ≡ timed_out limit PerNumber rolls now (timeout.Number n) (with_clock s c) → x ≡ fire_number limit rolls now n s
  unfolding fire_number
  fires_number limit d = d ∙ ap (λ (k : ClockState). timed_out limit PerNumber rolls now (timeout.Number n) (with_clock s k)) e
