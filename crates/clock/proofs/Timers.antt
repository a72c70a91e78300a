-- Each number that has a timer is outstanding and not acknowledged: so it is when the run starts, and after each call. So
-- the set never has more entries than the window numbers.
use Rattle.std.specs.Prelude.{None, Some}
use Prim.Native.Nat.{ℕ, ◌+◌, ◌-◌, ◌≤◌}
use native.Mathlib.Nat.{le_trans}
use native.Mathlib.Omega.{arith}
use mathlib.Core.Path.{◌≡◌, refl, sym, ap, ◌∙◌}
use mathlib.Core.Bool.{Bool, true, false, cond, true≢false}
use mathlib.Core.List.{List}
use lib.Dec.{eqb}
use lib.ListN.{length}
use borrow.Author.Tests.{eqb-true, eqb-false}
use Rattle.bounds.specs.Bounds.{max_duration}
use Rattle.multi_timer.specs.Map.{Entry, lookup, is_some}
use Rattle.multi_timer.specs.MultiTimer.{timers_exit, start_full}
use Rattle.multi_timer.proofs.Laws.{lookup_put, lookup_remove, start_full_within}
use Rattle.notes.specs.Notes.{SegMetas, rto_at_send, Timely}
use Rattle.window.proofs.Laws.{sound}
use Rattle.protocol.specs.declared.ProtocolType.{ProtocolType}
use Rattle.session.specs.Sending.{SenderEnd, window_of, is_due, slot_count, new_sender}
use Rattle.session.specs.GoodSender.{is_selective, sender_broken, Within}
use Rattle.session.proofs.Laws.{due_within, new_sender_size}
use Rattle.clock.specs.Clock.{ClockState, timers_of, new_clock, Submission, arm_after_submit, cancel_number, Accepted, rearm_after_ack, cancel, Held, CanArm}
use Rattle.clock.specs.Timers.{HasTimer, TimersWithin, GoodTimers}
use Rattle.clock.specs.declared.Timing.{Timing}
use Rattle.clock.specs.declared.Timing.TheVariants.{Single, PerNumber, Edition}
use Rattle.clock.proofs.Keeps.{new_good, new_keys, submit_keys, ack_keys, cancel_number_keys}
use Rattle.clock.proofs.Deadlines.{running, submit_entries, cancel_number_entries, submit_single_entries, submit_edition_entries, ack_single_entries, ack_edition_entries}

single_other : Single ≡ PerNumber → ⊥
single_other e = let z : ◌≡◌ {A = ℕ} 0 1 = cc in omega arith

edition_other : Edition ≡ PerNumber → ⊥
edition_other e = let z : ◌≡◌ {A = ℕ} 0 1 = cc in omega arith

-- no number has a timer
pub timers_none : {t : Timing} (v : SenderEnd) {c : ClockState} → ((key : ℕ) → HasTimer c key → ⊥) → (t ≡ PerNumber → (window_of v.sender).window_size ≤ length c.keys) → GoodTimers t v c
timers_none v n k = record { due = λ key h. absurd (n key h); none = λ d. n; entries = k }

pub new_timers : (t : Timing) (v : SenderEnd) (ks ds : List ℕ) → length ks ≡ length ds → (t ≡ PerNumber → (window_of v.sender).window_size ≤ length ks) → GoodTimers t v (new_clock ks ds)
new_timers t v ks ds e k =
    timers_none v (λ key h. let b = (new_good 0 0 ks ds e).window.bounds key h in omega (arith, b.1)) (λ q. rw (new_keys ks ds e) (k q))

-- beside a new sender: an entry for each slot
pub new_sender_timers : (t : Timing) (p : ProtocolType) (w limit : ℕ) (store ks ds : List ℕ) → length ks ≡ length ds → (t ≡ PerNumber → slot_count p w ≤ length ks) → GoodTimers t (new_sender p w limit store) (new_clock ks ds)
new_sender_timers t p w limit store ks ds e k = new_timers t (new_sender p w limit store) ks ds e (λ q. rw (new_sender_size p w limit store) (k q))

pub timers_within : {t : Timing} (v : SenderEnd) {c : ClockState} → GoodTimers t v c → TimersWithin (window_of v.sender) c
timers_within v g key h = let w = due_within v key (g.due key h) in (w.from, omega (arith, w.below))

-- a due number finds an entry
pub timers_free : {t : Timing} {v : SenderEnd} {c : ClockState} → GoodTimers t v c → sender_broken v ≡ false → Held c → (seq : ℕ) → Within (window_of v.sender) seq 1
    → t ≡ PerNumber → start_full (timers_of c) c.keys c.deadlines seq ≡ false
timers_free {v = v} {c = c} g h held seq w q =
    let few = (sound (is_selective v.sender.state) (window_of v.sender) v.store h).few in
    start_full_within (timers_of c) c.keys c.deadlines (window_of v.sender).send_base (window_of v.sender).next_seq_num seq held.state (record { bounds = timers_within v g }) w.from (omega (arith, w.below)) (le_trans few (g.entries q))

pub timers_can_arm : {t : Timing} {v : SenderEnd} {c : ClockState} {m : SegMetas} {now rto seq : ℕ} → GoodTimers t v c → sender_broken v ≡ false → Held c → Timely m now → rto ≤ max_duration → Within (window_of v.sender) seq 1 → CanArm t c m now rto seq
timers_can_arm {seq = seq} g h held notes short w = record { rearm = record { held = held; notes = notes; short = short }; room = timers_free g h held seq w }

-- the sender after a call
pub timers_after : (t : Timing) (v u : SenderEnd) (c : ClockState) → GoodTimers t v c → (t ≡ PerNumber → (key : ℕ) → is_due v key ≡ true → is_due u key ≡ true)
    → (window_of u.sender).window_size ≡ (window_of v.sender).window_size → GoodTimers t u c
timers_after Single v u c g k e = timers_none u (g.none single_other) (λ q. absurd (single_other q))
timers_after PerNumber v u c g k e = record { due = λ key h. k refl key (g.due key h); none = g.none; entries = λ q. rw e (g.entries q) }
timers_after Edition v u c g k e = timers_none u (g.none edition_other) (λ q. absurd (edition_other q))

-- the same entries
timers_same : {t : Timing} {v : SenderEnd} {c c' : ClockState} → running c' ≡ running c → length c'.keys ≡ length c.keys → GoodTimers t v c → GoodTimers t v c'
timers_same {c = c} {c' = c'} e k g = record { due = λ key h. g.due key (before key h); none = λ d key h. g.none d key (before key h); entries = λ q. rw k (g.entries q) }
  where
    before : (key : ℕ) → HasTimer c' key → HasTimer c key
    before key h = ap (λ (es : List Entry). is_some (lookup key es)) (sym e) ∙ h

-- ---- a number's timer set
pub arm_timers : (t : Timing) (v : SenderEnd) (c : ClockState) (m : SegMetas) (x : Submission) → GoodTimers t v c → CanArm t c m x.time x.rto x.seq → (t ≡ PerNumber → is_due v x.seq ≡ true) → GoodTimers t v (arm_after_submit t c m x)
arm_timers Single v c m x g can due = timers_same (submit_single_entries c m x) (submit_keys Single c m x can) g
arm_timers Edition v c m x g can due = timers_same (submit_edition_entries c m x) (submit_keys Edition c m x can) g
arm_timers PerNumber v c m x g can due =
    record {
      due = λ key h. by_key key (eqb x.seq key) (eqb-true _ _) (ap is_some (sym (lookup_put x.seq (x.time + rto_at_send m x.seq x.rto) key (running c))) ∙ ap (λ (es : List Entry). is_some (lookup key es)) (sym (submit_entries c m x can)) ∙ h);
      none = λ d. absurd (d refl);
      entries = λ q. rw (submit_keys PerNumber c m x can) (g.entries q);
    }
  where
    by_key : (key : ℕ) (b : Bool) → (b ≡ true → x.seq ≡ key) → is_some (cond b (Some (x.time + rto_at_send m x.seq x.rto)) (lookup key (running c))) ≡ true → is_due v key ≡ true
    by_key key true same h = rw (← same refl) (due refl)
    by_key key false same h = g.due key h

-- ---- a number's timer removed: it may be acknowledged
module _ (c : ClockState) (seq : ℕ) (held : Held c) where
  other_timer : (key : ℕ) → HasTimer (cancel_number c seq) key → (key ≡ seq → ⊥) × HasTimer c key
  other_timer key h = by_key (eqb seq key) (eqb-false _ _) (ap is_some (sym (lookup_remove seq key (running c))) ∙ ap (λ (es : List Entry). is_some (lookup key es)) (sym (cancel_number_entries c seq held.state)) ∙ h)
    where
      by_key : (b : Bool) → (b ≡ false → seq ≡ key → ⊥) → is_some (cond b None (lookup key (running c))) ≡ true → (key ≡ seq → ⊥) × HasTimer c key
      by_key true other h = absurd (true≢false (sym h))
      by_key false other h = ((λ e. other refl (sym e)), h)

  pub cancel_number_after : (t : Timing) (v u : SenderEnd) → GoodTimers t v c → (t ≡ PerNumber → (key : ℕ) → (key ≡ seq → ⊥) → is_due v key ≡ true → is_due u key ≡ true)
      → (window_of u.sender).window_size ≡ (window_of v.sender).window_size → GoodTimers t u (cancel_number c seq)
  cancel_number_after Single v u g k e = timers_none u (λ key h. g.none single_other key (other_timer key h).1) (λ q. absurd (single_other q))
  cancel_number_after Edition v u g k e = timers_none u (λ key h. g.none edition_other key (other_timer key h).1) (λ q. absurd (edition_other q))
  cancel_number_after PerNumber v u g k e =
      record {
        due = λ key h. let o = other_timer key h in k refl key o.0 (g.due key o.1);
        none = λ d. absurd (d refl);
        entries = λ q. rw (e, cancel_number_keys c held.state seq) (g.entries q);
      }

  pub cancel_number_timers : (t : Timing) (v : SenderEnd) → GoodTimers t v c → GoodTimers t v (cancel_number c seq)
  cancel_number_timers t v g = cancel_number_after t v v g (λ q key o d. d) refl

pub rearm_timers : (t : Timing) (v u : SenderEnd) (c : ClockState) (m : SegMetas) (x : Accepted) → GoodTimers t v c → Held c → (t ≡ PerNumber → (key : ℕ) → (key ≡ x.seq → ⊥) → is_due v key ≡ true → is_due u key ≡ true)
    → (window_of u.sender).window_size ≡ (window_of v.sender).window_size → GoodTimers t u (rearm_after_ack t c m x)
unfolding rearm_after_ack
rearm_timers Single v u c m x g held k e = timers_same (ack_single_entries c m x) (ack_keys c held.state Single m x) (timers_after Single v u c g (λ q. absurd (single_other q)) e)
rearm_timers PerNumber v u c m x g held k e = cancel_number_after c x.seq held PerNumber v u g k e
rearm_timers Edition v u c m x g held k e = timers_same (ack_edition_entries c m x) (ack_keys c held.state Edition m x) (timers_after Edition v u c g (λ q. absurd (edition_other q)) e)

-- the single timer stopped
pub cancel_timers : (t : Timing) (v : SenderEnd) (c : ClockState) → GoodTimers t v c → GoodTimers t v (timers_exit (cancel c.answer) c.keys c.deadlines)
unfolding cancel
cancel_timers t v c g = timers_same refl refl g
