-- What every call keeps: the timers' checks are false, and each number with a timer lies in the window, so that a start
-- there finds an entry.
use Rattle.std.specs.Prelude.{None, Option, Some}
use Prim.Native.Nat.{ℕ, ◌+◌, ◌-◌, ◌≤◌, ◌<◌}
use mathlib.Core.Path.{◌≡◌, refl}
use mathlib.Core.Bool.{Bool, true, false, cond, not, ◌||◌}
use mathlib.Core.List.{List}
use lib.Dec.{eqb}
use lib.ListN.{length}
use borrow.Author.Tests.{not-false, eqb-true}
use Rattle.bounds.specs.Bounds.{max_duration}
use Rattle.refusal.proofs.Laws.{or_false}
use Rattle.duration.proofs.Laws.{deadline_within}
use Rattle.timer.specs.Timer.{deadline_too_late, started_at_unchecked, cancelled_unchecked}
use Rattle.timer.specs.declared.RetransmissionTimer.{RetransmissionTimer}
use Rattle.timer.proofs.Laws.{start_too_late_within, new_held, start_held, cancel_held}
use Rattle.multi_timer.specs.Map.{deadlines_of}
use Rattle.multi_timer.specs.MultiTimer.{timers_exit, used, broken, any_late}
use Rattle.multi_timer.proofs.Laws.{new_holds, start_holds, cancel_holds, start_times, cancel_times, Within, within_none, within_put, within_remove, start_full_within}
use Rattle.notes.specs.Notes.{SegMetas, rto_at_send, expiry, Timely}
use Rattle.notes.proofs.Laws.{rto_within, expiry_within}
use Rattle.clock.specs.EditionClock.{is_running, on_send, on_ack}
use Rattle.clock.specs.Clock.{ClockState, timer_of, timers_of, with_timer, new_clock, is_oldest, is_outstanding, arm_until, arm_oldest, Submission, arm_after_submit, cancel_number, Accepted, rearm_after_ack, cancel, Held, CanRearm, CanArm}
use Rattle.clock.specs.declared.Clock.{Clock}
use Rattle.clock.specs.declared.Timing.{Timing}
use Rattle.clock.specs.declared.Timing as timing

-- ---- the single timer
started_held : (t : RetransmissionTimer) (now rto : ℕ) → deadline_too_late t.deadline ≡ false → now ≤ max_duration → rto ≤ max_duration → deadline_too_late (started_at_unchecked t now rto).deadline ≡ false
started_held t now rto h p q = start_held t now rto (start_too_late_within t now rto h p q)

module _ (t : RetransmissionTimer) (h : deadline_too_late t.deadline ≡ false) where
  pub arm_oldest_held : (m : SegMetas) (now : ℕ) (o : Option ℕ) → Timely m now → deadline_too_late (arm_oldest t m now o).deadline ≡ false
  unfolding arm_oldest
  arm_oldest_held m now None w = cancel_held t
  arm_oldest_held m now (Some seq) w = go (expiry m seq) refl
    where
      go : (x : Option ℕ) → expiry m seq ≡ x → deadline_too_late (arm_until t now x).deadline ≡ false
      go None e = cancel_held t
      go (Some d) e = started_held t now (d - now) h w.within (expiry_within m seq now d w e).ahead

  pub on_send_held : (now rto : ℕ) → now ≤ max_duration → rto ≤ max_duration → deadline_too_late (on_send t now rto).deadline ≡ false
  unfolding on_send
  on_send_held now rto p q = go (is_running t)
    where
      go : (b : Bool) → deadline_too_late (cond b t (started_at_unchecked t now rto)).deadline ≡ false
      go true = h
      go false = started_held t now rto h p q

  pub on_ack_held : (outstanding : Bool) (now rto : ℕ) → now ≤ max_duration → rto ≤ max_duration → deadline_too_late (on_ack outstanding t now rto).deadline ≡ false
  unfolding on_ack
  on_ack_held true now rto p q = started_held t now rto h p q
  on_ack_held false now rto p q = started_held t now rto h p q

-- ---- the timers' checks
timer_held : {s : ClockState} → Held s → (t : RetransmissionTimer) → deadline_too_late t.deadline ≡ false → Held (with_timer s t)
timer_held g t h = record { timer = h; state = g.state; times = g.times }

-- the two slices of the set are as long as each other
pub held_lengths : (s : ClockState) → Held s → length s.keys ≡ length s.deadlines
held_lengths s g = eqb-true _ _ (not-false _ (or_false (not (eqb (length s.keys) (length s.deadlines))) _ g.state).0)

pub submit_held : (t : Timing) (s : ClockState) (m : SegMetas) (x : Submission) → CanArm t s m x.time x.rto x.seq → Held (arm_after_submit t s m x)
unfolding arm_after_submit
submit_held timing.TheVariants.Single s m x c = go (x.retransmission || is_oldest x.oldest x.seq)
  where
    go : (b : Bool) → Held (cond b (with_timer s (arm_oldest (timer_of s) m x.time x.oldest)) s)
    go true = timer_held c.rearm.held (arm_oldest (timer_of s) m x.time x.oldest) (arm_oldest_held (timer_of s) c.rearm.held.timer m x.time x.oldest c.rearm.notes)
    go false = c.rearm.held
submit_held timing.TheVariants.PerNumber s m x c =
    let g = c.rearm.held in
    let r = rto_within m x.seq x.time x.rto c.rearm.notes c.rearm.short in
    let d = x.time + rto_at_send m x.seq x.rto in
    record {
      timer = g.timer;
      state = (start_holds (timers_of s) s.keys s.deadlines g.state x.seq d (c.room refl)).state;
      times = start_times (timers_of s) s.keys s.deadlines g.state g.times x.seq d (c.room refl) (deadline_within x.time (rto_at_send m x.seq x.rto) c.rearm.notes.within r);
    }
submit_held timing.TheVariants.Edition s m x c = timer_held c.rearm.held (on_send (timer_of s) x.time x.rto) (on_send_held (timer_of s) c.rearm.held.timer x.time x.rto c.rearm.notes.within c.rearm.short)

-- a number of the window keeps the timers' numbers in it
pub submit_window : {low high : ℕ} (t : Timing) (s : ClockState) (m : SegMetas) (x : Submission) → CanArm t s m x.time x.rto x.seq → Within low high (used (timers_of s) s.keys s.deadlines) → low ≤ x.seq → x.seq < high
    → Within low high (used (timers_of (arm_after_submit t s m x)) (arm_after_submit t s m x).keys (arm_after_submit t s m x).deadlines)
unfolding arm_after_submit
submit_window {low} {high} timing.TheVariants.Single s m x c w l u = go (x.retransmission || is_oldest x.oldest x.seq)
  where
    after : Bool → ClockState
    after b = cond b (with_timer s (arm_oldest (timer_of s) m x.time x.oldest)) s

    go : (b : Bool) → Within low high (used (timers_of (after b)) (after b).keys (after b).deadlines)
    go true = w
    go false = w
submit_window {low} {high} timing.TheVariants.PerNumber s m x c w l u =
    let d = x.time + rto_at_send m x.seq x.rto in
    rw (start_holds (timers_of s) s.keys s.deadlines c.rearm.held.state x.seq d (c.room refl)).entries (within_put low high (used (timers_of s) s.keys s.deadlines) w x.seq d l u)
submit_window timing.TheVariants.Edition s m x c w l u = w

-- ---- all of it
pub record Good (low high : ℕ) (s : ClockState) : Type 0 where
  pub held : Held s
  -- each number with a timer is at least low and below high
  pub window : Within low high (used (timers_of s) s.keys s.deadlines)

module _ {low high : ℕ} {s : ClockState} (g : Good low high s) where
  timer_good : (t : RetransmissionTimer) → deadline_too_late t.deadline ≡ false → Good low high (with_timer s t)
  timer_good t h = record { held = timer_held g.held t h; window = g.window }

  pub can_rearm : {m : SegMetas} {now rto : ℕ} → Timely m now → rto ≤ max_duration → CanRearm s m now rto
  can_rearm n h = record { held = g.held; notes = n; short = h }

  -- a number of the window can be armed, where the slices are as long as the window
  pub can_arm : {t : Timing} {m : SegMetas} {now rto seq : ℕ} → Timely m now → rto ≤ max_duration → low ≤ seq → seq < high → (t ≡ timing.TheVariants.PerNumber → high - low ≤ length s.keys) → CanArm t s m now rto seq
  can_arm {seq = seq} n h l u r = record { rearm = can_rearm n h; room = λ e. start_full_within (timers_of s) s.keys s.deadlines low high seq g.held.state g.window l u (r e) }

  pub submit_good : (t : Timing) (m : SegMetas) (x : Submission) → CanArm t s m x.time x.rto x.seq → low ≤ x.seq → x.seq < high → Good low high (arm_after_submit t s m x)
  submit_good t m x c l u = record { held = submit_held t s m x c; window = submit_window t s m x c g.window l u }

  pub cancel_number_good : (seq : ℕ) → Good low high (cancel_number s seq)
  unfolding cancel_number
  cancel_number_good seq =
      let h = cancel_holds (timers_of s) s.keys s.deadlines g.held.state seq in
      record {
        held = record { timer = g.held.timer; state = h.state; times = cancel_times (timers_of s) s.keys s.deadlines g.held.state g.held.times seq };
        window = rw h.entries (within_remove low high (used (timers_of s) s.keys s.deadlines) g.window seq);
      }

  pub ack_good : (t : Timing) (m : SegMetas) (x : Accepted) → CanRearm s m x.time x.rto → Good low high (rearm_after_ack t s m x)
  unfolding rearm_after_ack
  ack_good timing.TheVariants.Single m x c = timer_good (arm_oldest (timer_of s) m x.time x.oldest) (arm_oldest_held (timer_of s) g.held.timer m x.time x.oldest c.notes)
  ack_good timing.TheVariants.PerNumber m x c = cancel_number_good x.seq
  ack_good timing.TheVariants.Edition m x c =
      timer_good (on_ack (is_outstanding x.oldest) (timer_of s) x.time x.rto) (on_ack_held (timer_of s) g.held.timer (is_outstanding x.oldest) x.time x.rto c.notes.within c.short)

pub cancel_good : (low high : ℕ) (c : Clock) (ks ds : List ℕ) → Good low high (timers_exit c ks ds) → Good low high (timers_exit (cancel c) ks ds)
unfolding cancel
cancel_good low high c ks ds g = timer_good g (cancelled_unchecked c.timer) (cancel_held c.timer)

pub new_good : (low high : ℕ) (ks ds : List ℕ) → length ks ≡ length ds → Good low high (new_clock ks ds)
unfolding new_clock deadlines_of any_late
new_good low high ks ds e =
    let h = new_holds ks ds e in
    record {
      held = record { timer = new_held; state = h.state; times = h.times };
      window = rw h.entries (within_none low high);
    }

-- ---- the slices' lengths
module _ (s : ClockState) (b : broken (timers_of s).count s.keys s.deadlines ≡ false) where
  pub cancel_number_keys : (seq : ℕ) → length (cancel_number s seq).keys ≡ length s.keys
  unfolding cancel_number
  cancel_number_keys seq = (cancel_holds (timers_of s) s.keys s.deadlines b seq).keys_length

  pub ack_keys : (t : Timing) (m : SegMetas) (x : Accepted) → length (rearm_after_ack t s m x).keys ≡ length s.keys
  unfolding rearm_after_ack
  ack_keys timing.TheVariants.Single m x = refl
  ack_keys timing.TheVariants.PerNumber m x = cancel_number_keys x.seq
  ack_keys timing.TheVariants.Edition m x = refl

pub submit_keys : (t : Timing) (s : ClockState) (m : SegMetas) (x : Submission) → CanArm t s m x.time x.rto x.seq → length (arm_after_submit t s m x).keys ≡ length s.keys
unfolding arm_after_submit
submit_keys timing.TheVariants.Single s m x c = go (x.retransmission || is_oldest x.oldest x.seq)
  where
    go : (b : Bool) → length (cond b (with_timer s (arm_oldest (timer_of s) m x.time x.oldest)) s).keys ≡ length s.keys
    go true = refl
    go false = refl
submit_keys timing.TheVariants.PerNumber s m x c = (start_holds (timers_of s) s.keys s.deadlines c.rearm.held.state x.seq (x.time + rto_at_send m x.seq x.rto) (c.room refl)).keys_length
submit_keys timing.TheVariants.Edition s m x c = refl

pub new_keys : (ks ds : List ℕ) → length ks ≡ length ds → length (new_clock ks ds).keys ≡ length ks
unfolding new_clock
new_keys ks ds e = (new_holds ks ds e).keys_length
