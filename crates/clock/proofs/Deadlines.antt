-- The deadlines that the calls set, and the numbers whose timers run.
use Rattle.std.specs.Prelude.{Some}
use Prim.Native.Nat.{ℕ, ◌+◌, ◌-◌, ◌≤◌, ◌<◌}
use mathlib.Core.Path.{◌≡◌, refl, ◌∙◌}
use mathlib.Core.Bool.{Bool, true, false, cond, ◌||◌, true≢false}
use mathlib.Core.List.{List, [], ◌∷◌}
use native.Mathlib.Nat.{le_trans, min-le_left}
use native.Mathlib.Omega.{arith}
use lib.Dec.{ltb}
use borrow.Author.Tests.{ltb-false, le-ltb}
use Rattle.bounds.specs.Bounds.{max_time}
use Rattle.timer.specs.Timer.{deadline_too_late, started_at_unchecked}
use Rattle.timer.specs.declared.RetransmissionTimer.{RetransmissionTimer}
use Rattle.multi_timer.specs.Map.{Entry, deadlines_of, put, remove, due_keys, min_of, earliest}
use Rattle.multi_timer.specs.MultiTimer.{used, broken, any_late}
use Rattle.multi_timer.proofs.Laws.{start_holds, cancel_holds, used_times}
use Rattle.notes.specs.Notes.{SegMetas, meta_at, rto_at_send, deadline_of}
use Rattle.notes.proofs.Laws.{expiry_noted}
use Rattle.clock.specs.Clock.{ClockState, timer_of, timers_of, with_timer, is_oldest, arm_oldest, Submission, arm_after_submit, cancel_number, Accepted, rearm_after_ack, numbers_due, due, as_deadline, next_deadline, Held, CanArm}
use Rattle.clock.specs.declared.Timing.{Timing}
use Rattle.clock.specs.declared.Timing.TheVariants.{Single, PerNumber, Edition}
use Rattle.clock.specs.declared.Due as ran

-- ---- the single timer runs out at the oldest segment's deadline, or now if that is past
pub arm_oldest_deadline : (t : RetransmissionTimer) (m : SegMetas) (now seq : ℕ) → seq < m.notes.count → (arm_oldest t m now (Some seq)).deadline ≡ Some (now + (deadline_of (meta_at m seq) - now))
unfolding arm_oldest started_at_unchecked
arm_oldest_deadline t m now seq h = rw (expiry_noted m seq h)

-- ---- the timer set, as its entries
abbrev pub running : ClockState → List Entry
running s = used (timers_of s) s.keys s.deadlines

pub submit_entries : (s : ClockState) (m : SegMetas) (x : Submission) → CanArm PerNumber s m x.time x.rto x.seq → running (arm_after_submit PerNumber s m x) ≡ put x.seq (x.time + rto_at_send m x.seq x.rto) (running s)
unfolding arm_after_submit
submit_entries s m x c = (start_holds (timers_of s) s.keys s.deadlines c.rearm.held.state x.seq (x.time + rto_at_send m x.seq x.rto) (c.room refl)).entries

pub cancel_number_entries : (s : ClockState) (seq : ℕ) → broken (timers_of s).count s.keys s.deadlines ≡ false → running (cancel_number s seq) ≡ remove seq (running s)
unfolding cancel_number
cancel_number_entries s seq b = (cancel_holds (timers_of s) s.keys s.deadlines b seq).entries

pub ack_entries : (s : ClockState) (m : SegMetas) (x : Accepted) → broken (timers_of s).count s.keys s.deadlines ≡ false → running (rearm_after_ack PerNumber s m x) ≡ remove x.seq (running s)
unfolding rearm_after_ack
ack_entries s m x b = cancel_number_entries s x.seq b

-- one timer leaves the set alone
module _ (s : ClockState) (m : SegMetas) where
  pub submit_single_entries : (x : Submission) → running (arm_after_submit Single s m x) ≡ running s
  unfolding arm_after_submit
  submit_single_entries x = go (x.retransmission || is_oldest x.oldest x.seq)
    where
      go : (b : Bool) → running (cond b (with_timer s (arm_oldest (timer_of s) m x.time x.oldest)) s) ≡ running s
      go true = refl
      go false = refl

  pub submit_edition_entries : (x : Submission) → running (arm_after_submit Edition s m x) ≡ running s
  unfolding arm_after_submit
  submit_edition_entries x = refl

  pub ack_single_entries : (x : Accepted) → running (rearm_after_ack Single s m x) ≡ running s
  unfolding rearm_after_ack
  ack_single_entries x = refl

  pub ack_edition_entries : (x : Accepted) → running (rearm_after_ack Edition s m x) ≡ running s
  unfolding rearm_after_ack
  ack_edition_entries x = refl

-- ---- numbers are due where the source's list isn't empty
pub numbers_due_lem : (s : ClockState) (now : ℕ) (outstanding : Bool) → due PerNumber s now outstanding ≡ ran.TheVariants.Numbers → (k : ℕ) × ((ks : List ℕ) × (due_keys now (running s) ≡ k ∷ ks))
unfolding due
numbers_due_lem s now outstanding e = go (due_keys now (running s)) refl e
  where
    go : (xs : List ℕ) → due_keys now (running s) ≡ xs → numbers_due xs ≡ ran.TheVariants.Numbers → (k : ℕ) × ((ks : List ℕ) × (due_keys now (running s) ≡ k ∷ ks))
    go [] p q = let z : ◌≡◌ {A = ℕ} 0 1 = cc in absurd (omega arith)
    go (k ∷ ks) p q = (k, (ks, p))

pub no_numbers_due : (s : ClockState) (now : ℕ) (outstanding : Bool) → due PerNumber s now outstanding ≡ ran.TheVariants.Nothing → due_keys now (running s) ≡ []
unfolding due
no_numbers_due s now outstanding e = go (due_keys now (running s)) refl e
  where
    go : (xs : List ℕ) → due_keys now (running s) ≡ xs → numbers_due xs ≡ ran.TheVariants.Nothing → due_keys now (running s) ≡ []
    go [] p q = p
    go (k ∷ ks) p q = let z : ◌≡◌ {A = ℕ} 0 1 = cc in absurd (omega arith)

-- ---- the next deadline is within the bound of times
min_first : (d : ℕ) (ds : List ℕ) → min_of d ds ≤ d
unfolding min_of
min_first d [] = omega arith
min_first d (x ∷ xs) = min-le_left d (min_of x xs)

in_time : (ds : List ℕ) → any_late ds ≡ false → deadline_too_late (as_deadline (earliest ds)) ≡ false
unfolding earliest any_late
in_time [] h = refl
in_time (d ∷ ds) h = le-ltb max_time (min_of d ds) (le_trans (min_first d ds) (go (ltb max_time d) (any_late ds) (ltb-false _ _) h))
  where
    go : (a b : Bool) → (a ≡ false → d ≤ max_time) → (a || b) ≡ false → d ≤ max_time
    go true b f e = absurd (true≢false e)
    go false b f e = f refl

pub next_deadline_held : (t : Timing) (s : ClockState) → Held s → deadline_too_late (next_deadline t s) ≡ false
unfolding next_deadline
next_deadline_held Single s h = h.timer
next_deadline_held PerNumber s h = in_time (deadlines_of (running s)) (used_times (timers_of s) s.keys s.deadlines h.state ∙ h.times)
next_deadline_held Edition s h = h.timer
