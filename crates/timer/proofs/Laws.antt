-- What crates above may cite of the retransmission timer.
use Rattle.std.specs.Prelude.{Err, Ok, Result}
use Rattle.std.proofs.Common.{◌≡◌, ℕ, ◌-◌, ◌^◌, ◌<◌, ◌≤◌, true, false, refl, ap, ◌∙◌, arith, le-ltb, ne_eqb}
use Rattle.bounds.specs.Bounds.{max_duration, max_time}
use Rattle.duration.proofs.Laws.{start_in_time, start_late_within}
use Rattle.refusal.specs.declared.Refusal.TheVariants.{Time}
use Rattle.timer.specs.Timer.{deadline_too_late, start_too_late, read_too_late, expired_at, next_generation, new_timer, started_at_unchecked, cancelled_unchecked, timer_result, started_at, cancelled, is_expired_at, is_expired_for_at}
use Rattle.timer.specs.declared.RetransmissionTimer.{RetransmissionTimer}
use Rattle.timer.specs.declared.TimerResult.{TimerResult}
use Rattle.timer.proofs.Checks.{time_check}
use Rattle.refusal.specs.declared.Refusal.{Refusal}

-- a refused start changes nothing
pub start_refused : (t : RetransmissionTimer) (now duration : ℕ) → start_too_late t now duration ≡ true → started_at t now duration ≡ timer_result t (Err Time)
unfolding started_at
start_refused t now duration e = simp (time_check, e)

pub start_accepted : (t : RetransmissionTimer) (now duration : ℕ) → start_too_late t now duration ≡ false → started_at t now duration ≡ timer_result (started_at_unchecked t now duration) (Ok (next_generation t.generation))
unfolding started_at
start_accepted t now duration e = simp (time_check, e)

pub cancel_refused : (t : RetransmissionTimer) → deadline_too_late t.deadline ≡ true → cancelled t ≡ timer_result t (Err Time)
unfolding cancelled
cancel_refused t e = simp (time_check, e)

pub cancel_accepted : (t : RetransmissionTimer) → deadline_too_late t.deadline ≡ false → cancelled t ≡ timer_result (cancelled_unchecked t) (Ok (next_generation t.generation))
unfolding cancelled
cancel_accepted t e = simp (time_check, e)

pub expired_accepted : (t : RetransmissionTimer) (now : ℕ) → read_too_late t now ≡ false → is_expired_at t now ≡ Ok (expired_at t.deadline now)
unfolding is_expired_at
expired_accepted t now e = simp (time_check, e)

-- so a timer lent to a refused call is as it was
pub lent_start_refused : (t t' : RetransmissionTimer) (a : Result ℕ Refusal) (now duration : ℕ) → timer_result t' a ≡ started_at t now duration → start_too_late t now duration ≡ true → (t' ≡ t) × (a ≡ Err Time)
lent_start_refused t t' a now duration p e =
    let q = p ∙ start_refused t now duration e in
    (ap (λ (c : TimerResult). c.timer) q, ap (λ (c : TimerResult). c.answer) q)

pub lent_cancel_refused : (t t' : RetransmissionTimer) (a : Result ℕ Refusal) → timer_result t' a ≡ cancelled t → deadline_too_late t.deadline ≡ true → (t' ≡ t) × (a ≡ Err Time)
lent_cancel_refused t t' a p e =
    let q = p ∙ cancel_refused t e in
    (ap (λ (c : TimerResult). c.timer) q, ap (λ (c : TimerResult). c.answer) q)

-- a time and a duration within 86,400 s are never late, nor is a time within 172,800 s
pub start_too_late_within : (t : RetransmissionTimer) (now duration : ℕ) → deadline_too_late t.deadline ≡ false → now ≤ max_duration → duration ≤ max_duration → start_too_late t now duration ≡ false
start_too_late_within t now duration h p q = rw h (start_late_within now duration p q)

pub read_too_late_within : (t : RetransmissionTimer) (now : ℕ) → deadline_too_late t.deadline ≡ false → now ≤ max_time → read_too_late t now ≡ false
read_too_late_within t now h p = rw h (le-ltb _ _ p)

-- what a call below the entry points leaves is held within its bound: so is a new timer
pub new_held : deadline_too_late new_timer.deadline ≡ false
unfolding new_timer
new_held = refl

pub start_held : (t : RetransmissionTimer) (now duration : ℕ) → start_too_late t now duration ≡ false → deadline_too_late (started_at_unchecked t now duration).deadline ≡ false
unfolding started_at_unchecked
start_held t now duration e = le-ltb _ _ (start_in_time (deadline_too_late t.deadline) now duration e)

pub cancel_held : (t : RetransmissionTimer) → deadline_too_late (cancelled_unchecked t).deadline ≡ false
unfolding cancelled_unchecked
cancel_held t = refl

-- an event of the generation before a start or a cancel is stale
other : (g : ℕ) → g < 2 ^ 64 → next_generation g ≡ g → ⊥
other g h e = omega arith

pub stale_after_start : (t : RetransmissionTimer) (now duration later : ℕ) → t.generation < 2 ^ 64 → read_too_late (started_at_unchecked t now duration) later ≡ false → is_expired_for_at (started_at_unchecked t now duration) t.generation later ≡ Ok false
unfolding is_expired_for_at started_at_unchecked
stale_after_start t now duration later h e = simp (time_check, e, ne_eqb _ _ (other t.generation h))

pub stale_after_cancel : (t : RetransmissionTimer) (later : ℕ) → t.generation < 2 ^ 64 → read_too_late (cancelled_unchecked t) later ≡ false → is_expired_for_at (cancelled_unchecked t) t.generation later ≡ Ok false
unfolding is_expired_for_at cancelled_unchecked
stale_after_cancel t later h e = simp (time_check, e, ne_eqb _ _ (other t.generation h))

-- the generation after the last one is 0
pub generation_wraps : next_generation (2 ^ 64 - 1) ≡ 0
generation_wraps = refl
