-- One law a return.
use Rattle.std.specs.Prelude.{Err, None, Ok, Result, Some, Option}
use Prim.Native.Nat.{ℕ, ◌+◌, ◌-◌, zero-le}
use mathlib.Core.Path.{◌≡◌, refl, sym, ap, ◌∙◌}
use mathlib.Core.Bool.{Bool, true, false, ◌||◌}
use mathlib.Core.List.{List}
use native.Mathlib.Omega.{arith}
use Rattle.timer.specs.Timer.{new_timer, expired_at, started_at_unchecked, cancelled_unchecked}
use Rattle.timer.specs.declared.RetransmissionTimer.{RetransmissionTimer}
use Rattle.refusal.specs.declared.Refusal.{Refusal}
use Rattle.multi_timer.specs.Map.{Entry, deadlines_of, due_keys, earliest}
use Rattle.multi_timer.specs.MultiTimer.{timers_exit, used, broken, new_unchecked, start_timer_at_unchecked, cancel_timer_unchecked, next_key, next_expired_unchecked, earliest_answer, earliest_deadline_unchecked}
use Rattle.multi_timer.specs.declared.MultiTimer.{MultiTimer}
use Rattle.multi_timer.proofs.Laws.{used_ascending, due_from_all, next_key_lem, next_nothing}
use Rattle.rto.specs.declared.RtoEstimator.{RtoEstimator}
use Rattle.notes.specs.Notes.{SegMetas, rto_at_send, expiry, sample_exit, take_sample}
use Rattle.clock.specs.EditionClock.{on_send, on_ack, idle_expiry}
use Rattle.clock.specs.Clock.{ClockState, clock, timer_of, timers_of, with_timer, new_clock, is_oldest, is_outstanding, arm_oldest, Submission, arm_after_submit, cancel_number, Accepted, rearm_after_ack, single_due, due, as_deadline, next_deadline, sample_rtt_exit, by_sample, sample_rtt}
use Rattle.clock.specs.declared.Clock.{Clock}
use Rattle.clock.specs.declared.Timing.{Timing}
use Rattle.clock.specs.declared.Timing as timing
use Rattle.clock.specs.declared.Due.{Due}
use Rattle.clock.specs.declared.Due as ran

pub new_law : (ks ds : List ℕ) {t : RetransmissionTimer} {ts : MultiTimer} {ks' ds' : List ℕ} → t ≡ new_timer → timers_exit ts ks' ds' ≡ new_unchecked ks ds → timers_exit (clock t ts) ks' ds' ≡ new_clock ks ds
unfolding new_clock
new_law ks ds p q = rw (p, ← q)

-- ---- `arm_oldest`
module _ (t : RetransmissionTimer) (m : SegMetas) (now : ℕ) where
  pub arm_none : {o : Option ℕ} → o ≡ None → cancelled_unchecked t ≡ arm_oldest t m now o
  unfolding arm_oldest
  arm_none e = rw e

  module _ {o : Option ℕ} {seq : ℕ} {x : Option ℕ} (e : o ≡ Some seq) (p : x ≡ expiry m seq) where
    pub arm_missing : x ≡ None → cancelled_unchecked t ≡ arm_oldest t m now o
    unfolding arm_oldest
    arm_missing q = rw (e, ← p, q)

    pub arm_until : {d k : ℕ} → x ≡ Some d → k ≡ d - now → started_at_unchecked t now k ≡ arm_oldest t m now o
    unfolding arm_oldest
    arm_until q r = rw (e, ← p, q, r)

-- ---- `arm_after_submit`
module _ (s : ClockState) (m : SegMetas) (x : Submission) {t : Timing} {c : Clock} where
  pub submit_oldest : t ≡ timing.TheVariants.Single → (x.retransmission || is_oldest x.oldest x.seq) ≡ true → c ≡ clock (arm_oldest (timer_of s) m x.time x.oldest) (timers_of s)
      → timers_exit c s.keys s.deadlines ≡ arm_after_submit t s m x
  unfolding arm_after_submit
  submit_oldest e b p = rw (e, b, p)

  pub submit_number : {a : ℕ} {ts : MultiTimer} {ks ds : List ℕ} → t ≡ timing.TheVariants.PerNumber → a ≡ rto_at_send m x.seq x.rto
      → timers_exit ts ks ds ≡ start_timer_at_unchecked (timers_of s) s.keys s.deadlines x.seq (x.time + a) → c ≡ clock (timer_of s) ts
      → timers_exit c ks ds ≡ arm_after_submit t s m x
  unfolding arm_after_submit
  submit_number e a p q = rw (e, q, ← a, ← p)

  pub submit_edition : t ≡ timing.TheVariants.Edition → c ≡ clock (on_send (timer_of s) x.time x.rto) (timers_of s) → timers_exit c s.keys s.deadlines ≡ arm_after_submit t s m x
  unfolding arm_after_submit
  submit_edition e p = rw (e, p)

pub submit_later : (s : ClockState) (m : SegMetas) (x : Submission) {t : Timing} → t ≡ timing.TheVariants.Single → (x.retransmission || is_oldest x.oldest x.seq) ≡ false → s ≡ arm_after_submit t s m x
unfolding arm_after_submit
submit_later s m x e b = rw (e, b)

-- ---- `rearm_after_ack`
module _ (s : ClockState) (m : SegMetas) (x : Accepted) {t : Timing} {c : Clock} where
  pub ack_oldest : t ≡ timing.TheVariants.Single → c ≡ clock (arm_oldest (timer_of s) m x.time x.oldest) (timers_of s) → timers_exit c s.keys s.deadlines ≡ rearm_after_ack t s m x
  unfolding rearm_after_ack
  ack_oldest e p = rw (e, p)

  pub ack_number : {ks ds : List ℕ} → t ≡ timing.TheVariants.PerNumber → timers_exit c ks ds ≡ cancel_number s x.seq → timers_exit c ks ds ≡ rearm_after_ack t s m x
  unfolding rearm_after_ack
  ack_number e p = rw e p

  -- (5.3), and the idle rule
  pub ack_edition : t ≡ timing.TheVariants.Edition → c ≡ clock (started_at_unchecked (timer_of s) x.time x.rto) (timers_of s) → timers_exit c s.keys s.deadlines ≡ rearm_after_ack t s m x
  unfolding rearm_after_ack on_ack
  ack_edition e p = rw (e, p) (go (is_outstanding x.oldest))
    where
      go : (b : Bool) → with_timer s (started_at_unchecked (timer_of s) x.time x.rto) ≡ with_timer s (on_ack b (timer_of s) x.time x.rto)
      go true = refl
      go false = refl

pub cancel_number_law : (s : ClockState) (seq : ℕ) {ts : MultiTimer} {c : Clock} {ks ds : List ℕ} → timers_exit ts ks ds ≡ cancel_timer_unchecked (timers_of s) s.keys s.deadlines seq → c ≡ clock (timer_of s) ts → timers_exit c ks ds ≡ cancel_number s seq
unfolding cancel_number
cancel_number_law s seq p q = rw (q, ← p)

-- ---- `due`
module _ (s : ClockState) (now : ℕ) (outstanding : Bool) {t : Timing} where
  pub due_single : {r : Due} → t ≡ timing.TheVariants.Single → r ≡ single_due (expired_at (timer_of s).deadline now) outstanding ran.TheVariants.Nothing → r ≡ due t s now outstanding
  unfolding due
  due_single e p = rw e p

  pub due_edition : {r : Due} → t ≡ timing.TheVariants.Edition → r ≡ single_due (expired_at (timer_of s).deadline now) outstanding idle_expiry → r ≡ due t s now outstanding
  unfolding due
  due_edition e p = rw e p

  module _ (w : broken (timers_of s).count s.keys s.deadlines ≡ false) {n : Option ℕ} (p : n ≡ next_expired_unchecked (timers_of s) s.keys s.deadlines 0 now) (e : t ≡ timing.TheVariants.PerNumber) where
    abbrev es : List Entry
    es = used (timers_of s) s.keys s.deadlines

    met : n ≡ next_key (due_keys now es)
    met = p ∙ ap next_key (due_from_all 0 now 0 es (used_ascending (timers_of s) s.keys s.deadlines w) zero-le)

    pub due_numbers : {k : ℕ} → n ≡ Some k → ran.TheVariants.Numbers ≡ due t s now outstanding
    unfolding due
    due_numbers {k} f = let r = next_key_lem (due_keys now es) k (sym met ∙ f) in rw (e, r.1)

    pub due_none : n ≡ None → ran.TheVariants.Nothing ≡ due t s now outstanding
    unfolding due
    due_none f = rw (e, next_nothing (due_keys now es) (sym met ∙ f))

-- ---- `next_deadline`
module _ (s : ClockState) {t : Timing} where
  pub deadline_single : {d : Option ℕ} → t ≡ timing.TheVariants.Single → d ≡ (timer_of s).deadline → d ≡ next_deadline t s
  unfolding next_deadline
  deadline_single e p = rw e p

  pub deadline_edition : {d : Option ℕ} → t ≡ timing.TheVariants.Edition → d ≡ (timer_of s).deadline → d ≡ next_deadline t s
  unfolding next_deadline
  deadline_edition e p = rw e p

  module _ {a : Result (Option ℕ) Refusal} (e : t ≡ timing.TheVariants.PerNumber) (p : a ≡ earliest_deadline_unchecked (timers_of s) s.keys s.deadlines) where
    abbrev o : Option ℕ
    o = earliest (deadlines_of (used (timers_of s) s.keys s.deadlines))

    answer_at : (o : Option ℕ) (d : ℕ) → earliest_answer o ≡ Ok (Some d) → Some d ≡ as_deadline o
    answer_at None d q = let z : ◌≡◌ {A = ℕ} 0 1 = cc in absurd (omega arith)
    answer_at (Some x) d q = ap Some (same q)
      where
        same : ◌≡◌ {A = Result (Option ℕ) Refusal} (Ok (Some x)) (Ok (Some d)) → d ≡ x
        same q = cc

    answer_none : (o : Option ℕ) → earliest_answer o ≡ Ok None → None ≡ as_deadline o
    answer_none None q = refl
    answer_none (Some x) q = let z : ◌≡◌ {A = ℕ} 0 1 = cc in absurd (omega arith)

    answer_refused : (o : Option ℕ) (r : Refusal) → earliest_answer o ≡ Err r → None ≡ as_deadline o
    answer_refused None r q = refl
    answer_refused (Some x) r q = let z : ◌≡◌ {A = ℕ} 0 1 = cc in absurd (omega arith)

    pub deadline_at : {d : ℕ} → a ≡ Ok (Some d) → Some d ≡ next_deadline t s
    unfolding next_deadline
    deadline_at {d} q = rw e (answer_at o d (sym p ∙ q))

    pub deadline_none : a ≡ Ok None → None ≡ next_deadline t s
    unfolding next_deadline
    deadline_none q = rw e (answer_none o (sym p ∙ q))

    pub deadline_refused : {r : Refusal} → a ≡ Err r → None ≡ next_deadline t s
    unfolding next_deadline
    deadline_refused {r} q = rw e (answer_refused o r (sym p ∙ q))

-- ---- `sample_rtt`
pub sample_law : (e : RtoEstimator) (m : SegMetas) (seq now : ℕ) {m' : SegMetas} {x y : Option (ℕ × Bool)} → sample_exit m' x ≡ take_sample m seq now → x ≡ y → sample_rtt_exit m' (by_sample e y) ≡ sample_rtt e m seq now
unfolding sample_rtt
sample_law e m seq now p q = rw (← q, ← p)
