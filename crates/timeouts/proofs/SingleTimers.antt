-- `fire_timers`: by what is due, what it leaves and what it keeps.
use Rattle.std.specs.Prelude.{Option, None}
use Prim.Native.Nat.{ℕ, ◌≤◌}
use native.Mathlib.Omega.{arith}
use native.Mathlib.Nat.{le_trans}
use mathlib.Core.Path.{◌≡◌, refl, sym, ap, ◌∙◌, subst}
use mathlib.Core.Bool.{Bool, true, false, cond, true≢false}
use mathlib.Core.List.{List, [], ◌∷◌}
use lib.Ieee.{Float}
use lib.ListN.{length}
use lib.Dec.{lit≤}
use Rattle.bounds.specs.Bounds.{max_time}
use Rattle.window.specs.State.{numbers_broken}
use Rattle.path.specs.Path.{is_going}
use Rattle.timer.specs.Timer.{expired_at}
use Rattle.delivery.specs.Calls.{number_of}
use Rattle.multi_timer.specs.Map.{Entry, lookup, is_some, due_keys}
use Rattle.multi_timer.specs.MultiTimer.{timers_exit, used}
use Rattle.clock.specs.Clock.{ClockState, timer_of, timers_of, numbers_due, single_due, due, cancel, Held}
use Rattle.clock.specs.Timers.{HasTimer, GoodTimers}
use Rattle.clock.specs.declared.Clock.{Clock}
use Rattle.clock.specs.declared.Timing.{Timing}
use Rattle.clock.specs.declared.Timing.TheVariants as timing
use Rattle.clock.specs.declared.Due.{Due}
use Rattle.clock.specs.declared.Due.TheVariants as ran
use Rattle.clock.proofs.Laws.{running}
use Rattle.session.specs.Sending.{window_of, has_outstanding}
use Rattle.session.specs.declared.Timeout.TheVariants as timeout
use Rattle.session.proofs.Laws.{unbroken_numbers}
use Rattle.submission.specs.Submission.{Outgoing}
use Rattle.submission.proofs.Laws.{single_running, edition_running}
use Rattle.sending.specs.Retransmit.{retransmit, ceiling_met, exhausted}
use Rattle.sending.specs.declared.Resends.{Resends}
use Rattle.sending.proofs.Laws.{keeps_again, keeps_same}
use Rattle.timeouts.specs.Timeouts.{FireState, FireExit, fire_exit, with_resends, with_clock, stopped, timeout_of, fire_single, fire_number, fire_numbers, expired, by_due, fire_timers}
use Rattle.timeouts.specs.Good.{GoodFire, CanFire}
use Rattle.timeouts.proofs.Single.{timed_out_turns, timed_out_progress, FireKeeps, stopped_good, fire_single_good, fire_single_keeps}
use Rattle.timeouts.proofs.Numbers.{cancelled, fire_number_keeps}
use Rattle.timeouts.proofs.NumbersTurns.{numbers_none, numbers_exhausted, numbers_going, numbers_stopped, numbers_keep, fire_numbers_good, fire_numbers_timers}

-- ---- only a timer for each number makes numbers due
not_numbers : (expired outstanding : Bool) (idle : Due) → (idle ≡ ran.Numbers → ⊥) → single_due expired outstanding idle ≡ ran.Numbers → ⊥
not_numbers true true idle h e = let z : ◌≡◌ {A = ℕ} 0 1 = cc in omega arith
not_numbers true false idle h e = h e
not_numbers false outstanding idle h e = let z : ◌≡◌ {A = ℕ} 0 1 = cc in omega arith

pub numbers_timing : (t : Timing) (c : ClockState) (now : ℕ) (outstanding : Bool) → due t c now outstanding ≡ ran.Numbers → t ≡ timing.PerNumber
unfolding due
numbers_timing timing.Single c now outstanding e = absurd (not_numbers (expired_at (timer_of c).deadline now) outstanding ran.Nothing (λ (f : ran.Nothing ≡ ran.Numbers). let z : ◌≡◌ {A = ℕ} 0 1 = cc in omega arith) e)
numbers_timing timing.PerNumber c now outstanding e = refl
numbers_timing timing.Edition c now outstanding e = absurd (not_numbers (expired_at (timer_of c).deadline now) outstanding ran.Idle (λ (f : ran.Idle ≡ ran.Numbers). let z : ◌≡◌ {A = ℕ} 0 1 = cc in omega arith) e)

not_single : (ks : List ℕ) → numbers_due ks ≡ ran.Single → ⊥
not_single [] e = let z : ◌≡◌ {A = ℕ} 0 1 = cc in omega arith
not_single (k ∷ ks) e = let z : ◌≡◌ {A = ℕ} 0 1 = cc in omega arith

pub single_timing : (t : Timing) (c : ClockState) (now : ℕ) (outstanding : Bool) → due t c now outstanding ≡ ran.Single → t ≡ timing.PerNumber → ⊥
unfolding due
single_timing timing.PerNumber c now outstanding e i = not_single (due_keys now (used (timers_of c) c.keys c.deadlines)) e
single_timing timing.Single c now outstanding e i = let z : ◌≡◌ {A = ℕ} 0 1 = cc in omega arith
single_timing timing.Edition c now outstanding e i = let z : ◌≡◌ {A = ℕ} 0 1 = cc in omega arith

-- ---- by what is due
module _ (limit : ℕ) (t : Timing) (rolls : List Float) (now : ℕ) (s : FireState) where
  abbrev due_now : Due
  due_now = due t s.outgoing.clock now (has_outstanding s.sender.sender)

  abbrev due_numbers : FireExit
  due_numbers = fire_numbers limit rolls now (expired s.outgoing.clock now) s

  pub timers_met : ceiling_met limit s.resends ≡ true → fire_timers limit t rolls now s ≡ fire_exit (with_resends s (exhausted s.resends)) false (None)
  unfolding fire_timers
  timers_met c = rw c

  pub timers_due_lem : ceiling_met limit s.resends ≡ false → {d : Due} → d ≡ due_now → fire_timers limit t rolls now s ≡ by_due d limit t rolls now s
  unfolding fire_timers
  timers_due_lem c e = rw c (ap (λ (k : Due). by_due k limit t rolls now s) (sym e))

  -- whatever holds of the five ends holds of the call's
  pub timers_by : (Q : FireExit → Type 0) → (ceiling_met limit s.resends ≡ true → Q (fire_exit (with_resends s (exhausted s.resends)) false (None))) → (ceiling_met limit s.resends ≡ false → Q (fire_exit s false (None)))
      → Q (fire_exit (with_clock s (stopped s.outgoing.clock)) true (None)) → ((t ≡ timing.PerNumber → ⊥) → Q (fire_single limit t rolls now s)) → (t ≡ timing.PerNumber → Q due_numbers) → Q (fire_timers limit t rolls now s)
  timers_by Q met nothing idle single numbers = by_ceiling (ceiling_met limit s.resends) refl
    where
      by_what : ceiling_met limit s.resends ≡ false → (d : Due) → d ≡ due t s.outgoing.clock now (has_outstanding s.sender.sender) → Q (fire_timers limit t rolls now s)
      by_what c ran.Nothing e = subst Q (sym (timers_due_lem c e)) (nothing c)
      by_what c ran.Idle e = subst Q (sym (timers_due_lem c e)) idle
      by_what c ran.Single e = subst Q (sym (timers_due_lem c e)) (single (single_timing t s.outgoing.clock now (has_outstanding s.sender.sender) (sym e)))
      by_what c ran.Numbers e = subst Q (sym (timers_due_lem c e)) (numbers (numbers_timing t s.outgoing.clock now (has_outstanding s.sender.sender) (sym e)))

      by_ceiling : (b : Bool) → ceiling_met limit s.resends ≡ b → Q (fire_timers limit t rolls now s)
      by_ceiling true c = subst Q (sym (timers_met c)) (met c)
      by_ceiling false c = by_what c _ refl

-- ---- what is kept, also where the run ends
module _ {rolls : List Float} {now : ℕ} where
  pub fire_keeps_again : {a b c : FireState} → FireKeeps rolls now a b → FireKeeps rolls now b c → FireKeeps rolls now a c
  fire_keeps_again h k =
      record {
        window = record {
          size = k.window.size ∙ h.window.size;
          base = k.window.base ∙ h.window.base;
          next = k.window.next ∙ h.window.next;
          selective = k.window.selective ∙ h.window.selective;
          store = k.window.store ∙ h.window.store;
        };
        sender = k.sender;
        outgoing = k.outgoing;
        timers = k.timers;
        keeps = keeps_again h.keeps k.keeps;
        notes = k.notes ∙ h.notes;
        written = le_trans h.written k.written;
        used = le_trans h.used k.used;
        premature = k.premature;
      }

  pub exhausted_keeps : {a b : FireState} → FireKeeps rolls now a b → FireKeeps rolls now a (with_resends b (exhausted b.resends))
  exhausted_keeps h = record { window = h.window; sender = h.sender; outgoing = h.outgoing; timers = h.timers; keeps = h.keeps; notes = h.notes; written = h.written; used = h.used; premature = h.premature }

  -- a good state with other timers of as many entries
  clock_keeps : {t : Timing} {samples : ℕ} {s : FireState} (c : ClockState) → GoodFire t rolls samples now (with_clock s c) → length c.keys ≡ length s.outgoing.clock.keys → length c.deadlines ≡ length s.outgoing.clock.deadlines → FireKeeps rolls now s (with_clock s c)
  clock_keeps c g k d =
      record {
        window = record { size = refl; base = refl; next = refl; selective = refl; store = refl };
        sender = g.sender;
        outgoing = g.outgoing;
        timers = g.timers;
        keeps = record { forward = record { config = refl; records = refl; places = refl }; rows = refl; events = refl; keys = k; deadlines = d };
        notes = refl;
        written = omega arith;
        used = omega arith;
        premature = g.counted.premature;
      }

  pub good_keeps : {t : Timing} {samples : ℕ} {s : FireState} → GoodFire t rolls samples now s → FireKeeps rolls now s s
  good_keeps {s = s} g =
      record {
        window = record { size = refl; base = refl; next = refl; selective = refl; store = refl };
        sender = g.sender;
        outgoing = g.outgoing;
        timers = g.timers;
        keeps = keeps_same s.outgoing;
        notes = refl;
        written = omega arith;
        used = omega arith;
        premature = g.counted.premature;
      }

  pub fire_numbers_keeps : {samples : ℕ} {s : FireState} → GoodFire timing.PerNumber rolls samples now s → (limit : ℕ) (ns : List ℕ) → FireKeeps rolls now s (fire_numbers limit rolls now ns s).state
  fire_numbers_keeps {samples} {s} g limit ns =
      numbers_keep limit rolls samples now (FireKeeps rolls now s) (λ n u h c p. fire_keeps_again p (fire_number_keeps h limit n)) (λ u p. exhausted_keeps p) ns s g (good_keeps g)

module _ {t : Timing} {rolls : List Float} {samples now : ℕ} {s : FireState} (g : GoodFire t rolls samples now s) (limit : ℕ) where
  as_numbers : t ≡ timing.PerNumber → GoodFire timing.PerNumber rolls samples now s
  as_numbers e = subst (λ (u : Timing). GoodFire u rolls samples now s) e g

  pub fire_timers_keeps : FireKeeps rolls now s (fire_timers limit t rolls now s).state
  fire_timers_keeps =
      timers_by limit t rolls now s (λ (x : FireExit). FireKeeps rolls now s x.state) (λ c. exhausted_keeps (good_keeps g)) (λ c. good_keeps g)
      (clock_keeps (stopped s.outgoing.clock) (stopped_good g) refl refl) (λ i. fire_single_keeps g limit) (λ e. fire_numbers_keeps (as_numbers e) limit (expired s.outgoing.clock now))

  -- while the run goes on and isn't exhausted
  pub fire_timers_good : is_going (fire_timers limit t rolls now s).stop ≡ true → (fire_timers limit t rolls now s).state.resends.exhausted ≡ false → GoodFire t rolls samples now (fire_timers limit t rolls now s).state
  fire_timers_good =
      timers_by limit t rolls now s (λ (x : FireExit). is_going x.stop ≡ true → x.state.resends.exhausted ≡ false → GoodFire t rolls samples now x.state) (λ c going left. absurd (true≢false left)) (λ c going left. g)
      (λ going left. stopped_good g) (λ i. fire_single_good g limit)
      (λ e going left. subst (λ (u : Timing). GoodFire u rolls samples now (fire_numbers limit rolls now (expired s.outgoing.clock now) s).state) (sym e) (fire_numbers_good limit rolls samples now (expired s.outgoing.clock now) s (as_numbers e) going))

-- ---- where it made no progress, the run goes on, and nothing but `exhausted` is changed
module _ (limit : ℕ) (rolls : List Float) (now : ℕ) where
  fire_number_progress : (n : ℕ) (s : FireState) → (fire_number limit rolls now n s).progress ≡ true
  unfolding fire_number
  fire_number_progress n s = timed_out_progress limit timing.PerNumber rolls now (timeout.Number n) (cancelled s n)

  numbers_progress : (ns : List ℕ) (s : FireState) → (fire_numbers limit rolls now ns s).progress ≡ true
  numbers_progress [] s = ap (λ (x : FireExit). x.progress) (numbers_none limit rolls now s)
  numbers_progress (n ∷ ns) s = by_ceiling (ceiling_met limit s.resends) refl (numbers_progress ns (fire_number limit rolls now n s).state)
    where
      by_stop_lem : ceiling_met limit s.resends ≡ false → (b : Bool) → is_going (fire_number limit rolls now n s).stop ≡ b → (fire_numbers limit rolls now ns (fire_number limit rolls now n s).state).progress ≡ true → (fire_numbers limit rolls now (n ∷ ns) s).progress ≡ true
      by_stop_lem c true i rest = ap (λ (x : FireExit). x.progress) (numbers_going limit rolls now n ns s c i) ∙ rest
      by_stop_lem c false i rest = ap (λ (x : FireExit). x.progress) (numbers_stopped limit rolls now n ns s c i) ∙ fire_number_progress n s

      by_ceiling : (b : Bool) → ceiling_met limit s.resends ≡ b → (fire_numbers limit rolls now ns (fire_number limit rolls now n s).state).progress ≡ true → (fire_numbers limit rolls now (n ∷ ns) s).progress ≡ true
      by_ceiling true c rest = ap (λ (x : FireExit). x.progress) (numbers_exhausted limit rolls now n ns s c)
      by_ceiling false c rest = by_stop_lem c (is_going (fire_number limit rolls now n s).stop) refl rest

  pub fire_timers_idle : (t : Timing) (s : FireState) → (fire_timers limit t rolls now s).progress ≡ false → fire_timers limit t rolls now s ≡ fire_exit (cond (ceiling_met limit s.resends) (with_resends s (exhausted s.resends)) s) false (None)
  fire_timers_idle t s =
      timers_by limit t rolls now s (λ (x : FireExit). x.progress ≡ false → x ≡ fire_exit (cond (ceiling_met limit s.resends) (with_resends s (exhausted s.resends)) s) false (None)) (λ c e. rw c) (λ c e. rw c) (λ e. absurd (true≢false e))
      (λ i e. absurd (true≢false (sym (timed_out_progress limit t rolls now (timeout_of t) (with_clock s (stopped s.outgoing.clock))) ∙ e)))
      (λ i e. absurd (true≢false (sym (numbers_progress (expired s.outgoing.clock now) s) ∙ e)))

-- ---- the single timer leaves the numbers' timers alone
retransmit_running : (t : Timing) (rolls : List Float) (rto now : ℕ) (oldest : Option ℕ) (seq : ℕ) (packet : List ℕ) (r : Resends) (o : Outgoing) → (t ≡ timing.PerNumber → ⊥) → running (retransmit t rolls rto now oldest seq packet r o).outgoing.clock ≡ running o.clock
unfolding retransmit
retransmit_running timing.Single rolls rto now oldest seq packet r o i = single_running rolls _ packet o
retransmit_running timing.PerNumber rolls rto now oldest seq packet r o i = absurd (i refl)
retransmit_running timing.Edition rolls rto now oldest seq packet r o i = edition_running rolls _ packet o

stopped_running : (c : ClockState) → running (stopped c) ≡ running c
unfolding cancel
stopped_running c = refl

pub fire_single_running : (limit : ℕ) (t : Timing) (rolls : List Float) (now : ℕ) (s : FireState) → (t ≡ timing.PerNumber → ⊥) → running (fire_single limit t rolls now s).state.outgoing.clock ≡ running s.outgoing.clock
fire_single_running limit t rolls now s i =
    let e = stopped_running s.outgoing.clock in
    timed_out_turns limit t rolls now (timeout_of t) (with_clock s (stopped s.outgoing.clock)) (λ (u : FireState). running u.outgoing.clock ≡ running s.outgoing.clock) e e (λ r o p. p)
    (λ packet m r o p. retransmit_running t rolls _ now _ (number_of packet) packet r o i ∙ p)

-- each number that has a timer is still outstanding and not acknowledged
pub fire_timers_timers : {t : Timing} {rolls : List Float} {samples now : ℕ} {s : FireState} → GoodFire t rolls samples now s → (limit : ℕ) → GoodTimers t s.sender s.outgoing.clock
    → GoodTimers t (fire_timers limit t rolls now s).state.sender (fire_timers limit t rolls now s).state.outgoing.clock
unfolding cancel
fire_timers_timers {t} {rolls} {samples} {now} {s} g limit h =
    timers_by limit t rolls now s (λ (x : FireExit). GoodTimers t x.state.sender x.state.outgoing.clock) (λ c. h) (λ c. h)
    (record { due = h.due; none = h.none; entries = h.entries })
    (λ i. record { due = λ key k. absurd (no_timer i key k); none = λ n key k. no_timer i key k; entries = λ e. absurd (i e) })
    (λ e. subst (λ (u : Timing). GoodTimers u (due_numbers limit t rolls now s).state.sender (due_numbers limit t rolls now s).state.outgoing.clock) (sym e)
    (fire_numbers_timers limit rolls samples now (expired s.outgoing.clock now) s (as_numbers g limit e) (subst (λ (u : Timing). GoodTimers u s.sender s.outgoing.clock) e h)))
  where
    no_timer : (t ≡ timing.PerNumber → ⊥) → (key : ℕ) → HasTimer (fire_single limit t rolls now s).state.outgoing.clock key → ⊥
    no_timer i key k = h.none i key (subst (λ (es : List Entry). is_some (lookup key es) ≡ true) (fire_single_running limit t rolls now s i) k)

-- ---- the function's calls and returns
module _ {t : Timing} {rolls : List Float} {now : ℕ} {s : FireState} (can : CanFire t rolls now s) where
  pub fire_numbers_sound : numbers_broken (window_of s.sender.sender) ≡ false
  fire_numbers_sound = unbroken_numbers s.sender can.good.sender.state

  pub fire_due_asks : Held s.outgoing.clock × (now ≤ max_time)
  fire_due_asks = (can.good.outgoing.clock, le_trans can.good.outgoing.notes.within (lit≤ tt))

  module _ (limit : ℕ) {b : Bool} (e : b ≡ ceiling_met limit s.resends) where
    pub fires_exhausted : b ≡ true → {r : Resends} → r ≡ exhausted s.resends → fire_exit (with_resends s r) false (None) ≡ fire_timers limit t rolls now s
    fires_exhausted f p = rw p (sym (timers_met limit t rolls now s (sym e ∙ f)))

    module _ (f : b ≡ false) {o : Bool} (h : o ≡ has_outstanding s.sender.sender) {d : Due} (i : d ≡ due t s.outgoing.clock now o) where
      by_what : {k : Due} → d ≡ k → by_due k limit t rolls now s ≡ fire_timers limit t rolls now s
      by_what j = sym (timers_due_lem limit t rolls now s (sym e ∙ f) (sym j ∙ i ∙ ap (due t s.outgoing.clock now) h))

      pub fires_nothing : d ≡ ran.Nothing → fire_exit s false (None) ≡ fire_timers limit t rolls now s
      fires_nothing j = by_what j

      pub fires_idle : d ≡ ran.Idle → {k : Clock} → k ≡ cancel s.outgoing.clock.answer → fire_exit (with_clock s (timers_exit k s.outgoing.clock.keys s.outgoing.clock.deadlines)) true (None) ≡ fire_timers limit t rolls now s
      fires_idle j q = rw q (by_what j)

      pub fires_single : d ≡ ran.Single → {x : FireExit} → x ≡ fire_single limit t rolls now s → x ≡ fire_timers limit t rolls now s
      fires_single j q = q ∙ by_what j

      pub fires_numbers : d ≡ ran.Numbers → {x : FireExit} → x ≡ fire_numbers limit rolls now (expired s.outgoing.clock now) s → x ≡ fire_timers limit t rolls now s
      fires_numbers j q = q ∙ by_what j

      pub can_fire_numbers : d ≡ ran.Numbers → CanFire timing.PerNumber rolls now s
      can_fire_numbers j = subst (λ (u : Timing). CanFire u rolls now s) (numbers_timing t s.outgoing.clock now o (sym i ∙ j)) can
