-- `fire_numbers` by its turns, what it keeps, and its loop: the due numbers from the cursor on make of the present what
-- all of them make of the start.
use Rattle.std.specs.Prelude.{None, Some, Option}
use Prim.Native.Nat.{ℕ, ◌+◌, ◌-◌, ◌^◌, ◌≤◌, ◌<◌, zero-le}
use native.Mathlib.Omega.{arith}
use native.Mathlib.Nat.{le_trans}
use native.Mathlib.Numerals.{add-one}
use mathlib.Core.Path.{◌≡◌, refl, sym, ap, ◌∙◌, subst}
use mathlib.Core.Bool.{Bool, true, false, not, true≢false}
use mathlib.Core.List.{List, [], ◌∷◌}
use lib.Dec.{lit<}
use lib.Ieee.{Float}
use lib.ListN.{length}
use Rattle.bounds.specs.Bounds.{seq_num_limit}
use Rattle.window.proofs.Laws.{sound}
use Rattle.multi_timer.specs.Map.{keys_of, ascending, lookup, is_some, due_at, due_keys_from}
use Rattle.multi_timer.specs.MultiTimer.{next_expired_unchecked}
use Rattle.multi_timer.proofs.Laws.{used_ascending, due_from_all, due_from_next, due_from_first, next_key_lem, next_nothing}
use Rattle.path.specs.Path.{is_going}
use Rattle.clock.specs.Clock.{timers_of}
use Rattle.clock.specs.Timers.{GoodTimers}
use Rattle.clock.specs.declared.Timing.TheVariants.{PerNumber}
use Rattle.clock.proofs.Laws.{running}
use Rattle.session.specs.Sending.{window_of}
use Rattle.session.specs.GoodSender.{is_selective}
use Rattle.sending.specs.Retransmit.{ceiling_met, exhausted}
use Rattle.sending.specs.declared.Resends.{Resends}
use Rattle.sending.proofs.Pumps.{stops, goes}
use Rattle.timeouts.specs.Timeouts.{FireState, FireExit, fire_exit, with_resends, fire_number, fire_numbers, expired}
use Rattle.timeouts.specs.Good.{GoodFire, CanFire}
use Rattle.timeouts.proofs.Numbers.{above_kept, fire_number_good, fire_number_timers}

-- ---- one turn
module _ (limit : ℕ) (rolls : List Float) (now : ℕ) where
  pub numbers_none : (s : FireState) → fire_numbers limit rolls now [] s ≡ fire_exit s true (None)
  unfolding fire_numbers
  numbers_none s = refl

  module _ (n : ℕ) (ns : List ℕ) (s : FireState) where
    pub numbers_exhausted : ceiling_met limit s.resends ≡ true → fire_numbers limit rolls now (n ∷ ns) s ≡ fire_exit (with_resends s (exhausted s.resends)) true (None)
    unfolding fire_numbers
    numbers_exhausted c = rw c

    pub numbers_going : ceiling_met limit s.resends ≡ false → is_going (fire_number limit rolls now n s).stop ≡ true → fire_numbers limit rolls now (n ∷ ns) s ≡ fire_numbers limit rolls now ns (fire_number limit rolls now n s).state
    unfolding fire_numbers
    numbers_going c e = rw (c, e)

    pub numbers_stopped : ceiling_met limit s.resends ≡ false → is_going (fire_number limit rolls now n s).stop ≡ false → fire_numbers limit rolls now (n ∷ ns) s ≡ fire_number limit rolls now n s
    unfolding fire_numbers
    numbers_stopped c e = rw (c, e)

-- ---- what is kept
pub exhausted_good : {rolls : List Float} {samples now : ℕ} {s : FireState} → GoodFire PerNumber rolls samples now s → GoodFire PerNumber rolls samples now (with_resends s (exhausted s.resends))
exhausted_good g =
    let c = g.counted in
    record {
      outgoing = g.outgoing;
      sender = g.sender;
      estimator = g.estimator;
      counted = record { sent = c.sent; again = c.again; submitted = c.submitted; premature = c.premature; timeouts = c.timeouts; backoffs = c.backoffs };
      rows = g.rows;
      timers = g.timers;
      entries = g.entries;
      selective = g.selective;
    }

module _ (limit : ℕ) (rolls : List Float) (samples now : ℕ) where
  -- what each number of a good state keeps, and the end at the ceiling, all of them keep
  pub numbers_keep : (P : FireState → Type 0)
      → ((n : ℕ) (s : FireState) → GoodFire PerNumber rolls samples now s → ceiling_met limit s.resends ≡ false → P s → P (fire_number limit rolls now n s).state)
      → ((s : FireState) → P s → P (with_resends s (exhausted s.resends)))
      → (ns : List ℕ) (s : FireState) → GoodFire PerNumber rolls samples now s → P s → P (fire_numbers limit rolls now ns s).state
  numbers_keep P each end [] s g p = subst After (sym (numbers_none limit rolls now s)) p
    where
      After : FireExit → Type 0
      After x = P x.state
  numbers_keep P each end (n ∷ ns) s g p = by_ceiling (ceiling_met limit s.resends) refl (λ c e. numbers_keep P each end ns (fire_number limit rolls now n s).state (fire_number_good g limit n c e) (each n s g c p))
    where
      After : FireExit → Type 0
      After x = P x.state

      by_stop_lem : ceiling_met limit s.resends ≡ false → (b : Bool) → is_going (fire_number limit rolls now n s).stop ≡ b
          → (ceiling_met limit s.resends ≡ false → is_going (fire_number limit rolls now n s).stop ≡ true → After (fire_numbers limit rolls now ns (fire_number limit rolls now n s).state))
          → After (fire_numbers limit rolls now (n ∷ ns) s)
      by_stop_lem c true e rest = subst After (sym (numbers_going limit rolls now n ns s c e)) (rest c e)
      by_stop_lem c false e rest = subst After (sym (numbers_stopped limit rolls now n ns s c e)) (each n s g c p)

      by_ceiling : (b : Bool) → ceiling_met limit s.resends ≡ b
          → (ceiling_met limit s.resends ≡ false → is_going (fire_number limit rolls now n s).stop ≡ true → After (fire_numbers limit rolls now ns (fire_number limit rolls now n s).state))
          → After (fire_numbers limit rolls now (n ∷ ns) s)
      by_ceiling true c rest = subst After (sym (numbers_exhausted limit rolls now n ns s c)) (end s p)
      by_ceiling false c rest = by_stop_lem c (is_going (fire_number limit rolls now n s).stop) refl rest

  -- while the run goes on
  pub fire_numbers_good : (ns : List ℕ) (s : FireState) → GoodFire PerNumber rolls samples now s → is_going (fire_numbers limit rolls now ns s).stop ≡ true → GoodFire PerNumber rolls samples now (fire_numbers limit rolls now ns s).state
  fire_numbers_good [] s g e = subst After (sym (numbers_none limit rolls now s)) g
    where
      After : FireExit → Type 0
      After x = GoodFire PerNumber rolls samples now x.state
  fire_numbers_good (n ∷ ns) s g e = by_ceiling (ceiling_met limit s.resends) refl (λ c i. fire_numbers_good ns (fire_number limit rolls now n s).state (fire_number_good g limit n c i))
    where
      After : FireExit → Type 0
      After x = GoodFire PerNumber rolls samples now x.state

      Rest : Type 0
      Rest = ceiling_met limit s.resends ≡ false → is_going (fire_number limit rolls now n s).stop ≡ true → is_going (fire_numbers limit rolls now ns (fire_number limit rolls now n s).state).stop ≡ true
          → After (fire_numbers limit rolls now ns (fire_number limit rolls now n s).state)

      by_stop_lem : ceiling_met limit s.resends ≡ false → (b : Bool) → is_going (fire_number limit rolls now n s).stop ≡ b → Rest → After (fire_numbers limit rolls now (n ∷ ns) s)
      by_stop_lem c true i rest =
          let t = numbers_going limit rolls now n ns s c i in
          subst After (sym t) (rest c i (subst (λ (x : FireExit). is_going x.stop ≡ true) t e))
      by_stop_lem c false i rest = absurd (true≢false (sym e ∙ ap (λ (x : FireExit). is_going x.stop) (numbers_stopped limit rolls now n ns s c i) ∙ i))

      by_ceiling : (b : Bool) → ceiling_met limit s.resends ≡ b → Rest → After (fire_numbers limit rolls now (n ∷ ns) s)
      by_ceiling true c rest = subst After (sym (numbers_exhausted limit rolls now n ns s c)) (exhausted_good g)
      by_ceiling false c rest = by_stop_lem c (is_going (fire_number limit rolls now n s).stop) refl rest

  -- each number with a timer stays due
  pub fire_numbers_timers : (ns : List ℕ) (s : FireState) → GoodFire PerNumber rolls samples now s → GoodTimers PerNumber s.sender s.outgoing.clock
      → GoodTimers PerNumber (fire_numbers limit rolls now ns s).state.sender (fire_numbers limit rolls now ns s).state.outgoing.clock
  fire_numbers_timers = numbers_keep (λ (s : FireState). GoodTimers PerNumber s.sender s.outgoing.clock) (λ n s g c t. fire_number_timers g limit n t) (λ s t. t)

-- ---- the loop
pub record Same (u v : FireState) : Type 0 where
  pub store : length v.sender.store ≡ length u.sender.store
  pub rows : length v.outgoing.metas.rows ≡ length u.outgoing.metas.rows
  pub events : length v.outgoing.events ≡ length u.outgoing.events
  pub records : length v.outgoing.forward.records ≡ length u.outgoing.forward.records
  pub places : length v.outgoing.forward.places ≡ length u.outgoing.forward.places
  pub keys : length v.outgoing.clock.keys ≡ length u.outgoing.clock.keys
  pub deadlines : length v.outgoing.clock.deadlines ≡ length u.outgoing.clock.deadlines

-- u at the start, v now
pub record Left (limit : ℕ) (rolls : List Float) (now : ℕ) (u v : FireState) (from : ℕ) : Type 0 where
  pub eq : fire_numbers limit rolls now (due_keys_from from now (running v.outgoing.clock)) v ≡ fire_numbers limit rolls now (expired u.outgoing.clock now) u
  pub can : CanFire PerNumber rolls now v
  pub same : Same u v

pub left_start : (limit : ℕ) {rolls : List Float} {now : ℕ} {u : FireState} → CanFire PerNumber rolls now u → Left limit rolls now u u 0
left_start limit {rolls} {now} {u} can =
    let c = u.outgoing.clock in
    record {
      eq = ap (λ (ks : List ℕ). fire_numbers limit rolls now ks u) (due_from_all 0 now 0 (running c) (used_ascending (timers_of c) c.keys c.deadlines can.good.outgoing.clock.state) zero-le);
      can = can;
      same = record { store = refl; rows = refl; events = refl; records = refl; places = refl; keys = refl; deadlines = refl };
    }

timer_set : (now : ℕ) (o : Option ℕ) → due_at now o ≡ true → is_some o ≡ true
timer_set now None e = e
timer_set now (Some d) e = refl

module _ {limit : ℕ} {rolls : List Float} {now : ℕ} {u v : FireState} {from : ℕ} (l : Left limit rolls now u v from) {k : Option ℕ}
    (next : k ≡ next_expired_unchecked (timers_of v.outgoing.clock) v.outgoing.clock.keys v.outgoing.clock.deadlines from now) where
  pub left_none : k ≡ None → fire_exit v true (None) ≡ fire_numbers limit rolls now (expired u.outgoing.clock now) u
  left_none e = sym (numbers_none limit rolls now v) ∙ ap (λ (ks : List ℕ). fire_numbers limit rolls now ks v) (sym (next_nothing (due_keys_from from now (running v.outgoing.clock)) (sym next ∙ e))) ∙ l.eq

  module _ {n : ℕ} (e : k ≡ Some n) where
    found : (rest : List ℕ) × (due_keys_from from now (running v.outgoing.clock) ≡ n ∷ rest)
    found = next_key_lem (due_keys_from from now (running v.outgoing.clock)) n (sym next ∙ e)

    sorted : ascending (keys_of (running v.outgoing.clock)) ≡ true
    sorted = used_ascending (timers_of v.outgoing.clock) v.outgoing.clock.keys v.outgoing.clock.deadlines l.can.good.outgoing.clock.state

    -- the number is not below the cursor, and outstanding
    pub left_bounds : (from ≤ n) × (n < seq_num_limit)
    left_bounds =
        let f = due_from_first from now 0 n found.0 (running v.outgoing.clock) sorted found.1 in
        let w = l.can.good.timers n (timer_set now (lookup n (running v.outgoing.clock)) f.1) in
        let low = (sound (is_selective v.sender.sender.state) (window_of v.sender.sender) v.sender.store l.can.good.sender.state).low in
        (f.0, le_trans w.1 low)

    pub left_fits : n + 1 < 2 ^ 32
    left_fits = up left_bounds.1 (lit< tt)
      where
        up : {a b c : ℕ} → a < b → b < c → a + 1 < c
        up h k = omega arith

    pub left_less : seq_num_limit - (n + 1) < seq_num_limit - from
    left_less = fewer left_bounds.0 left_bounds.1
      where
        fewer : {a b c : ℕ} → a ≤ b → b < c → c - (b + 1) < c - a
        fewer h k = omega arith

    whole : fire_numbers limit rolls now (n ∷ found.0) v ≡ fire_numbers limit rolls now (expired u.outgoing.clock now) u
    whole = ap (λ (ks : List ℕ). fire_numbers limit rolls now ks v) (sym found.1) ∙ l.eq

    module _ {b : Bool} (m : b ≡ ceiling_met limit v.resends) where
      pub left_exhausted : b ≡ true → {r : Resends} → r ≡ exhausted v.resends → fire_exit (with_resends v r) true (None) ≡ fire_numbers limit rolls now (expired u.outgoing.clock now) u
      left_exhausted h p = ap (λ (r : Resends). fire_exit (with_resends v r) true (None)) p ∙ sym (numbers_exhausted limit rolls now n found.0 v (sym m ∙ h)) ∙ whole

      module _ (few : b ≡ false) {x : FireExit} (d : x ≡ fire_number limit rolls now n v) {g : Bool} (i : g ≡ is_going x.stop) where
        c : ceiling_met limit v.resends ≡ false
        c = sym m ∙ few

        stop_is : g ≡ is_going (fire_number limit rolls now n v).stop
        stop_is = i ∙ ap (λ (y : FireExit). is_going y.stop) d

        pub left_stopped : not g ≡ true → x ≡ fire_numbers limit rolls now (expired u.outgoing.clock now) u
        left_stopped h = d ∙ sym (numbers_stopped limit rolls now n found.0 v c (sym stop_is ∙ stops g h)) ∙ whole

        pub left_next : not g ≡ false → Same u x.state → Left limit rolls now u x.state (n + 1)
        left_next h same =
            let going = sym stop_is ∙ goes g h in
            record {
              eq =
                  ap (λ (y : FireExit). fire_numbers limit rolls now (due_keys_from (n + 1) now (running y.state.outgoing.clock)) y.state) d
                  ∙ ap (λ (ks : List ℕ). fire_numbers limit rolls now ks (fire_number limit rolls now n v).state) above
                  ∙ sym (numbers_going limit rolls now n found.0 v c going) ∙ whole;
              can = subst (λ (y : FireExit). CanFire PerNumber rolls now y.state) (sym d) (record { samples = l.can.samples; few = l.can.few; good = fire_number_good l.can.good limit n c going });
              same = same;
            }
          where
            above : due_keys_from (n + 1) now (running (fire_number limit rolls now n v).state.outgoing.clock) ≡ found.0
            above =
                ap (λ (m : ℕ). due_keys_from m now (running (fire_number limit rolls now n v).state.outgoing.clock)) (add-one n)
                ∙ above_kept l.can.good limit n ∙ due_from_next from now 0 n found.0 (running v.outgoing.clock) sorted found.1
