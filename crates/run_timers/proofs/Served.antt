-- With a number outstanding the next time is set and near: so a run that ended has every chunk acknowledged, or met a ceiling.
use Rattle.std.specs.Prelude.{None, Some, Option}
use Prim.Native.Nat.{ℕ, ◌+◌, ◌-◌, ◌≤◌, ◌<◌, min}
use native.Mathlib.Omega.{arith}
use mathlib.Core.Path.{◌≡◌, refl, sym, ap, ◌∙◌, subst}
use mathlib.Core.Bool.{Bool, true, false, cond, not, true≢false, and-eq-true_iff}
use mathlib.Core.Logic.{◌⊎◌, inl, inr, ⊎_elim}
use mathlib.Core.List.{List, [], ◌∷◌}
use lib.Dec.{ltb, eqb}
use borrow.Author.Tests.{ltb-true, ltb-false, not-true}
use Rattle.timer.specs.Timer.{active}
use Rattle.multi_timer.specs.Map.{Entry, deadlines_of, lookup, is_some, min_of, earliest}
use Rattle.window.specs.State.{outstanding}
use Rattle.window.proofs.Laws.{Sound, sound}
use Rattle.path.specs.Path.{is_empty}
use Rattle.clock.specs.Clock.{timer_of, as_deadline}
use Rattle.clock.specs.Clock as clock
use Rattle.clock.specs.declared.Timing.{Timing}
use Rattle.clock.specs.declared.Timing.TheVariants.{Single, PerNumber, Edition}
use Rattle.clock.proofs.Laws.{running}
use Rattle.session.specs.Sending.{has_outstanding}
use Rattle.session.specs.GoodSender.{is_selective, sender_broken}
use Rattle.setup.specs.declared.TransferConfig.{TransferConfig}
use Rattle.step.specs.State.{Given, RunState}
use Rattle.step.specs.Settle.{StepExit, sender_idle}
use Rattle.step.specs.Step.{step}
use Rattle.step.specs.declared.Plan.{Plan}
use Rattle.step.proofs.Laws as laws
use Rattle.transfer.specs.Start.{plan_for}
use Rattle.transfer.specs.declared.Ceilings.{Ceilings}
use Rattle.run_ends.specs.Ended.{is_idle, next_time, NothingToSend, EndedWhy}
use Rattle.run_ends.specs.Ended.EndedWhy.{finished, resends_used, nothing_due, past_limit, rounds_used, timer_past, moments_used}
use Rattle.run_timers.specs.Timed.{window_in, largest_rto}
use Rattle.run_timers.specs.Stopped.{Went, CeilingMet, AllAcknowledged}
use Rattle.run_timers.specs.Stopped.CeilingMet.{resends_met, limit_met, rounds_met, moments_met}
use Rattle.run_timers.proofs.Due.{base_unmarked}
use Rattle.run_timers.proofs.Held.{single_other, edition_each, Held}
use Rattle.run_timers.proofs.Went.{Passed}

-- ---- the earliest deadline of the timer set is no later than any
none_some : {A : Type 0} {d : ℕ} → ◌≡◌ {A = Option ℕ} None (Some d) → A
none_some e = let z : ◌≡◌ {A = ℕ} 0 1 = cc in absurd (omega arith)

some_some : {d e : ℕ} → ◌≡◌ {A = Option ℕ} (Some d) (Some e) → d ≡ e
some_some e = cc

min_first : (a : ℕ) (ds : List ℕ) → min_of a ds ≤ a
unfolding min_of
min_first a [] = omega arith
min_first a (x ∷ xs) = omega arith

min_below : (a : ℕ) (es : List Entry) (k d : ℕ) → lookup k es ≡ Some d → min_of a (deadlines_of es) ≤ d
unfolding min_of deadlines_of lookup
min_below a [] k d e = none_some e
min_below a (y ∷ es) k d e = by_key (eqb y.key k) e (min_below y.deadline es k d)
  where
    by_key : (b : Bool) → cond b (Some y.deadline) (lookup k es) ≡ Some d → (lookup k es ≡ Some d → min_of y.deadline (deadlines_of es) ≤ d) → min a (min_of y.deadline (deadlines_of es)) ≤ d
    by_key true e rest = let q = some_some e in let m = min_first y.deadline (deadlines_of es) in omega (arith, q, m)
    by_key false e rest = let m = rest e in omega (arith, m)

record Earliest (es : List Entry) (d : ℕ) : Type 0 where
  at : ℕ
  is : as_deadline (earliest (deadlines_of es)) ≡ Some at
  first : at ≤ d

earliest_of_lem : (es : List Entry) (k d : ℕ) → lookup k es ≡ Some d → Earliest es d
unfolding deadlines_of lookup earliest
earliest_of_lem [] k d e = none_some e
earliest_of_lem (x ∷ es) k d e = record { at = min_of x.deadline (deadlines_of es); is = refl; first = by_key (eqb x.key k) e }
  where
    by_key : (b : Bool) → cond b (Some x.deadline) (lookup k es) ≡ Some d → min_of x.deadline (deadlines_of es) ≤ d
    by_key true e = let q = some_some e in let m = min_first x.deadline (deadlines_of es) in omega (arith, q, m)
    by_key false e = min_below x.deadline es k d e

module _ (top : ℕ) (p : Plan) (s : RunState) (held : Held top p s) (unbroken : sender_broken s.arrivals.sender ≡ false) where
  -- ---- with a number outstanding
  record Next (t : Timing) : Type 0 where
    at : ℕ
    is : clock.next_deadline t s.arrivals.clock ≡ Some at
    near : at ≤ s.time + top

  next_set : (window_in s).send_base < (window_in s).next_seq_num → Next p.timing
  unfolding clock.next_deadline
  next_set o = by_timing p.timing refl
    where
      set : (p.timing ≡ PerNumber → ⊥) → (x : Option ℕ) → (timer_of s.arrivals.clock).deadline ≡ x → (d : ℕ) × (((timer_of s.arrivals.clock).deadline ≡ Some d) × (d ≤ s.time + top))
      set other None f = absurd (true≢false (sym (held.set other o) ∙ ap active f))
      set other (Some d) f = (d, (f, held.near other d f))

      listed : p.timing ≡ PerNumber → (x : Option ℕ) → lookup (window_in s).send_base (running s.arrivals.clock) ≡ x → Next PerNumber
      listed i None f = absurd (true≢false (sym (held.each i (window_in s).send_base (record { from = omega arith; below = o; plain = base_unmarked s.arrivals.sender unbroken })) ∙ ap is_some f))
      listed i (Some d) f =
          let x = earliest_of_lem (running s.arrivals.clock) (window_in s).send_base d f in
          let a = x.first in
          let b = held.each_near i (window_in s).send_base d f in
          record { at = x.at; is = x.is; near = omega (arith, a, b) }

      by_timing : (t : Timing) → p.timing ≡ t → Next t
      by_timing Single i = let x = set (single_other i) (timer_of s.arrivals.clock).deadline refl in record { at = x.0; is = x.1.0; near = x.1.1 }
      by_timing PerNumber i = listed i (lookup (window_in s).send_base (running s.arrivals.clock)) refl
      by_timing Edition i = let x = set (edition_each i) (timer_of s.arrivals.clock).deadline refl in record { at = x.0; is = x.1.0; near = x.1.1 }

  -- ---- with none
  whole : Sound (is_selective s.arrivals.sender.sender.state) (window_in s) s.arrivals.sender.store
  whole = sound (is_selective s.arrivals.sender.sender.state) (window_in s) s.arrivals.sender.store unbroken

  all_sent : (window_in s).next_seq_num ≤ (window_in s).send_base → NothingToSend p s → AllAcknowledged p s
  all_sent over n = let w = whole.positive in ⊎_elim (λ h. omega (arith, h, over)) (λ h. absurd (omega (arith, h, over, w))) n

  idle_all : is_idle p s ≡ true → AllAcknowledged p s
  unfolding sender_idle
  idle_all e =
      let a = (and-eq-true_iff (not (ltb (window_in s).next_seq_num p.total_chunks)) _).0 e in
      let b = (and-eq-true_iff (is_empty s.arrivals.forward.path) _).0 a.1 in
      let c = (and-eq-true_iff (is_empty s.arrivals.inbound.reverse.path) _).0 b.1 in
      let d = (and-eq-true_iff (not (has_outstanding s.arrivals.sender.sender)) (eqb s.arrivals.clock.answer.timers.count 0)).0 c.1 in
      let sent = ltb-false (window_in s).next_seq_num p.total_chunks (not-true _ a.0) in
      let over = ltb-false 0 (outstanding (window_in s)) (not-true _ d.0) in
      all_sent (omega (arith, over)) (inl sent)

  -- ---- either
  no_time : NothingToSend p s → next_time p s ≡ None → AllAcknowledged p s
  no_time n e = by_test_lem (ltb (window_in s).send_base (window_in s).next_seq_num) refl
    where
      not_set : {d : ℕ} → Some d ≡ None → AllAcknowledged p s
      not_set e = let z : ◌≡◌ {A = ℕ} 0 1 = cc in absurd (omega arith)

      by_test_lem : (b : Bool) → ltb (window_in s).send_base (window_in s).next_seq_num ≡ b → AllAcknowledged p s
      by_test_lem true o = let x = next_set (ltb-true _ _ o) in not_set (sym x.is ∙ (laws.no_deadline p.timing s.arrivals.forward s.arrivals.inbound.reverse s.arrivals.clock e).timer_none)
      by_test_lem false o = all_sent (ltb-false _ _ o) n

  late_time : NothingToSend p s → (t : ℕ) → next_time p s ≡ Some t → p.max_virtual_time < t → AllAcknowledged p s ⊎ (p.max_virtual_time < s.time + top)
  late_time n t e h = by_test_lem (ltb (window_in s).send_base (window_in s).next_seq_num) refl
    where
      by_test_lem : (b : Bool) → ltb (window_in s).send_base (window_in s).next_seq_num ≡ b → AllAcknowledged p s ⊎ (p.max_virtual_time < s.time + top)
      by_test_lem true o =
          let x = next_set (ltb-true _ _ o) in
          let a = (laws.earliest p.timing s.arrivals.forward s.arrivals.inbound.reverse s.arrivals.clock e).timer_later x.is in
          let b = x.near in
          inr (omega (arith, h, a, b))
      by_test_lem false o = inl (all_sent (ltb-false _ _ o) n)

-- ---- why a run ended: what the state before the last step has left of rounds and moves tells how many were made
module _ (k : Ceilings) (c : TransferConfig) (g : Given) (first u : RunState) (q : Passed (plan_for k c g) g first u) (few : first.moves ≡ k.steps - 1) (x : StepExit) (last : x ≡ step (plan_for k c g) g u) (held : Held (largest_rto c.rto) (plan_for k c g) x.state)
    (unbroken : sender_broken x.state.arrivals.sender ≡ false) where
  all_rounds : u.rounds ≡ 0 → Went (plan_for k c g) g first u q.moved k.rounds
  all_rounds z = let n = q.rounds_left in subst (λ (i : ℕ). Went (plan_for k c g) g first u q.moved i) (omega (arith, z, n)) q.went

  all_moves : u.moves ≡ 0 → Went (plan_for k c g) g first u (k.steps - 1) q.turned
  all_moves z = let n = q.moves_left in subst (λ (i : ℕ). Went (plan_for k c g) g first u i q.turned) (omega (arith, z, n, few)) q.went

  pub ended_served : {time : ℕ} → EndedWhy (plan_for k c g) u x.state time → AllAcknowledged (plan_for k c g) x.state ⊎ CeilingMet k c g first x
  ended_served (finished d i) = inl (idle_all (largest_rto c.rto) (plan_for k c g) x.state held unbroken i)
  ended_served (resends_used e h) = inr (resends_met e h)
  ended_served (nothing_due n e) = inl (no_time (largest_rto c.rto) (plan_for k c g) x.state held unbroken n e)
  ended_served (past_limit n l) = ⊎_elim inl (λ i. inr (limit_met l i)) (late_time (largest_rto c.rto) (plan_for k c g) x.state held unbroken n l.deadline l.next l.past)
  ended_served (rounds_used z e n) = inr (rounds_met (all_rounds z) last e)
  ended_served (timer_past n y) = absurd (true≢false (sym (ap active y.set) ∙ held.off y.single y.none))
  ended_served (moments_used n z l e) = inr (moments_met (all_moves z) last l)
