-- When a run finishes.
use Rattle.std.specs.Prelude.{None, Ok, Option, Some}
use Prim.Native.Nat.{ℕ, ◌-◌, ◌≤◌, ◌<◌}
use native.Mathlib.Omega.{arith}
use mathlib.Core.Path.{◌≡◌, refl, sym, ap, ◌∙◌, subst}
use mathlib.Core.Bool.{Bool, true, false, cond, not, true≢false, ◌&&◌, ◌||◌}
use mathlib.Core.Logic.{◌⊎◌, inl, inr, ⊎_elim}
use lib.Dec.{eqb, leb, ltb}
use borrow.Author.Tests.{leb-false, ltb-true, ltb-false}
use Rattle.path.specs.Path.{is_going}
use Rattle.path.specs.declared.Stop.{Stop}
use Rattle.path.specs.declared.Stop.TheVariants as stop
use Rattle.receiving.specs.declared.ReceivingSide.{ReceivingSide}
use Rattle.receiving.proofs.Laws.{Completes, completes_same, CompletedIs, serve_completes, serve_completed_is}
use Rattle.receiving.specs.Receiving.{ServeForwardExit, serve_forward}
use Rattle.acks.specs.Reverse.{serve_reverse}
use Rattle.arrivals.specs.Arrivals.{ArrivalState, arrival_exit, acks_of, with_forward, reverse_served, serve_arrivals}
use Rattle.setup.specs.Setup.{CanStart}
use Rattle.setup.specs.declared.TransferConfig.{TransferConfig}
use Rattle.step.specs.State.{Given, RunState, Lent, with_arrivals, exhausted, at}
use Rattle.step.specs.Settle.{StepExit, step_exit, finishing_time, over, unless_stopped, sender_idle, next_deadline, moved, move_to, settle}
use Rattle.step.specs.Step.{round_less, step}
use Rattle.step.specs.declared.Plan.{Plan}
use Rattle.step.specs.declared.End.{End}
use Rattle.step.specs.declared.End.TheVariants as end
use Rattle.step.specs.declared.Course.TheVariants.{Going}
use Rattle.step.proofs.Laws.{arrives, step_is, after_both, both_exit}
use Rattle.transfer.proofs.Laws.{start_completed_is}
use Rattle.transfer.specs.Start.{plan_for, new_run, start_of}
use Rattle.transfer.specs.Run.{is_over, run}
use Rattle.transfer.specs.Transfer.{end_of, finished_at, run_transfer}
use Rattle.transfer.specs.declared.Ceilings.{Ceilings}
use Rattle.transfer.specs.declared.Outcome.{Outcome}
use Rattle.transfer.proofs.Laws.{run_over}
use Rattle.edition_clock.specs.AlongARun.{Reached, start, next}
use Rattle.edition_clock.proofs.Run.{run_last}
use Rattle.run_ends.specs.Finish.{side_of, delivered_by, CompletedIn, Finishes, FinishedSo}
use Rattle.run_ends.proofs.Transfer.{by_outcome}

-- ---- what a step from s leaves: the time is not earlier and within the limit
record StepsTo (p : Plan) (s : RunState) (sides : ReceivingSide → Type 0) (x : StepExit) : Type 0 where
  later : s.time ≤ x.state.time
  in_time : x.state.time ≤ p.max_virtual_time
  side : sides (side_of x.state)
  finishes : is_over x.course ≡ true → (finished_at x.course ≡ finishing_time x.state x.state.time) ⊎ ((end_of x.course ≡ end.Ended) × (finished_at x.course ≡ finishing_time x.state p.max_virtual_time))

module _ (p : Plan) (g : Given) (s : RunState) (sides : ReceivingSide → Type 0) (early : s.time ≤ p.max_virtual_time) where
  abbrev Steps : StepExit → Type 0
  Steps x = StepsTo p s sides x

  -- over at u, which is at the same time
  over_now : (u : RunState) (e : End) → u.time ≡ s.time → sides (side_of u) → Steps (over u e u.time)
  over_now u e t q = record { later = omega (arith, t); in_time = omega (arith, t); side = q; finishes = λ i. inl refl }

  move_steps : (u : RunState) (d : Option ℕ) → u.time ≡ s.time → sides (side_of u) → Steps (move_to p u d)
  move_steps u None e q = over_now u end.Ended e q
  move_steps u (Some t) e q = by_past (leb t u.time) (ltb p.max_virtual_time t) (leb-false t u.time) (ltb-false p.max_virtual_time t)
    where
      by_moves : (b : Bool) → u.time < t → t ≤ p.max_virtual_time → Steps (cond b (over (at u t u.moves u.rounds) end.Ended t) (step_exit (at u t (u.moves - 1) p.rounds) Going))
      by_moves true h k = record { later = omega (arith, e, h); in_time = k; side = q; finishes = λ i. inl refl }
      by_moves false h k = record { later = omega (arith, e, h); in_time = k; side = q; finishes = λ i. absurd (true≢false (sym i)) }

      by_past : (a b : Bool) → (a ≡ false → u.time < t) → (b ≡ false → t ≤ p.max_virtual_time) → Steps (cond a (over (exhausted u) end.Ended u.time) (cond b (over u end.Ended p.max_virtual_time) (moved p u t)))
      by_past true b h k = over_now (exhausted u) end.Ended e q
      by_past false true h k = record { later = omega (arith, e); in_time = omega (arith, e); side = q; finishes = λ i. inr (refl, refl) }
      by_past false false h k = by_moves (eqb u.moves 0) (h refl) (k refl)

  settle_steps : (u : RunState) → u.time ≡ s.time → sides (side_of u) → Steps (settle p u)
  unfolding settle
  settle_steps u e q = go (u.arrivals.inbound.side.completed && sender_idle p.total_chunks u.arrivals.sender.sender u.arrivals.forward.path u.arrivals.inbound.reverse.path u.arrivals.clock.answer)
    where
      go : (b : Bool) → Steps (cond b (over u end.Ended u.time) (move_to p u (next_deadline p.timing u.arrivals.forward u.arrivals.inbound.reverse u.arrivals.clock)))
      go true = over_now u end.Ended e q
      go false = move_steps u (next_deadline p.timing u.arrivals.forward u.arrivals.inbound.reverse u.arrivals.clock) e q

  unless : (st : Option Stop) (u : RunState) (rest : StepExit) → u.time ≡ s.time → sides (side_of u) → Steps rest → Steps (unless_stopped st u rest)
  unless (None) u rest e q h = h
  unless (Some stop.RollsSpent) u rest e q h = over_now u end.RollsSpent e q
  unless (Some stop.EventsFull) u rest e q h = over_now u end.EventsFull e q
  unless (Some stop.ScheduleFull) u rest e q h = over_now u end.ScheduleFull e q

  either : (b : Bool) {x y : StepExit} → Steps x → Steps y → Steps (cond b x y)
  either true h k = h
  either false h k = k

  step_steps : sides (side_of s) → sides (arrives p g s).state.inbound.side → Steps (step p g s)
  step_steps q r =
      subst Steps (sym (step_is p g s))
      (either (eqb s.rounds 0) (over_now (exhausted s) end.Ended refl q)
      (unless (arrives p g s).stop (with_arrivals (round_less s) (arrives p g s).state) _ refl r
      (unless (both_exit p g s).stop (after_both p g s) _ refl r
      (either (after_both p g s).resends.exhausted (over_now (after_both p g s) end.Ended refl r)
      (either ((arrives p g s).progress || (both_exit p g s).progress) (record { later = omega arith; in_time = early; side = r; finishes = λ i. absurd (true≢false (sym i)) }) (settle_steps (after_both p g s) refl r))))))

-- ---- the receiving side after a step
module _ (p : Plan) (g : Given) (s : RunState) where
  abbrev forth : ServeForwardExit
  forth = serve_forward g.reverse_rolls p.total_chunks s.time s.arrivals.forward s.arrivals.inbound

  abbrev middle : ArrivalState
  middle = with_forward s.arrivals forth

  arrives_side : (arrives p g s).state.inbound.side ≡ forth.inbound.side
  unfolding serve_arrivals
  arrives_side = go (is_going forth.stop)
    where
      go : (b : Bool) → (cond b (reverse_served middle forth.progress (serve_reverse p.timing s.time middle.inbound.reverse (acks_of middle))) (arrival_exit middle forth.progress forth.stop)).state.inbound.side ≡ forth.inbound.side
      go true = refl
      go false = refl

  -- it completes at the step's time, and is completed where all chunks are delivered
  record Completing (y : ReceivingSide) : Type 0 where
    completes : Completes p.total_chunks s.time (side_of s) y
    is : CompletedIs p.total_chunks y

  step_completing : s.time ≤ p.max_virtual_time → CompletedIs p.total_chunks (side_of s) → StepsTo p s Completing (step p g s)
  step_completing early c =
      step_steps p g s Completing early (record { completes = completes_same p.total_chunks s.time (side_of s); is = c })
      (subst Completing (sym arrives_side)
      (record {
        completes = serve_completes g.reverse_rolls p.total_chunks s.time s.arrivals.forward s.arrivals.inbound;
        is = serve_completed_is g.reverse_rolls p.total_chunks s.time s.arrivals.forward s.arrivals.inbound c;
      }))

-- ---- a run from s, at u
record Timed (p : Plan) (g : Given) (s u : RunState) : Type 0 where
  early : u.time ≤ p.max_virtual_time
  completed_is : CompletedIs p.total_chunks (side_of u)
  since : (side_of u).completed ≡ true → CompletedIn p g s (side_of u).completed_at
  before : (side_of u).completed ≡ true → (side_of u).completed_at ≤ u.time

not_yet : (b : Bool) → false ≡ not b → b ≡ true
not_yet true e = refl
not_yet false e = absurd (true≢false (sym e))

module _ (p : Plan) (g : Given) (s : RunState) where
  module _ (u : RunState) (r : Reached p g s u) (q : Timed p g s u) where
    abbrev v : RunState
    v = (step p g u).state

    then : StepsTo p u (Completing p g u) (step p g u)
    then = step_completing p g u q.early q.completed_is

    since_then : (b : Bool) → (side_of u).completed ≡ b → (side_of v).completed ≡ true → CompletedIn p g s (side_of v).completed_at × ((side_of v).completed_at ≤ v.time)
    since_then true e d =
        let k = then.side.completes.stays e in
        let l = then.later in
        let m = q.before e in
        (subst (CompletedIn p g s) (sym k.1) (q.since e), omega (arith, k.1, l, m))
    since_then false e d =
        let k = then.side.completes.moment e d in
        let l = then.later in (
          record { before = u; reached = r; moment = sym k.0; missing = ltb-true (delivered_by u) p.total_chunks (not_yet _ (sym e ∙ q.completed_is)); all = k.1 },
          omega (arith, k.0, l),
        )

    timed_then : Timed p g s v
    timed_then = record { early = then.in_time; completed_is = then.side.is; since = λ d. (since_then (side_of u).completed refl d).0; before = λ d. (since_then (side_of u).completed refl d).1 }

    -- ---- where it is over
    module _ (o : is_over (step p g u).course ≡ true) where
      on_completed : (side_of v).completed ≡ true → finished_at (step p g u).course ≡ (side_of v).completed_at
      on_completed d =
          ⊎_elim (λ e. e ∙ ap (λ (b : Bool). cond b (side_of v).completed_at v.time) d) (λ e. e.1 ∙ ap (λ (b : Bool). cond b (side_of v).completed_at p.max_virtual_time) d) (then.finishes o)

      on_open : (side_of v).completed ≡ false → (finished_at (step p g u).course ≡ v.time) ⊎ ((end_of (step p g u).course ≡ end.Ended) × (finished_at (step p g u).course ≡ p.max_virtual_time))
      on_open d =
          ⊎_elim (λ e. inl (e ∙ ap (λ (b : Bool). cond b (side_of v).completed_at v.time) d)) (λ e. inr (e.0, e.1 ∙ ap (λ (b : Bool). cond b (side_of v).completed_at p.max_virtual_time) d)) (then.finishes o)

      within : (b : Bool) → (side_of v).completed ≡ b → finished_at (step p g u).course ≤ p.max_virtual_time
      within true d = let e = on_completed d in let h = timed_then.before d in let k = timed_then.early in omega (arith, e, h, k)
      within false d = let k = timed_then.early in ⊎_elim (λ e. omega (arith, e, k)) (λ e. let f = e.1 in omega (arith, f)) (on_open d)

      over_finishes : Finishes p g s (step p g u)
      over_finishes =
          record {
            in_time = within (side_of v).completed refl;
            completed = λ d. subst (CompletedIn p g s) (sym (on_completed d)) (timed_then.since d);
            stopped = λ d h. ⊎_elim (λ e. e) (λ e. absurd (h e.0)) (on_open d);
          }

  reached_timed : Timed p g s s → {u : RunState} → Reached p g s u → Timed p g s u
  reached_timed q start = q
  reached_timed q (next {u = u} r go) = timed_then u r (reached_timed q r)

  pub run_finishes : s.time ≤ p.max_virtual_time → CompletedIs p.total_chunks (side_of s) → (side_of s).completed ≡ false → Finishes p g s (run p g s)
  run_finishes early c not_done =
      let x = run_last p g s in
      let q : Timed p g s s = record { early = early; completed_is = c; since = λ d. absurd (true≢false (sym d ∙ not_done)); before = λ d. absurd (true≢false (sym d ∙ not_done)) } in
      subst (λ (y : StepExit). is_over y.course ≡ true → Finishes p g s y) (sym x.last) (over_finishes x.before x.reached (reached_timed q x.reached)) (run_over p g s)

-- ---- at the start
pub transfer_finishes : (k : Ceilings) (c : TransferConfig) (g : Given) (l : Lent) → CanStart (start_of c g l) → Finishes (plan_for k c g) g (new_run k c l) (run (plan_for k c g) g (new_run k c l))
unfolding new_run
transfer_finishes k c g l h = run_finishes (plan_for k c g) g (new_run k c l) (omega arith) (start_completed_is k c g l h) refl

pub outcome_finishes : (k : Ceilings) (c : TransferConfig) (g : Given) (l : Lent) (o : Outcome) → (run_transfer k c g l).answer ≡ Ok o → FinishedSo k c g l o
outcome_finishes k c g l = by_outcome k c g l (λ (o : Outcome) (m : Lent). FinishedSo k c g l o) (λ h. let f = transfer_finishes k c g l h in record { in_time = f.in_time; completed = f.completed })
