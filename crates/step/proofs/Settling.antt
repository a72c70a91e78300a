-- One law a return, over plain values: what the calls give is what the definition says.
use Rattle.std.specs.Prelude.{None, Option, Some}
use Prim.Native.Nat.{ℕ, ◌-◌, ◌≤◌, ◌<◌, min}
use mathlib.Core.Path.{◌≡◌, sym, ap, ◌∙◌}
use mathlib.Core.Bool.{Bool, true, false, cond, not, ◌&&◌, true≢false}
use lib.Dec.{ltb, eqb}
use borrow.Author.Tests.{not-true, not-false, lt-ltb, le-ltb, le-leb, lt-leb, eq-eqb, ne_eqb}
use Rattle.path.specs.Path.{is_empty, is_going}
use Rattle.path.specs.Path as path
use Rattle.path.specs.Direction.{Direction}
use Rattle.path.specs.declared.Path.{Path}
use Rattle.path.specs.declared.Stop.{Stop}
use Rattle.clock.specs.Clock.{ClockState}
use Rattle.clock.specs.Clock as clock
use Rattle.clock.specs.declared.Clock.{Clock}
use Rattle.clock.specs.declared.Timing.{Timing}
use Rattle.session.specs.Sending.{window_of, has_outstanding}
use Rattle.session.specs.declared.Sender.{Sender}
use Rattle.step.specs.State.{RunState, Lent, run_of, exhausted, at}
use Rattle.step.specs.Settle.{StepExit, step_exit, over, unless_stopped, sender_idle, of_path, earlier, next_deadline, moved, move_to, settle}
use Rattle.step.specs.declared.Plan.{Plan}
use Rattle.step.specs.declared.State.{State}
use Rattle.step.specs.declared.End.{End}
use Rattle.step.specs.declared.End.TheVariants as end
use Rattle.step.specs.declared.Course.TheVariants.{Going, Over}

-- ---- the end
module _ (s : State) (e : End) (time : ℕ) where
  over_at : Lent → Bool → StepExit
  over_at l b = step_exit (run_of s l) (Over e (cond b s.arrivals.receiving.completed_at time))

  pub over_completed : s.arrivals.receiving.completed ≡ true → (l : Lent) → step_exit (run_of s l) (Over e s.arrivals.receiving.completed_at) ≡ over (run_of s l) e time
  unfolding over_at
  over_completed h l = ap (over_at l) (sym h)

  pub over_open : s.arrivals.receiving.completed ≡ false → (l : Lent) → step_exit (run_of s l) (Over e time) ≡ over (run_of s l) e time
  unfolding over_at
  over_open h l = ap (over_at l) (sym h)

-- ---- a packet that can't be carried
pub stopped_never : {st : Option Stop} {A : Type 0} → st ≡ None → is_going st ≡ false → A
stopped_never e h = absurd (true≢false (sym (ap is_going e) ∙ h))

pub stopped_by : (s : RunState) (rest : StepExit) {st st' : Option Stop} {x : StepExit} → st ≡ st' → x ≡ unless_stopped st' s rest → x ≡ unless_stopped st s rest
stopped_by s rest e h = h ∙ ap (λ (z : Option Stop). unless_stopped z s rest) (sym e)

-- ---- the earlier of two deadlines
module _ {a b : Option ℕ} {t : ℕ} (e : a ≡ Some t) where
  pub earlier_first : b ≡ None → Some t ≡ earlier a b
  earlier_first f = rw (e, f)

  pub earlier_both : {u m : ℕ} → b ≡ Some u → m ≡ min t u → Some m ≡ earlier a b
  earlier_both f g = rw (e, f, g)

pub next_law : (t : Timing) (forward reverse : Direction) (c : ClockState) {a b : Option ℕ} {pa pb d due r : Option ℕ} → a ≡ path.next_deadline forward.path forward.records
    → b ≡ path.next_deadline reverse.path reverse.records → d ≡ clock.next_deadline t c → pb ≡ of_path b → due ≡ earlier pb d → pa ≡ of_path a → r ≡ earlier pa due → r ≡ next_deadline t forward reverse c
unfolding next_deadline
next_law t forward reverse c ea eb ed fb fd fa fr = rw (← ea, ← eb, ← ed, ← fb, ← fd, ← fa, ← fr)

-- ---- the sender has nothing left to do
module _ (total : ℕ) (s : Sender) (f r : Path) (c : Clock) {n : ℕ} (e : n ≡ (window_of s).next_seq_num) where
  pub idle_unsent : n < total → false ≡ sender_idle total s f r c
  unfolding sender_idle
  idle_unsent h = rw (← e, lt-ltb n total h)

  module _ (h : total ≤ n) {bf : Bool} (ef : bf ≡ is_empty f) where
    all_sent : ltb (window_of s).next_seq_num total ≡ false
    all_sent = rw (← e) (le-ltb n total h)

    pub idle_forward : not bf ≡ true → false ≡ sender_idle total s f r c
    unfolding sender_idle
    idle_forward k = rw (all_sent, ← ef, not-true bf k)

    module _ (kf : not bf ≡ false) {br : Bool} (er : br ≡ is_empty r) where
      pub idle_reverse : not br ≡ true → false ≡ sender_idle total s f r c
      unfolding sender_idle
      idle_reverse k = rw (all_sent, ← ef, not-false bf kf, ← er, not-true br k)

      module _ (kr : not br ≡ false) {o : Bool} (eo : o ≡ has_outstanding s) where
        pub idle_waiting : o ≡ true → false ≡ sender_idle total s f r c
        unfolding sender_idle
        idle_waiting k = rw (all_sent, ← ef, not-false bf kf, ← er, not-false br kr, ← eo, k)

        pub idle_timers : o ≡ false → eqb c.timers.count 0 ≡ sender_idle total s f r c
        unfolding sender_idle
        idle_timers k = rw (all_sent, ← ef, not-false bf kf, ← er, not-false br kr, ← eo, k)

pub done_open : (b x : Bool) → not b ≡ true → false ≡ (b && x)
done_open b x h = rw (not-true b h)

pub done_idle : (b x : Bool) {y : Bool} → not b ≡ false → y ≡ x → y ≡ (b && x)
done_idle b x h e = rw (not-false b h) e

-- ---- the move to the next deadline
module _ (p : Plan) (s : RunState) (time : ℕ) {x : StepExit} where
  pub moved_last : s.moves ≡ 0 → x ≡ over (at s time s.moves s.rounds) end.Ended time → x ≡ moved p s time
  moved_last h e = e ∙ ap (λ (b : Bool). cond b (over (at s time s.moves s.rounds) end.Ended time) (step_exit (at s time (s.moves - 1) p.rounds) Going)) (sym (eq-eqb s.moves 0 h))

  pub moved_on : (s.moves ≡ 0 → ⊥) → x ≡ step_exit (at s time (s.moves - 1) p.rounds) Going → x ≡ moved p s time
  moved_on h e = e ∙ ap (λ (b : Bool). cond b (over (at s time s.moves s.rounds) end.Ended time) (step_exit (at s time (s.moves - 1) p.rounds) Going)) (sym (ne_eqb s.moves 0 h))

module _ (p : Plan) (s : RunState) {d : Option ℕ} where
  pub move_none : {x : StepExit} → d ≡ None → x ≡ over s end.Ended s.time → x ≡ move_to p s d
  move_none f e = e ∙ ap (move_to p s) (sym f)

  module _ {t : ℕ} (f : d ≡ Some t) where
    pub move_past : {u : RunState} {x : StepExit} → t ≤ s.time → u ≡ exhausted s → x ≡ over u end.Ended s.time → x ≡ move_to p s d
    move_past h g e = e ∙ ap (λ (u : RunState). over u end.Ended s.time) g ∙ rw (f, le-leb t s.time h)

    module _ (h : s.time < t) where
      pub move_beyond : {x : StepExit} → p.max_virtual_time < t → x ≡ over s end.Ended p.max_virtual_time → x ≡ move_to p s d
      move_beyond k e = e ∙ rw (f, lt-leb t s.time h, lt-ltb p.max_virtual_time t k)

      pub move_within : {x : StepExit} → t ≤ p.max_virtual_time → x ≡ moved p s t → x ≡ move_to p s d
      move_within k e = e ∙ rw (f, lt-leb t s.time h, le-ltb p.max_virtual_time t k)

-- ---- a moment in which nothing is left to do
module _ (p : Plan) (s : RunState) {b : Bool} (e : b ≡ (s.arrivals.inbound.side.completed && sender_idle p.total_chunks s.arrivals.sender.sender s.arrivals.forward.path s.arrivals.inbound.reverse.path s.arrivals.clock.answer)) {x : StepExit} where
  pub settle_done : b ≡ true → x ≡ over s end.Ended s.time → x ≡ settle p s
  unfolding settle
  settle_done h f = rw (← e, h) f

  pub settle_next : b ≡ false → {d : Option ℕ} → d ≡ next_deadline p.timing s.arrivals.forward s.arrivals.inbound.reverse s.arrivals.clock → x ≡ move_to p s d → x ≡ settle p s
  unfolding settle
  settle_next h g f = rw (← e, h, ← g) f
