-- The next deadline, and what a moment in which nothing is left to do makes of the run.
use Rattle.std.specs.Prelude.{None, Option, Some}
use Prim.Native.Nat.{ℕ, ◌+◌, ◌-◌, ◌≤◌, ◌<◌}
use native.Mathlib.Nat.{le_trans}
use native.Mathlib.Omega.{arith}
use mathlib.Core.Path.{◌≡◌, refl, sym, ap, ◌∙◌, subst}
use mathlib.Core.Bool.{Bool, true, false, cond, ◌&&◌, true≢false, false≢true}
use mathlib.Core.Logic.{◌⊎◌, inl, inr, ⊎_elim}
use lib.Dec.{ltb, leb, eqb}
use borrow.Author.Tests.{leb-true, leb-false, ltb-true, ltb-false, eqb-true, eqb-false}
use Rattle.path.specs.Path as path
use Rattle.path.specs.Direction.{Direction}
use Rattle.clock.specs.Clock.{ClockState}
use Rattle.clock.specs.Clock as clock
use Rattle.clock.specs.declared.Timing.{Timing}
use Rattle.step.specs.State.{RunState, exhausted, at}
use Rattle.step.specs.Settle.{StepExit, step_exit, over, sender_idle, of_path, earlier, next_deadline, moved, move_to, settle}
use Rattle.step.specs.declared.Plan.{Plan}
use Rattle.step.specs.declared.End.{End}
use Rattle.step.specs.declared.End.TheVariants as end
use Rattle.step.specs.declared.Course.{Course}
use Rattle.step.specs.declared.Course.TheVariants.{Going, Over}
use Rattle.step.proofs.Settling.{settle_done, settle_next, move_past, move_beyond, move_within, moved_last, moved_on}

-- ---- the earlier of two deadlines
same_time : {t u : ℕ} → Some t ≡ Some u → t ≡ u
same_time e = cc

unset_at : {t : ℕ} {A : Type 0} → None ≡ Some t → A
unset_at {t} e = absurd (true≢false (ap is_unset e))
  where
    is_unset : Option ℕ → Bool
    is_unset None = true
    is_unset (Some t) = false

earlier_left : (a b : Option ℕ) {t u : ℕ} → earlier a b ≡ Some t → a ≡ Some u → t ≤ u
earlier_left None b e f = unset_at f
earlier_left (Some x) None e f = let k = same_time e in let l = same_time f in omega (arith, k, l)
earlier_left (Some x) (Some y) e f = let k = same_time e in let l = same_time f in omega (arith, k, l)

earlier_right : (a b : Option ℕ) {t u : ℕ} → earlier a b ≡ Some t → b ≡ Some u → t ≤ u
earlier_right None b e f = let k = same_time (sym e ∙ f) in omega (arith, k)
earlier_right (Some x) None e f = unset_at f
earlier_right (Some x) (Some y) e f = let k = same_time e in let l = same_time f in omega (arith, k, l)

earlier_one : (a b : Option ℕ) {t : ℕ} → earlier a b ≡ Some t → (a ≡ Some t) ⊎ (b ≡ Some t)
earlier_one None b e = inr e
earlier_one (Some x) None e = inl e
earlier_one (Some x) (Some y) {t} e = go (leb x y) refl
  where
    go : (b : Bool) → leb x y ≡ b → (Some x ≡ Some t) ⊎ (Some y ≡ Some t)
    go true k = let h = leb-true x y k in let l = same_time e in inl (ap Some (omega (arith, h, l)))
    go false k = let h = leb-false x y k in let l = same_time e in inr (ap Some (omega (arith, h, l)))

earlier_none : (a b : Option ℕ) → earlier a b ≡ None → (a ≡ None) × (b ≡ None)
earlier_none None b e = (refl, e)
earlier_none (Some x) None e = unset_at (sym e)
earlier_none (Some x) (Some y) e = unset_at (sym e)

-- of three
module _ (a b c : Option ℕ) {t : ℕ} (e : earlier a (earlier b c) ≡ Some t) {u : ℕ} where
  by_second : ((v : ℕ) → earlier b c ≡ Some v → v ≤ u) → (earlier b c ≡ None → ⊥) → t ≤ u
  by_second f g = go (earlier b c) refl
    where
      go : (d : Option ℕ) → earlier b c ≡ d → t ≤ u
      go None h = absurd (g h)
      go (Some v) h = le_trans (earlier_right a (earlier b c) e h) (f v h)

  middle_later : b ≡ Some u → t ≤ u
  middle_later f = by_second (λ v h. earlier_left b c h f) (λ h. unset_at (sym (earlier_none b c h).0 ∙ f))

  last_later : c ≡ Some u → t ≤ u
  last_later f = by_second (λ v h. earlier_right b c h f) (λ h. unset_at (sym (earlier_none b c h).1 ∙ f))

path_time : (d : Option ℕ) {t : ℕ} → of_path d ≡ Some t → d ≡ Some t
path_time (Some x) e = ap Some (same_time e)
path_time None e = unset_at e

path_none : (d : Option ℕ) → of_path d ≡ None → d ≡ None
path_none (Some x) e = unset_at (sym e)
path_none None e = refl

-- ---- the next deadline is the earliest of its three parts
pub record Earliest (time : ℕ) (t : Timing) (forward reverse : Direction) (c : ClockState) : Type 0 where
  pub forward_later : {u : ℕ} → path.next_deadline forward.path forward.records ≡ Some u → time ≤ u
  pub reverse_later : {u : ℕ} → path.next_deadline reverse.path reverse.records ≡ Some u → time ≤ u
  pub timer_later : {u : ℕ} → clock.next_deadline t c ≡ Some u → time ≤ u
  pub one : (path.next_deadline forward.path forward.records ≡ Some time)
      ⊎ ((path.next_deadline reverse.path reverse.records ≡ Some time) ⊎ (clock.next_deadline t c ≡ Some time))

pub record NoDeadline (t : Timing) (forward reverse : Direction) (c : ClockState) : Type 0 where
  pub forward_none : path.next_deadline forward.path forward.records ≡ None
  pub reverse_none : path.next_deadline reverse.path reverse.records ≡ None
  pub timer_none : clock.next_deadline t c ≡ None

module _ (t : Timing) (forward reverse : Direction) (c : ClockState) where
  abbrev on_forward : Option ℕ
  on_forward = path.next_deadline forward.path forward.records

  abbrev on_reverse : Option ℕ
  on_reverse = path.next_deadline reverse.path reverse.records

  abbrev later : Option ℕ
  later = earlier (of_path on_reverse) (clock.next_deadline t c)

  pub earliest : {time : ℕ} → next_deadline t forward reverse c ≡ Some time → Earliest time t forward reverse c
  unfolding next_deadline
  earliest {time} e = record {
    forward_later = λ f. earlier_left (of_path on_forward) later e (ap of_path f);
    reverse_later = λ f. middle_later (of_path on_forward) (of_path on_reverse) (clock.next_deadline t c) e (ap of_path f);
    timer_later = λ f. last_later (of_path on_forward) (of_path on_reverse) (clock.next_deadline t c) e f;
    one = ⊎_elim (λ f. inl (path_time on_forward f))
        (λ f. inr (⊎_elim (λ g. inl (path_time on_reverse g)) (λ g. inr g) (earlier_one (of_path on_reverse) (clock.next_deadline t c) f)))
        (earlier_one (of_path on_forward) later e);
  }

  pub no_deadline : next_deadline t forward reverse c ≡ None → NoDeadline t forward reverse c
  unfolding next_deadline
  no_deadline e =
      let x = earlier_none (of_path on_forward) later e in
      let y = earlier_none (of_path on_reverse) (clock.next_deadline t c) x.1 in
      record { forward_none = path_none on_forward x.0; reverse_none = path_none on_reverse y.0; timer_none = y.1 }

-- ---- what a moment in which nothing is left to do makes of the run
abbrev pub next_time : Plan → RunState → Option ℕ
next_time p s = next_deadline p.timing s.arrivals.forward s.arrivals.inbound.reverse s.arrivals.clock

module _ (p : Plan) (s : RunState) (P : StepExit → Type 0) (same : (time : ℕ) → P (over s end.Ended time)) (spent : (t : ℕ) → next_time p s ≡ Some t → t ≤ s.time → P (over (exhausted s) end.Ended s.time))
    (last : (t : ℕ) → next_time p s ≡ Some t → s.time < t → t ≤ p.max_virtual_time → s.moves ≡ 0 → P (over (at s t s.moves s.rounds) end.Ended t))
    (on : (t : ℕ) → next_time p s ≡ Some t → s.time < t → t ≤ p.max_virtual_time → 0 < s.moves → P (step_exit (at s t (s.moves - 1) p.rounds) Going)) where
  moved_cases : (t : ℕ) → next_time p s ≡ Some t → s.time < t → t ≤ p.max_virtual_time → P (moved p s t)
  moved_cases t e h k = go (eqb s.moves 0) refl
    where
      go : (b : Bool) → eqb s.moves 0 ≡ b → P (moved p s t)
      go true l = let z = eqb-true s.moves 0 l in subst P (moved_last p s t z refl) (last t e h k z)
      go false l = let z = eqb-false s.moves 0 l in subst P (moved_on p s t z refl) (on t e h k (omega (arith, z)))

  move_cases : (d : Option ℕ) → d ≡ next_time p s → P (move_to p s d)
  move_cases None e = same s.time
  move_cases (Some t) e = go (leb t s.time) refl
    where
      within : s.time < t → (b : Bool) → ltb p.max_virtual_time t ≡ b → P (move_to p s (Some t))
      within h true k = subst P (move_beyond p s refl h (ltb-true p.max_virtual_time t k) refl) (same p.max_virtual_time)
      within h false k = let l = ltb-false p.max_virtual_time t k in subst P (move_within p s refl h l refl) (moved_cases t (sym e) h l)

      go : (b : Bool) → leb t s.time ≡ b → P (move_to p s (Some t))
      go true k = let h = leb-true t s.time k in subst P (move_past p s refl h refl refl) (spent t (sym e) h)
      go false k = within (leb-false t s.time k) (ltb p.max_virtual_time t) refl

  pub settle_cases : P (settle p s)
  settle_cases = go _ refl
    where
      go : (b : Bool) → b ≡ (s.arrivals.inbound.side.completed && sender_idle p.total_chunks s.arrivals.sender.sender s.arrivals.forward.path s.arrivals.inbound.reverse.path s.arrivals.clock.answer) → P (settle p s)
      go true e = subst P (settle_done p s e refl refl) (same s.time)
      go false e = subst P (settle_next p s e refl refl refl) (move_cases (next_time p s) refl)

is_on : Course → Bool
is_on Going = true
is_on (Over e t) = false

-- the run goes on: only the time, the moves and the rounds change
pub record SettleGoing (p : Plan) (s u : RunState) : Type 0 where
  pub same : u ≡ at s u.time u.moves u.rounds
  pub time : next_time p s ≡ Some u.time
  pub later : s.time < u.time
  pub within : u.time ≤ p.max_virtual_time
  pub moves : u.moves + 1 ≡ s.moves
  pub rounds : u.rounds ≡ p.rounds

-- the run is over: only whether it is exhausted may change, and at the last move the time
pub record SettleOver (p : Plan) (s u : RunState) : Type 0 where
  pub arrivals : u.arrivals ≡ s.arrivals
  pub submitted : u.resends.retx_submitted ≡ s.resends.retx_submitted
  pub premature : u.resends.premature ≡ s.resends.premature
  pub written : u.written ≡ s.written
  pub events : u.events ≡ s.events
  pub moves : u.moves ≡ s.moves
  pub rounds : u.rounds ≡ s.rounds
  pub time : (u.time ≡ s.time) ⊎ ((s.moves ≡ 0) × ((s.time < u.time) × (u.time ≤ p.max_virtual_time)))

module _ (p : Plan) (s : RunState) where
  pub settle_going : (settle p s).course ≡ Going → SettleGoing p s (settle p s).state
  unfolding is_on
  settle_going =
      settle_cases p s (λ x. x.course ≡ Going → SettleGoing p s x.state)
      (λ time e. absurd (false≢true (ap is_on e)))
      (λ t e h f. absurd (false≢true (ap is_on f)))
      (λ t e h k z f. absurd (false≢true (ap is_on f)))
      (λ t e h k z f. record { same = refl; time = e; later = h; within = k; moves = omega (arith, z); rounds = refl })

  pub settle_over : {e : End} {time : ℕ} → (settle p s).course ≡ Over e time → SettleOver p s (settle p s).state
  unfolding is_on
  settle_over {e} {time} =
      settle_cases p s (λ x. x.course ≡ Over e time → SettleOver p s x.state)
      (λ _ f. left false s.time (inl refl))
      (λ t g h f. left true s.time (inl refl))
      (λ t g h k z f. left false t (inr (z, (h, k))))
      (λ t g h k z f. absurd (true≢false (ap is_on f)))
    where
      left : (b : Bool) (t : ℕ) → (t ≡ s.time) ⊎ ((s.moves ≡ 0) × ((s.time < t) × (t ≤ p.max_virtual_time))) → SettleOver p s (at (cond b (exhausted s) s) t s.moves s.rounds)
      left true t w = record { arrivals = refl; submitted = refl; premature = refl; written = refl; events = refl; moves = refl; rounds = refl; time = w }
      left false t w = record { arrivals = refl; submitted = refl; premature = refl; written = refl; events = refl; moves = refl; rounds = refl; time = w }

  -- however it is over, it ended as the source does
  pub settle_ended : {e : End} {time : ℕ} → (settle p s).course ≡ Over e time → e ≡ end.Ended
  unfolding is_on
  settle_ended {e} {time} =
      settle_cases p s (λ x. x.course ≡ Over e time → e ≡ end.Ended)
      (λ _ f. sym (ap end_of f))
      (λ t g h f. sym (ap end_of f))
      (λ t g h k z f. sym (ap end_of f))
      (λ t g h k z f. absurd (true≢false (ap is_on f)))
    where
      end_of : Course → End
      end_of Going = end.Ended
      end_of (Over x y) = x
