-- Along every run whatever is outstanding has a timer, no further ahead than the largest RTO; so it ends with every chunk acknowledged or at a ceiling.
use Rattle.std.specs.Prelude.{Some}
use Prim.Native.Nat.{ℕ, ◌+◌, ◌-◌, ◌*◌, ◌≤◌, ◌<◌}
use native.Mathlib.Omega.{arith}
use mathlib.Core.Path.{◌≡◌, refl, sym, ap, ◌∙◌, subst}
use mathlib.Core.Bool.{true, false}
use mathlib.Core.Logic.{◌⊎◌}
use mathlib.Core.List.{List}
use borrow.Author.Tests.{le-ltb}
use Rattle.bounds.specs.Bounds.{max_duration}
use Rattle.protocol.specs.declared.ProtocolType.{ProtocolType}
use Rattle.protocol.specs.declared.ProtocolType.TheVariants as protocol
use Rattle.timer.specs.Timer.{active, new_timer}
use Rattle.multi_timer.specs.Map.{is_some}
use Rattle.rto.specs.Rto.{fresh}
use Rattle.notes.specs.Notes.{new_notes}
use Rattle.path.specs.Rolls.{Doubles}
use Rattle.clock.specs.Clock.{timer_of, new_clock}
use Rattle.clock.specs.Estimator.{Factors}
use Rattle.clock.specs.declared.Timing.TheVariants.{Single, PerNumber}
use Rattle.session.specs.Sending.{has_outstanding, is_due, new_sender}
use Rattle.session.specs.GoodSender.{sender_broken}
use Rattle.session.proofs.Laws.{due_within}
use Rattle.sending.proofs.Laws.{unused}
use Rattle.setup.specs.Setup.{CanStart}
use Rattle.setup.specs.declared.ClockChoice.{ClockChoice}
use Rattle.setup.specs.declared.ClockChoice.TheVariants as choice
use Rattle.setup.specs.declared.TransferConfig.{TransferConfig}
use Rattle.step.specs.State.{Given, RunState, Lent}
use Rattle.step.specs.Good.{GoodRun}
use Rattle.step.specs.declared.Plan.{Plan}
use Rattle.step.specs.declared.End.TheVariants as end
use Rattle.transfer.specs.Start.{timing_of, plan_for, new_run, start_of}
use Rattle.transfer.specs.Run.{run}
use Rattle.transfer.specs.Transfer.{end_of, default_ceilings}
use Rattle.transfer.specs.declared.Ceilings.{Ceilings}
use Rattle.transfer.proofs.Laws.{start_plan, start_good}
use Rattle.edition_clock.specs.Section5.{min_rto, max_rto}
use Rattle.edition_clock.specs.AlongARun.{Reached}
use Rattle.edition_clock.proofs.Senders.{NotSelective, LimitIs, new_limit, new_retries}
use Rattle.edition_clock.proofs.Moments.{Moment}
use Rattle.edition_clock.proofs.Moments as edition
use Rattle.edition_clock.proofs.Steps.{both}
use Rattle.edition_clock.proofs.Run.{edition_setup, timed, reached, default_patient}
use Rattle.run_ends.proofs.Laws.{transfer_ended_why}
use Rattle.run_timers.specs.Timed.{largest_rto, Timed, suffices_on, RetriesSuffice}
use Rattle.run_timers.specs.Stopped.{CeilingMet, AllAcknowledged}
use Rattle.run_timers.specs.Again.{AgainWhereDue}
use Rattle.run_timers.proofs.Steps.{ended_last, at_last, Between, reached_between, run_last_at}
use Rattle.run_timers.proofs.Went.{reached_passed}
use Rattle.run_timers.proofs.Ahead.{Ahead}
use Rattle.run_timers.proofs.Held.{SingleKept, EachKept, EditionKept, single_lasting, each_lasting, edition_lasting, single_both, each_both, Held, single_held, each_held, edition_held, held_timed}
use Rattle.run_timers.proofs.Served.{ended_served}
use Rattle.run_timers.proofs.Resent.{each_again, single_again}

-- ---- at the start
go_back_n_unlimited : (limit w retries : ℕ) (store : List ℕ) → LimitIs limit (new_sender protocol.GoBackN w retries store).sender.state
unfolding new_sender
go_back_n_unlimited limit w retries store = tt

nothing_yet : (low high : ℕ) → low ≡ 0 → high ≡ 0 → high - low ≤ 0
nothing_yet low high e f = omega arith

module _ (k : Ceilings) (c : TransferConfig) (g : Given) (l : Lent) (h : CanStart (start_of c g l)) (forward : Doubles g.forward_rolls) (reverse : Doubles g.reverse_rolls) (factors : Factors c.rto) where
  abbrev p : Plan
  p = plan_for k c g

  abbrev first : RunState
  first = new_run k c l

  abbrev top : ℕ
  top = largest_rto c.rto

  begun : GoodRun p g first
  begun = start_good k c g l h forward reverse factors

  none_due : {A : Type 0} (n : ℕ) → is_due first.arrivals.sender n ≡ true → A
  unfolding new_run
  none_due n d =
      let b = (due_within (new_sender c.protocol c.window_size k.retries l.sender_store) n d).below in
      let z = (unused c.protocol c.window_size k.retries l.sender_store).next in
      absurd (omega (arith, b, z))

  -- the estimator has the initial RTO, no number has a note or a timer
  ahead_begun : Ahead top p.timing first.time first.arrivals.estimator first.arrivals.clock first.arrivals.inbound.metas
  unfolding new_run new_notes new_clock new_timer fresh
  ahead_begun =
      record {
        estimator = record { limit = omega arith; rto = omega arith };
        notes = record { fits = omega arith; at = λ i z. absurd (omega arith) };
        near = record { timer = λ i d e. let z : ◌≡◌ {A = ℕ} 0 1 = cc in absurd (omega arith); numbers = λ i n d e. none_due n (begun.timers.due n (ap is_some e)) };
      }

  single_begun : (limit : ℕ) → LimitIs limit (new_sender c.protocol c.window_size k.retries l.sender_store).sender.state → Between (SingleKept limit top p.timing) p g first
  unfolding new_run new_notes new_clock new_timer
  single_begun limit i =
      let u = unused c.protocol c.window_size k.retries l.sender_store in
      record {
        good = begun;
        kept = (
          record {
            noted = sym u.next;
            runs = sym (le-ltb 0 _ (nothing_yet _ _ u.base u.next));
            limit_is = i;
            retries = new_retries c.protocol c.window_size k.retries l.sender_store;
          },
          ahead_begun,
        );
      }

  each_begun : Between (EachKept top p.timing) p g first
  each_begun = record { good = begun; kept = (record { each = λ n d. none_due n d }, ahead_begun) }

  -- ---- along the run, and at its end
  record Along : Type 0 where
    timed : {u : RunState} → Reached p g first u → Timed c p u
    again : c.clock ≡ choice.Source → {u : RunState} → Reached p g first u → AgainWhereDue p g u
    last : end_of (run p g first).course ≡ end.Ended → Held top p (run p g first).state × (sender_broken (run p g first).state.arrivals.sender ≡ false)

  along_single : (limit : ℕ) → c.max_retransmissions ≤ limit → p.timing ≡ Single → LimitIs limit (new_sender c.protocol c.window_size k.retries l.sender_store).sender.state → Along
  along_single limit enough e i =
      let plan = start_plan k c g l h in
      let lasting = single_lasting limit top p.timing in
      let keeps = single_both plan limit top enough e in
      record {
        timed = λ {u} r. let b = reached_between (SingleKept limit top p.timing) lasting p g plan keeps first (single_begun limit i) r in held_timed c p u b.good.timers (single_held top p u e b.kept);
        again = λ f {u} r. let b = reached_between (SingleKept limit top p.timing) lasting p g plan keeps first (single_begun limit i) r in single_again p g u b.good limit enough e b.kept.0;
        last = λ o. let x = run_last_at (SingleKept limit top p.timing) lasting p g plan keeps first (single_begun limit i) o in (single_held top p _ e x.kept, x.unbroken);
      }

  along_each : p.timing ≡ PerNumber → Along
  along_each e =
      let plan = start_plan k c g l h in
      let lasting = each_lasting top p.timing in
      let keeps = each_both plan top e in
      record {
        timed = λ {u} r. let b = reached_between (EachKept top p.timing) lasting p g plan keeps first each_begun r in held_timed c p u b.good.timers (each_held top p u e b.kept);
        again = λ f {u} r. let b = reached_between (EachKept top p.timing) lasting p g plan keeps first each_begun r in each_again p g u b.good e;
        last = λ o. let x = run_last_at (EachKept top p.timing) lasting p g plan keeps first each_begun o in (each_held top p _ e x.kept, x.unbroken);
      }

  along_edition : c.clock ≡ choice.Edition → max_duration < k.retries * min_rto → Along
  along_edition e patient =
      let plan = start_plan k c g l h in
      let is = timed k c g l h e forward reverse factors patient in
      record {
        timed = λ {u} r. let b = reached k c g l h e forward reverse factors patient r in held_timed c p u b.good.timers (edition_held top p u is (ahead b.kept));
        again = λ f r. let z : ◌≡◌ {A = ℕ} 0 1 = cc in absurd (omega arith);
        last = λ o.
            at_last p g first (λ (u : RunState). Held top p u × (sender_broken u.arrivals.sender ≡ false)) o
            (λ u r over i.
            let b = reached k c g l h e forward reverse factors patient r in
            let x = ended_last (EditionKept top) (edition_lasting top) p g plan u b.good (ahead b.kept) (λ on. ahead (both k.retries patient is plan b.good b.kept on).kept) over in
            (edition_held top p _ is x.kept, x.unbroken));
      }
    where
      upper : c.rto.max_rto ≡ max_rto
      upper = (edition_setup c.clock c.protocol c.rto e h.clock_fine).limits.upper

      ahead : {now : ℕ} {m : Moment} → edition.Kept k.retries now m
          → (has_outstanding m.sender.sender ≡ true → active (timer_of m.clock).deadline ≡ true) × ((d : ℕ) → (timer_of m.clock).deadline ≡ Some d → d ≤ now + top)
      ahead q = (q.runs, λ d f. let a = q.not_far d f in let b = q.high in let z = upper in omega (arith, a, b, z))

  along_source : c.clock ≡ choice.Source → (c.protocol ≡ protocol.StopAndWait → c.max_retransmissions ≤ k.retries) → Along
  along_source source retries = by_protocol c.protocol refl
    where
      single : (y : ProtocolType) → c.protocol ≡ y → NotSelective y → (plan_for k c g).timing ≡ Single
      single protocol.StopAndWait e i = ap (λ (q : ProtocolType). timing_of q c.clock) e ∙ ap (timing_of protocol.StopAndWait) source
      single protocol.GoBackN e i = ap (λ (q : ProtocolType). timing_of q c.clock) e ∙ ap (timing_of protocol.GoBackN) source
      single protocol.SelectiveRepeat e i = absurd i

      limited : (limit : ℕ) (y : ProtocolType) → c.protocol ≡ y → LimitIs limit (new_sender y c.window_size k.retries l.sender_store).sender.state → LimitIs limit (new_sender c.protocol c.window_size k.retries l.sender_store).sender.state
      limited limit y e i = subst (λ (q : ProtocolType). LimitIs limit (new_sender q c.window_size k.retries l.sender_store).sender.state) (sym e) i

      by_protocol : (y : ProtocolType) → c.protocol ≡ y → Along
      by_protocol protocol.StopAndWait e = along_single k.retries (retries e) (single protocol.StopAndWait e tt) (limited k.retries protocol.StopAndWait e (new_limit protocol.StopAndWait c.window_size k.retries l.sender_store tt))
      by_protocol protocol.GoBackN e =
          along_single c.max_retransmissions (omega arith) (single protocol.GoBackN e tt) (limited c.max_retransmissions protocol.GoBackN e (go_back_n_unlimited c.max_retransmissions c.window_size k.retries l.sender_store))
      by_protocol protocol.SelectiveRepeat e = along_each (ap (λ (q : ProtocolType). timing_of q c.clock) e)

  module _ (retries : RetriesSuffice k c) where
    along : Along
    along = by_clock c.clock refl retries
      where
        by_clock : (x : ClockChoice) → c.clock ≡ x → suffices_on x k c → Along
        by_clock choice.Source e s = along_source e s
        by_clock choice.Edition e s = along_edition e s

    pub transfer_timed : {u : RunState} → Reached (plan_for k c g) g (new_run k c l) u → Timed c (plan_for k c g) u
    transfer_timed r = along.timed r

    pub transfer_again : c.clock ≡ choice.Source → {u : RunState} → Reached (plan_for k c g) g (new_run k c l) u → AgainWhereDue (plan_for k c g) g u
    transfer_again e r = along.again e r

    pub transfer_served : end_of (run (plan_for k c g) g (new_run k c l)).course ≡ end.Ended → AllAcknowledged (plan_for k c g) (run (plan_for k c g) g (new_run k c l)).state ⊎ CeilingMet k c g (new_run k c l) (run (plan_for k c g) g (new_run k c l))
    unfolding new_run
    transfer_served e =
        let x = along.last e in
        let y = transfer_ended_why k c g l h forward reverse factors e in
        ended_served k c g first y.step.before (reached_passed refl y.step.reached) refl (run p g first) y.step.last x.0 x.1 y.why

-- `run_transfer`'s own ceilings suffice for every setup that allows as many packets again as u32 holds
pub default_suffices : (c : TransferConfig) → c.max_retransmissions ≤ default_ceilings.retries → RetriesSuffice default_ceilings c
default_suffices c h = by_clock c.clock
  where
    by_clock : (x : ClockChoice) → suffices_on x default_ceilings c
    by_clock choice.Source = λ e. h
    by_clock choice.Edition = default_patient
