-- How every run of `run_transfer` ends.
use Rattle.std.specs.Prelude.{Ok, None, Option}
use Prim.Native.Nat.{ℕ, ◌+◌, ◌-◌}
use native.Mathlib.Omega.{arith}
use mathlib.Core.Path.{◌≡◌, refl, sym, ap, ◌∙◌}
use mathlib.Core.Bool.{Bool, true, ◌||◌}
use mathlib.Core.Logic.{◌⊎◌, inl, inr, ⊎_elim}
use mathlib.Core.List.{List}
use lib.Dec.{ltb}
use lib.Ieee.{Float}
use lib.ListN.{length, take}
use Rattle.schedule.specs.Record.{free_places}
use Rattle.schedule.specs.State.{place_count, copies, lacks_room}
use Rattle.channel.specs.Faults.{deliveries_of}
use Rattle.channel.specs.declared.ChannelConfig.{ChannelConfig}
use Rattle.path.specs.Rolls.{packet_rolls, rolls_at, Doubles}
use Rattle.path.specs.Direction.{Direction, schedule_of}
use Rattle.path.specs.Path.{new_path}
use Rattle.path.specs.Path as path
use Rattle.path.specs.declared.Stop.{Stop}
use Rattle.path.proofs.Laws.{granted}
use Rattle.clock.specs.Estimator.{Factors}
use Rattle.sending.proofs.Laws.{unused}
use Rattle.setup.specs.Setup.{CanStart}
use Rattle.setup.specs.declared.TransferConfig.{TransferConfig}
use Rattle.step.specs.State.{Given, RunState, Lent}
use Rattle.step.specs.Settle.{StepExit}
use Rattle.step.specs.declared.End.{End}
use Rattle.step.specs.declared.End.TheVariants as end
use Rattle.transfer.specs.Start.{plan_for, reverse_config, new_run, start_of}
use Rattle.transfer.specs.Run.{run}
use Rattle.transfer.specs.Transfer.{end_of, outcome_of, lent_of, RunExit, run_transfer}
use Rattle.transfer.specs.declared.Ceilings.{Ceilings}
use Rattle.transfer.specs.declared.Outcome.{Outcome}
use Rattle.transfer.proofs.Laws.{start_plan, start_good}
pub use Rattle.transfer.proofs.Laws.{accepted_is, outcome_starts, by_outcome}
use Rattle.run_ends.specs.Ends.{Line, forward_line, reverse_line, rolls_spent, schedule_left, schedule_full, Stopped, AllCarried, LastNotCarried, EndWhy, EndsSo, IsOutcome}
use Rattle.run_ends.specs.Ends.EndWhy.{carried, forward_stopped, reverse_stopped}
use Rattle.run_ends.proofs.Unique.{end_unique}
use Rattle.run_ends.proofs.Waiting.{tidy_count}
use Rattle.run_ends.proofs.Lines.{seen, not_carried, LineAt, line_due, line_new}
use Rattle.run_ends.proofs.Steps.{stop_for, LinesAt, Going-on, EndsAt, run_ends_at}

-- ---- a line as its answer and slices show it
abbrev shown : ChannelConfig → List Float → Bool → ℕ → Direction → Line
shown c rolls free n d = record { due = n; carried = seen d; rolls = rolls; config = c; records = d.records; places = d.places; entry_free = free }

module _ {st : Option Stop} {c : ChannelConfig} {rolls : List Float} {free : Bool} {n : ℕ} {d : Direction} (q : LineAt st c rolls free n d) where
  spent_shown : path.rolls_spent d.path rolls ≡ rolls_spent (shown c rolls free n d)
  spent_shown = ap (λ (k : ℕ). ltb (length rolls) (k + packet_rolls)) q.used

  full_shown : lacks_room (schedule_of d) (copies (granted d rolls)) ≡ schedule_full (shown c rolls free n d)
  full_shown =
      ap (λ (k : ℕ). ltb (length (free_places (place_count (schedule_of d)) (take k d.records))) (copies (granted d rolls)) || ltb (length d.records - k) (copies (granted d rolls))) (sym (tidy_count q.tidy))
      ∙ ap (λ (k : ℕ). lacks_room (schedule_left (shown c rolls free n d)) k)
      (ap (λ (x : ChannelConfig). copies (deliveries_of x (rolls_at rolls d.path.used))) q.config ∙ ap (λ (k : ℕ). copies (deliveries_of c (rolls_at rolls k))) q.used)

plus_none : (n a : ℕ) → n ≡ a + 0 → n ≡ a
plus_none n a e = omega arith

all_shown : {c : ChannelConfig} {rolls : List Float} {free : Bool} {n : ℕ} {d : Direction} → LineAt (None) c rolls free n d → AllCarried (shown c rolls free n d)
all_shown {n = n} {d} q = plus_none n (seen d) q.due

-- one whose last packet ended the run
record StopShown (e : End) (x : Line) : Type 0 where
  last : LastNotCarried x
  why : Stopped e x

stop_shown : (e : End) → not_carried (stop_for e) ≡ 1 → {c : ChannelConfig} {rolls : List Float} {free : Bool} {n : ℕ} {d : Direction} → LineAt (stop_for e) c rolls free n d → StopShown e (shown c rolls free n d)
stop_shown end.Ended h q = absurd (omega (arith, h))
stop_shown end.RollsSpent h q = record { last = q.due; why = sym (spent_shown q) ∙ q.why }
stop_shown end.EventsFull h q = record { last = q.due; why = (sym (spent_shown q) ∙ q.why.0, q.why.1) }
stop_shown end.ScheduleFull h q = record { last = q.due; why = (sym (spent_shown q) ∙ q.why.0, q.why.1, sym (full_shown q) ∙ q.why.2) }

module _ (c : TransferConfig) (g : Given) (k : Ceilings) where
  abbrev Lines : Option Stop → Option Stop → RunState → Type 0
  Lines f r s = LinesAt c.channel (reverse_config c.channel) (plan_for k c g) g f r s

  abbrev Why : End → StepExit → Type 0
  Why e x = EndWhy e (forward_line c g (outcome_of x) (lent_of x.state)) (reverse_line c g (outcome_of x) (lent_of x.state))

  stop_why : (e : End) (x : StepExit) → not_carried (stop_for e) ≡ 1 → Lines (stop_for e) (None) x.state ⊎ Lines (None) (stop_for e) x.state → Why e x
  stop_why e x h (inl q) = let s = stop_shown e h q.forth.line in forward_stopped s.last (all_shown q.back) s.why
  stop_why e x h (inr q) = let s = stop_shown e h q.back in reverse_stopped (all_shown q.forth.line) s.last s.why

  why_shown : (e : End) (x : StepExit) → Lines (stop_for e) (None) x.state ⊎ Lines (None) (stop_for e) x.state → Why e x
  why_shown end.Ended x (inl q) = carried refl (all_shown q.forth.line) (all_shown q.back)
  why_shown end.Ended x (inr q) = carried refl (all_shown q.forth.line) (all_shown q.back)
  why_shown end.RollsSpent x q = stop_why end.RollsSpent x refl q
  why_shown end.EventsFull x q = stop_why end.EventsFull x refl q
  why_shown end.ScheduleFull x q = stop_why end.ScheduleFull x refl q

  events_shown : {f r : Option Stop} {s : RunState} → Lines f r s → s.written ≡ seen s.arrivals.forward
  events_shown q = q.forth.events

  so : (x : StepExit) → EndsAt c.channel (reverse_config c.channel) (plan_for k c g) g (end_of x.course) x.state → EndsSo c g (outcome_of x) (lent_of x.state)
  so x q = record { why = why_shown (end_of x.course) x q; events = ⊎_elim events_shown events_shown q }

-- ---- at the start
none_due : (n : ℕ) → n ≡ 0 → n + 0 ≡ 0
none_due n e = omega arith

start_on : (k : Ceilings) (c : TransferConfig) (g : Given) (l : Lent) → Going-on c.channel (reverse_config c.channel) (plan_for k c g) g (new_run k c l)
unfolding new_run new_path
start_on k c g l =
    record {
      forth = record {
        line = line_due (none_due _ (unused c.protocol c.window_size k.retries l.sender_store).next) (line_new c.channel g.forward_rolls _ l.forward_records l.forward_places);
        events = refl;
      };
      back = line_new (reverse_config c.channel) g.reverse_rolls true l.reverse_records l.reverse_places;
    }

-- ---- of every call that isn't refused. Doubles and Factors say what the doubles given are by their types.
module _ (k : Ceilings) (c : TransferConfig) (g : Given) (l : Lent) where
  -- one that can start isn't refused
  pub never_refused : CanStart (start_of c g l) → IsOutcome (run_transfer k c g l).answer
  never_refused h = record { outcome = outcome_of (run (plan_for k c g) g (new_run k c l)); is = ap (λ (x : RunExit). x.answer) (accepted_is k c g l h) }

  pub transfer_ends : Doubles g.forward_rolls → Doubles g.reverse_rolls → Factors c.rto → (o : Outcome) → (run_transfer k c g l).answer ≡ Ok o → EndsSo c g o (run_transfer k c g l).lent
  transfer_ends forward reverse factors =
      by_outcome k c g l (λ o m. EndsSo c g o m)
      (λ h. so c g k (run (plan_for k c g) g (new_run k c l)) (run_ends_at c.channel (reverse_config c.channel) (plan_for k c g) g (start_plan k c g l h) (new_run k c l) (start_good k c g l h forward reverse factors) (start_on k c g l)))

  -- and so in no other way: where the answer and the slices say why a run ended so, it ended so
  pub transfer_ends_only : Doubles g.forward_rolls → Doubles g.reverse_rolls → Factors c.rto → (o : Outcome) → (run_transfer k c g l).answer ≡ Ok o → (e : End)
      → EndWhy e (forward_line c g o (run_transfer k c g l).lent) (reverse_line c g o (run_transfer k c g l).lent) → o.end ≡ e
  transfer_ends_only forward reverse factors o i e w = end_unique (transfer_ends forward reverse factors o i).why w
