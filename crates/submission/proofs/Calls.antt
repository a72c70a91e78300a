-- What the calls of a submission ask, and one law a return.
use Rattle.std.specs.Prelude.{None, Ok, Result}
use Prim.Native.Nat.{ℕ, ◌+◌, ◌<◌}
use mathlib.Core.Path.{◌≡◌, sym, ap, ◌∙◌}
use mathlib.Core.List.{List}
use lib.Ieee.{Float}
use lib.ListN.{length, set}
use borrow.Author.Tests.{ltb-true}
use Rattle.schedule.specs.declared.Deliveries.{Deliveries}
use Rattle.path.specs.Direction.{direction}
use Rattle.path.specs.Path.{CarryExit, carry_exit, left_by_carry, carry, stop_of, CanCarry}
use Rattle.path.specs.declared.CarryResult.{CarryResult}
use Rattle.path.proofs.Laws.{answer_why}
use Rattle.notes.specs.Notes.{SegMetas, Timely}
use Rattle.events.specs.Events.{forward_event, row_of}
use Rattle.clock.specs.Clock.{ClockState, Submission, arm_after_submit, CanArm}
use Rattle.clock.specs.declared.Timing.{Timing}
use Rattle.submission.specs.Submission.{Outgoing, outgoing, SubmitExit, submit_exit, note_before, note_after, entry_free, on_carriage, submit, CanSubmit}
use Rattle.submission.proofs.Metas.{before_timely, after_timely}
use Rattle.path.specs.declared.Stop.{Stop}

module _ (timing : Timing) (rolls : List Float) (x : Submission) (wire : List ℕ) (o : Outgoing) where
  pub can_carry : CanSubmit timing rolls x wire o → CanCarry o.forward rolls x.time wire
  can_carry can = record { good = can.good.forward; in_time = can.good.notes.within; short = can.short }

  module _ {m : SegMetas} (n : m ≡ note_before o.metas x.seq x.retransmission x.time x.rto) where
    pub noted_timely : CanSubmit timing rolls x wire o → Timely m x.time
    noted_timely can = rw n (before_timely o.metas x.seq x.time x.rto x.retransmission can.row can.rto can.good.notes)

    pub can_arm : {m' : SegMetas} (ds : Deliveries) → CanSubmit timing rolls x wire o → m' ≡ note_after m x.seq x.retransmission ds → CanArm timing o.clock m' x.time x.rto x.seq
    can_arm ds can p =
        record {
          rearm = record { held = can.good.clock; notes = rw p (after_timely m x.seq ds x.retransmission x.time (noted_timely can)); short = can.rto };
          room = can.entry;
        }

    module _ {rs : List (List ℕ)} {ps : List ℕ} {r : CarryResult} (e : carry_exit rs ps r ≡ carry o.forward rolls (entry_free o) x.time wire) where
      -- the exit goes by what the line answered
      pub by_carriage : {a : Result (Deliveries × ℕ) Stop} → r.answer ≡ a → submit_exit (on_carriage a timing x (outgoing (direction rs ps r.path) m o.written o.events o.clock)) (stop_of a) ≡ submit timing rolls x wire o
      unfolding submit
      by_carriage q = ap step (sym q) ∙ ap whole e ∙ rw n
        where
          whole : CarryExit → SubmitExit
          whole y = submit_exit (on_carriage y.result.answer timing x (outgoing (left_by_carry y) m o.written o.events o.clock)) (stop_of y.result.answer)

          step : Result (Deliveries × ℕ) Stop → SubmitExit
          step a = submit_exit (on_carriage a timing x (outgoing (direction rs ps r.path) m o.written o.events o.clock)) (stop_of a)

      module _ {ds : Deliveries} {fold : ℕ} (q : r.answer ≡ Ok (ds, fold)) where
        -- a packet that was carried had a free entry
        pub had_entry : o.written < length o.events
        had_entry = ltb-true _ _ (answer_why o.forward rolls (entry_free o) x.time wire (Ok (ds, fold)) (sym (ap (λ (y : CarryExit). y.result.answer) e) ∙ q)).0.entry

        pub by_carried : {m' : SegMetas} {row : List ℕ} {events' : List (List ℕ)} {s : ClockState} → m' ≡ note_after m x.seq x.retransmission ds → row ≡ row_of (forward_event x.seq x.retransmission ds fold) → events' ≡ set o.events o.written row → s ≡ arm_after_submit timing o.clock m' x
            → submit_exit (outgoing (direction rs ps r.path) m' (o.written + 1) events' s) (None) ≡ submit timing rolls x wire o
        by_carried a b c d = rw (d, c, b, a) (by_carriage q)
