-- What every submission keeps, how the events and the used rolls move, and what is asked of a fresh state.
use Rattle.std.specs.Prelude.{None}
use Prim.Native.Nat.{ℕ, ◌+◌, ◌≤◌, ◌<◌}
use native.Mathlib.Omega.{arith}
use mathlib.Core.Path.{◌≡◌, refl, sym, ap, ◌∙◌, subst}
use mathlib.Core.Bool.{true, false}
use mathlib.Core.List.{List, [], ◌∷◌, ◌++◌}
use lib.Ieee.{Float}
use lib.ListN.{length, length-set}
use borrow.Author.Tests.{ltb-true}
use Rattle.bounds.specs.Bounds.{max_duration}
use Rattle.path.specs.Rolls.{packet_rolls, rolls_broken, Doubles}
use Rattle.path.specs.Direction.{Direction, Good}
use Rattle.path.specs.Path.{new_path, CarryExit, left_by_carry, copy_fold, is_going}
use Rattle.path.proofs.Laws.{RiseAlike, granted, copy_bytes, EachWaiting, carries, carry_good, carry_keeps, carry_used, carry_each, carry_orders}
use Rattle.path.proofs.Laws as path-laws
use Rattle.channel.specs.Bounds.{config_broken}
use Rattle.channel.specs.declared.ChannelConfig.{ChannelConfig}
use Rattle.notes.specs.Notes.{new_notes}
use Rattle.notes.specs.declared.Notes.{Notes}
use Rattle.notes.proofs.Laws.{timely_new, scheduled_new}
use Rattle.events.specs.Events.{row_of, events_of}
use Rattle.events.proofs.Laws.{events_push, forward_fits}
use Rattle.clock.specs.Clock.{Submission, new_clock, CanArm}
use Rattle.clock.specs.declared.Timing.{Timing}
use Rattle.clock.proofs.Laws.{held_lengths, submit_held, submit_keys}
use Rattle.clock.proofs.Laws as clock-laws
use Rattle.submission.specs.Submission.{Outgoing, outgoing, entry_free, submit, GoodOutgoing, CanSubmit}
use Rattle.submission.proofs.Metas.{before_length, before_timely, before_scheduled, before_first_count, before_again_notes, after_notes, after_length, after_timely, after_scheduled}
use Rattle.submission.proofs.Calls.{can_carry, can_arm}
use Rattle.submission.proofs.Answers.{noted, metas_of, event_made, FitsLine, by_outgoing, submit_fits, submit_going, submit_stopped, submit_forward}

-- the setup, and the lengths of the slices
pub record SubmitKeeps (o o' : Outgoing) : Type 0 where
  pub forward : path-laws.Keeps o.forward o'.forward
  pub rows : length o'.metas.rows ≡ length o.metas.rows
  pub events : length o'.events ≡ length o.events
  pub keys : length o'.clock.keys ≡ length o.clock.keys
  pub deadlines : length o'.clock.deadlines ≡ length o.clock.deadlines

-- ---- nothing was submitted yet
pub new_good : (c : ChannelConfig) (rs : List (List ℕ)) (ps : List ℕ) (rolls : List Float) (rows events : List (List ℕ)) (ks ds : List ℕ) (now : ℕ) → config_broken c ≡ false → Doubles rolls → rolls_broken rolls ≡ false → length ks ≡ length ds → now ≤ max_duration
    → GoodOutgoing (outgoing (new_path c rs ps) (new_notes rows) 0 events (new_clock ks ds)) rolls now
new_good c rs ps rolls rows events ks ds now h d w e t =
    record {
      forward = path-laws.new_good c rs ps rolls h d w;
      notes = timely_new rows now t;
      scheduled = scheduled_new rows;
      clock = (clock-laws.new_good 0 0 ks ds e).held;
      events = omega arith;
    }

module _ (timing : Timing) (rolls : List Float) (x : Submission) (wire : List ℕ) (o : Outgoing) where
  metas_length : length (metas_of rolls x o).rows ≡ length o.metas.rows
  metas_length = after_length (noted x o).metas x.seq _ x.retransmission ∙ before_length o.metas x.seq x.time x.rto x.retransmission

  had_entry : FitsLine timing rolls x wire o → o.written < length o.events
  had_entry f = ltb-true _ _ f.entry

  -- ---- the numbers noted: a first sending notes the next number, whatever the answer; a resending changes none
  pub submit_first_count : x.retransmission ≡ false → x.seq ≡ o.metas.notes.count → (submit timing rolls x wire o).outgoing.metas.notes.count ≡ x.seq + 1
  submit_first_count b e = by_outgoing timing rolls x wire o (λ (y : Outgoing). y.metas.notes.count ≡ x.seq + 1) first (λ f. ap (λ (n : Notes). n.count) (after_notes (noted x o).metas x.seq _ x.retransmission) ∙ first)
    where
      first : (noted x o).metas.notes.count ≡ x.seq + 1
      first = rw b (before_first_count o.metas x.seq x.time x.rto e)

  pub submit_again_notes : x.retransmission ≡ true → (submit timing rolls x wire o).outgoing.metas.notes ≡ o.metas.notes
  submit_again_notes b = by_outgoing timing rolls x wire o (λ (y : Outgoing). y.metas.notes ≡ o.metas.notes) again (λ f. after_notes (noted x o).metas x.seq _ x.retransmission ∙ again)
    where
      again : (noted x o).metas.notes ≡ o.metas.notes
      again = rw b (before_again_notes o.metas x.seq x.time x.rto)

  -- ---- events written, rolls used
  pub submit_written : (o.written ≤ (submit timing rolls x wire o).outgoing.written) × ((submit timing rolls x wire o).outgoing.written ≤ o.written + 1)
  submit_written = by_outgoing timing rolls x wire o (λ (y : Outgoing). (o.written ≤ y.written) × (y.written ≤ o.written + 1)) (omega arith, omega arith) (λ f. (omega arith, omega arith))

  pub submit_used : (o.forward.path.used ≤ (submit timing rolls x wire o).outgoing.forward.path.used) × ((submit timing rolls x wire o).outgoing.forward.path.used ≤ o.forward.path.used + packet_rolls)
  submit_used = subst (λ (d : Direction). (o.forward.path.used ≤ d.path.used) × (d.path.used ≤ o.forward.path.used + packet_rolls)) (sym (submit_forward timing rolls x wire o)) (carry_used o.forward rolls (entry_free o) x.time wire)

  pub submit_orders : RiseAlike o.forward (submit timing rolls x wire o).outgoing.forward
  submit_orders = subst (RiseAlike o.forward) (sym (submit_forward timing rolls x wire o)) (carry_orders o.forward rolls (entry_free o) x.time wire)

  module _ (e : (submit timing rolls x wire o).stop ≡ None) where
    pub going_written : (submit timing rolls x wire o).outgoing.written ≡ o.written + 1
    going_written = ap (λ (y : Outgoing). y.written) (submit_going timing rolls x wire o e)

    pub going_used : (submit timing rolls x wire o).outgoing.forward.path.used ≡ o.forward.path.used + packet_rolls
    going_used = ap (λ (y : Outgoing). y.forward.path.used) (submit_going timing rolls x wire o e)

    -- `forward_events.push`
    pub going_events : events_of (submit timing rolls x wire o).outgoing.written (submit timing rolls x wire o).outgoing.events ≡ events_of o.written o.events ++ event_made rolls x wire o ∷ []
    going_events =
        ap (λ (y : Outgoing). events_of y.written y.events) (submit_going timing rolls x wire o e)
        ∙ events_push (event_made rolls x wire o) o.written o.events (forward_fits x.seq x.retransmission (granted o.forward rolls) (copy_fold (granted o.forward rolls) (copy_bytes o.forward rolls wire))) (had_entry (submit_fits timing rolls x wire o e))

  pub stopped_events : is_going (submit timing rolls x wire o).stop ≡ false → events_of (submit timing rolls x wire o).outgoing.written (submit timing rolls x wire o).outgoing.events ≡ events_of o.written o.events
  stopped_events e = ap (λ (y : Outgoing). events_of y.written y.events) (submit_stopped timing rolls x wire o e)

  module _ (can : CanSubmit timing rolls x wire o) where
    pub armed : CanArm timing o.clock (metas_of rolls x o) x.time x.rto x.seq
    armed = can_arm timing rolls x wire o refl _ can refl

    noted_good : GoodOutgoing (noted x o) rolls x.time
    noted_good =
        record {
          forward = can.good.forward;
          notes = before_timely o.metas x.seq x.time x.rto x.retransmission can.row can.rto can.good.notes;
          scheduled = before_scheduled o.metas x.seq x.time x.rto x.retransmission can.good.scheduled;
          clock = can.good.clock;
          events = can.good.events;
        }

    pub submit_good : GoodOutgoing (submit timing rolls x wire o).outgoing rolls x.time
    submit_good =
        by_outgoing timing rolls x wire o (λ (y : Outgoing). GoodOutgoing y rolls x.time) noted_good
        (λ f.
        record {
          forward = subst (λ (c : CarryExit). Good (left_by_carry c) rolls) (carries o.forward rolls (entry_free o) x.time wire f) (carry_good o.forward rolls (entry_free o) x.time wire (can_carry timing rolls x wire o can));
          notes = after_timely (noted x o).metas x.seq _ x.retransmission x.time noted_good.notes;
          scheduled = after_scheduled (noted x o).metas x.seq _ x.retransmission noted_good.scheduled;
          clock = submit_held timing o.clock (metas_of rolls x o) x armed;
          events = rw (length-set o.events o.written (row_of (event_made rolls x wire o))) (room o.written (length o.events) (had_entry f));
        })
      where
        room : (n k : ℕ) → n < k → n + 1 ≤ k
        room n k h = omega arith

    pub submit_keeps : SubmitKeeps o (submit timing rolls x wire o).outgoing
    submit_keeps =
        by_outgoing timing rolls x wire o (SubmitKeeps o)
        (record {
          forward = record { config = refl; records = refl; places = refl };
          rows = before_length o.metas x.seq x.time x.rto x.retransmission;
          events = refl;
          keys = refl;
          deadlines = refl;
        })
        (λ f.
        let k = submit_keys timing o.clock (metas_of rolls x o) x armed in
        record {
          forward = subst (λ (c : CarryExit). path-laws.Keeps o.forward (left_by_carry c)) (carries o.forward rolls (entry_free o) x.time wire f) (carry_keeps o.forward rolls (entry_free o) x.time wire (can_carry timing rolls x wire o can));
          rows = metas_length;
          events = length-set o.events o.written (row_of (event_made rolls x wire o));
          keys = k;
          deadlines = sym (held_lengths _ (submit_held timing o.clock (metas_of rolls x o) x armed)) ∙ k ∙ held_lengths o.clock can.good.clock;
        })

    -- ---- what holds of every copy that waits
    pub submit_each : {P : List ℕ → Type 0} → P (copy_bytes o.forward rolls wire) → EachWaiting P o.forward → EachWaiting P (submit timing rolls x wire o).outgoing.forward
    submit_each {P} h a = subst (EachWaiting P) (sym (submit_forward timing rolls x wire o)) (carry_each o.forward rolls (entry_free o) x.time wire (can_carry timing rolls x wire o can) h a)
