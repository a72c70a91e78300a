-- What a submission leaves, by what the line answers. Where it ends the run nothing stands but the note from before.
use Rattle.std.specs.Prelude.{None, Some}
use Prim.Native.Nat.{ℕ, ◌+◌}
use mathlib.Core.Path.{◌≡◌, refl, sym, ap, ◌∙◌}
use mathlib.Core.Bool.{true, false, true≢false}
use mathlib.Core.List.{List}
use lib.Ieee.{Float}
use lib.ListN.{set}
use Rattle.schedule.specs.State.{copies, lacks_room}
use Rattle.path.specs.Direction.{schedule_of}
use Rattle.path.specs.Path.{CarryExit, left_by_carry, rolls_spent, copy_fold, carry, stop_of, is_going}
use Rattle.path.specs.declared.Stop.TheVariants.{RollsSpent, EventsFull, ScheduleFull}
use Rattle.path.proofs.Laws.{granted, copy_bytes, carried_on, Fits, spends, no_entry, fills, carries, by_answer, going_fits, fits_going}
use Rattle.notes.specs.Notes.{SegMetas}
use Rattle.events.specs.Events.{ForwardEvent, forward_event, row_of}
use Rattle.clock.specs.Clock.{Submission, arm_after_submit}
use Rattle.clock.specs.declared.Timing.{Timing}
use Rattle.submission.specs.Submission.{Outgoing, outgoing, SubmitExit, submit_exit, note_before, note_after, entry_free, on_carriage, submit}

-- the packet is noted, and no more
abbrev pub noted : Submission → Outgoing → Outgoing
noted x o = outgoing o.forward (note_before o.metas x.seq x.retransmission x.time x.rto) o.written o.events o.clock

-- what the next rolls make of it: its note, its event, and all that is left
abbrev pub metas_of : List Float → Submission → Outgoing → SegMetas
metas_of rolls x o = note_after (noted x o).metas x.seq x.retransmission (granted o.forward rolls)

abbrev pub event_made : List Float → Submission → List ℕ → Outgoing → ForwardEvent
event_made rolls x wire o = forward_event x.seq x.retransmission (granted o.forward rolls) (copy_fold (granted o.forward rolls) (copy_bytes o.forward rolls wire))

abbrev pub submitted : Timing → List Float → Submission → List ℕ → Outgoing → Outgoing
submitted timing rolls x wire o =
    outgoing (carried_on o.forward rolls x.time wire) (metas_of rolls x o) (o.written + 1) (set o.events o.written (row_of (event_made rolls x wire o))) (arm_after_submit timing o.clock (metas_of rolls x o) x)

module _ (timing : Timing) (rolls : List Float) (x : Submission) (wire : List ℕ) (o : Outgoing) where
  abbrev exit_by : CarryExit → SubmitExit
  exit_by c = submit_exit (on_carriage c.result.answer timing x (outgoing (left_by_carry c) (noted x o).metas o.written o.events o.clock)) (stop_of c.result.answer)

  -- there are rolls, an entry for the event, and room for the copies
  abbrev pub FitsLine : Type 0
  FitsLine = Fits o.forward rolls (entry_free o) x.time wire

  pub submit_spent : rolls_spent o.forward.path rolls ≡ true → submit timing rolls x wire o ≡ submit_exit (noted x o) (Some RollsSpent)
  unfolding submit
  submit_spent h = ap exit_by (spends o.forward rolls (entry_free o) x.time wire h)

  pub submit_no_entry : rolls_spent o.forward.path rolls ≡ false → entry_free o ≡ false → submit timing rolls x wire o ≡ submit_exit (noted x o) (Some EventsFull)
  unfolding submit
  submit_no_entry h k = ap exit_by (no_entry o.forward rolls (entry_free o) x.time wire h k)

  pub submit_full : rolls_spent o.forward.path rolls ≡ false → entry_free o ≡ true → lacks_room (schedule_of o.forward) (copies (granted o.forward rolls)) ≡ true → submit timing rolls x wire o ≡ submit_exit (noted x o) (Some ScheduleFull)
  unfolding submit
  submit_full h k l = ap exit_by (fills o.forward rolls (entry_free o) x.time wire h k l)

  pub submit_carried : FitsLine → submit timing rolls x wire o ≡ submit_exit (submitted timing rolls x wire o) (None)
  unfolding submit
  submit_carried f = ap exit_by (carries o.forward rolls (entry_free o) x.time wire f)

  -- whatever holds of these four exits holds of the call's
  pub by_submit : (P : SubmitExit → Type 0) → P (submit_exit (noted x o) (Some RollsSpent)) → P (submit_exit (noted x o) (Some EventsFull)) → P (submit_exit (noted x o) (Some ScheduleFull)) → (FitsLine → P (submit_exit (submitted timing rolls x wire o) (None))) → P (submit timing rolls x wire o)
  unfolding submit
  by_submit P spent events full carried = by_answer o.forward rolls (entry_free o) x.time wire (λ (c : CarryExit). P (exit_by c)) (λ h. spent) (λ h k. events) (λ h k l. full) carried

  pub by_outgoing : (P : Outgoing → Type 0) → P (noted x o) → (FitsLine → P (submitted timing rolls x wire o)) → P (submit timing rolls x wire o).outgoing
  by_outgoing P same next = by_submit (λ (e : SubmitExit). P e.outgoing) same same same next

  -- the run goes on where the packet was carried, and only there
  pub submit_stop : (submit timing rolls x wire o).stop ≡ stop_of (carry o.forward rolls (entry_free o) x.time wire).result.answer
  unfolding submit
  submit_stop = refl

  pub submit_fits : (submit timing rolls x wire o).stop ≡ None → FitsLine
  submit_fits e = going_fits o.forward rolls (entry_free o) x.time wire (sym submit_stop ∙ e)

  pub submit_goes : FitsLine → (submit timing rolls x wire o).stop ≡ None
  submit_goes f = submit_stop ∙ fits_going o.forward rolls (entry_free o) x.time wire f

  pub submit_going : (submit timing rolls x wire o).stop ≡ None → (submit timing rolls x wire o).outgoing ≡ submitted timing rolls x wire o
  submit_going e = ap (λ (y : SubmitExit). y.outgoing) (submit_carried (submit_fits e))

  pub submit_stopped : is_going (submit timing rolls x wire o).stop ≡ false → (submit timing rolls x wire o).outgoing ≡ noted x o
  submit_stopped = by_submit (λ (y : SubmitExit). is_going y.stop ≡ false → y.outgoing ≡ noted x o) (λ e. refl) (λ e. refl) (λ e. refl) (λ f e. absurd (true≢false e))

  -- the line is as `carry` leaves it, whatever the answer
  pub submit_forward : (submit timing rolls x wire o).outgoing.forward ≡ left_by_carry (carry o.forward rolls (entry_free o) x.time wire)
  unfolding submit
  submit_forward = by_answer o.forward rolls (entry_free o) x.time wire (λ (c : CarryExit). (exit_by c).outgoing.forward ≡ left_by_carry c) (λ h. refl) (λ h k. refl) (λ h k l. refl) (λ f. refl)
