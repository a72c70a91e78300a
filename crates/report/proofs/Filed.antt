-- What every call leaves: the page in its lines where it is done, else the buffer as it was.
use Rattle.std.specs.Prelude.{Err, Ok}
use Prim.Native.Nat.{ℕ, ◌+◌, ◌^◌, ◌≤◌, ◌<◌}
use mathlib.Core.Path.{◌≡◌, refl, sym, subst, ◌∙◌}
use mathlib.Core.Bool.{Bool, true, false, cond}
use mathlib.Core.List.{List, ◌++◌, map}
use native.Mathlib.Omega.{arith}
use lib.Dec.{leb}
use lib.ListN.{length, take, drop, length-map}
use lib.Seq.{length-take-le, take-append_seam, drop-append_seam}
use borrow.Author.Tests.{leb-true}
use Rattle.refusal.specs.declared.Refusal.TheVariants.{Full}
use Rattle.refusal.specs.Order.{verdict}
use Rattle.refusal.proofs.Laws.{either_answer}
use Rattle.events.specs.Events.{ForwardEvent, event_of, events_of}
use Rattle.lent_events.specs.Checks.{event_checks}
use Rattle.lent_events.proofs.Laws.{accepted_count, accepted_rows}
use Rattle.text.specs.Place.{PlaceExit, written_at, place_exit, place}
use Rattle.report.specs.Page.{page, write_report}
use Rattle.report.specs.Lines.{line_width, InLines, Filed, Answered}
use Rattle.report.proofs.Widths.{lines_length, page_in_lines, accepted_room}
use Rattle.refusal.specs.Order.{passed}

abbrev LeavesAs : List ℕ → ℕ → PlaceExit → Type 0
LeavesAs buffer count x = Answered buffer count x.answer x.buffer

module _ (buffer : List ℕ) (count : ℕ) (rows : List (List ℕ)) (k : count < 2 ^ 64) where
  abbrev es : List ForwardEvent
  es = map event_of (take count rows)

  placed : verdict (event_checks count rows) ≡ passed → LeavesAs buffer count (place buffer 0 (page es))
  unfolding place
  placed a = by_room (leb (0 + length (page es)) (length buffer)) refl
    where
      m : length es ≡ count
      m = length-map (take count rows) event_of ∙ length-take-le count rows (accepted_count count rows a)

      lines : InLines line_width (count + 2) (page es)
      lines =
          subst (λ (n : ℕ). InLines line_width (n + 2) (page es)) m
          (page_in_lines es (accepted_room (take count rows) (accepted_rows count rows a)) (subst (λ (n : ℕ). n < 2 ^ 64) (sym m) k))

      filed : (n : ℕ) → n ≡ length (page es) → n ≤ length buffer → Filed buffer count n (page es ++ drop n buffer)
      filed n e h =
          record {
            size = e ∙ lines_length lines;
            room = h;
            lines = rw e (subst (InLines line_width (count + 2)) (sym (take-append_seam (page es) _)) lines);
            behind = rw e (drop-append_seam (page es) _);
          }

      by_room : (t : Bool) → leb (0 + length (page es)) (length buffer) ≡ t
          → LeavesAs buffer count (cond t (place_exit (written_at buffer 0 (page es)) (Ok (0 + length (page es)))) (place_exit buffer (Err Full)))
      by_room true e = filed (0 + length (page es)) (omega arith) (leb-true (0 + length (page es)) (length buffer) e)
      by_room false e = refl

  pub report_answered : Answered buffer count (write_report buffer count rows).answer (write_report buffer count rows).buffer
  unfolding write_report events_of
  report_answered =
      either_answer (LeavesAs buffer count) (verdict (event_checks count rows)) (λ r. place_exit buffer (Err r)) (place buffer 0 (page es)) (λ r. refl) placed
