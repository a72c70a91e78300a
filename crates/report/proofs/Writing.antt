-- The cases of the writer.
use Rattle.std.specs.Prelude.{Err, Result}
use Prim.Native.Nat.{ℕ}
use mathlib.Core.Path.{◌≡◌, sym, ◌∙◌}
use mathlib.Core.List.{List, map}
use lib.ListN.{take}
use Rattle.refusal.specs.Order.{verdict}
use Rattle.refusal.specs.declared.Refusal.{Refusal}
use Rattle.refusal.proofs.Laws.{on_accepted, on_refused}
use Rattle.events.specs.Events.{event_of, events_of}
use Rattle.lent_events.specs.Checks.{event_checks}
use Rattle.text.specs.Place.{PlaceExit, place_exit, place}
use Rattle.report.specs.Page.{page, write_report}
use Rattle.refusal.specs.Order.{passed}

module _ (buffer : List ℕ) (count : ℕ) (rows : List (List ℕ)) {v : Result Unit Refusal} (e : v ≡ verdict (event_checks count rows)) where
  pub report_placed : {exit : PlaceExit} → v ≡ passed → exit ≡ place buffer 0 (page (map event_of (take count rows))) → exit ≡ write_report buffer count rows
  unfolding write_report events_of
  report_placed a p = p ∙ sym (on_accepted (λ r. place_exit buffer (Err r)) (place buffer 0 (page (map event_of (take count rows)))) (sym e ∙ a))

  pub report_refused : {r : Refusal} → v ≡ Err r → place_exit buffer (Err r) ≡ write_report buffer count rows
  unfolding write_report events_of
  report_refused a = sym (on_refused (λ r. place_exit buffer (Err r)) (place buffer 0 (page (map event_of (take count rows)))) (sym e ∙ a))
