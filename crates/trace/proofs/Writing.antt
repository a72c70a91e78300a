-- The cases of the writer.
use Rattle.std.specs.Prelude.{Err}
use Prim.Native.Nat.{ℕ, ◌≤◌, ◌<◌}
use mathlib.Core.Path.{◌≡◌}
use mathlib.Core.List.{List, map}
use lib.ListN.{length, take}
use borrow.Author.Tests.{lt-ltb, le-ltb}
use Rattle.refusal.specs.declared.Refusal.TheVariants.{State}
use Rattle.events.specs.Events.{event_of, events_of}
use Rattle.text.specs.Place.{PlaceExit, place_exit, place}
use Rattle.trace.specs.Text.{events_text, write_events}

module _ (buffer : List ℕ) (count : ℕ) (rows : List (List ℕ)) where
  pub write_refused : length rows < count → place_exit buffer (Err State) ≡ write_events buffer count rows
  unfolding write_events
  write_refused h = rw (lt-ltb (length rows) count h)

  pub write_placed : count ≤ length rows → place buffer 0 (events_text (events_of count rows)) ≡ write_events buffer count rows
  unfolding write_events
  write_placed h = rw (le-ltb (length rows) count h)

  pub rows_placed : {exit : PlaceExit} → count ≤ length rows → exit ≡ place buffer 0 (events_text (map event_of (take count rows)))
      → exit ≡ write_events buffer count rows
  unfolding write_events events_of
  rows_placed h e = rw (le-ltb (length rows) count h) e
