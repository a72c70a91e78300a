-- The rows of a run and the cases of the text.
use Rattle.std.specs.Prelude.{Err, Ok, Result}
use Prim.Native.Nat.{ℕ, suc, ◌≤◌, ◌<◌}
use mathlib.Core.Path.{◌≡◌, refl, sym, ap, ◌∙◌}
use mathlib.Core.Bool.{Bool, true, false, cond}
use mathlib.Core.List.{List, [], ◌∷◌, map}
use native.Mathlib.Omega.{arith}
use lib.ListN.{length, replicate, length-replicate}
use lib.Seq.{take_all}
use lib.Dec.{ltb}
use borrow.Author.Tests.{ltb-true, ltb-false, lt-ltb, le-ltb}
use Rattle.events.specs.Events.{event_of, events_of}
use Rattle.setup.specs.declared.TransferConfig.{TransferConfig}
use Rattle.step.specs.State.{given, Lent, lent}
use Rattle.rows.specs.Rows.{vacant}
use Rattle.schedule.specs.Record as scheduled
use Rattle.refusal.specs.Refusal.{ascii}
use Rattle.text.specs.Place.{PlaceExit, place}
use Rattle.trace.specs.Text.{write_events}
use Rattle.trace.proofs.Laws.{write_placed}
use Rattle.transfer.specs.Transfer.{default_ceilings, RunExit, run_exit, run_transfer}
use Rattle.refusal.specs.declared.Refusal.{Refusal}
use Rattle.transfer.specs.declared.Outcome as outcome
use Rattle.linkrun_text.specs.Linkrun.{max_file, linkrun_setup, linkrun_rolls, linkrun_lent, linkrun_run, answered_events, run_events, file_events, linkrun_text}
use Rattle.linkrun_text.specs.Internal.{rows_written, HoldsRun}
use Rattle.transfer.specs.declared.Outcome.{Outcome}

capped : (n : ℕ) (rows : List (List ℕ)) → length rows ≡ max_file → (t : Bool) → ltb max_file n ≡ t
    → events_of (cond t max_file n) rows ≡ events_of n rows
unfolding events_of
capped n rows e true h =
    let l = ltb-true max_file n h in
    ap (map event_of) (take_all max_file rows (omega arith) ∙ sym (take_all n rows (omega arith)))
capped n rows e false h = refl

none : (rows : List (List ℕ)) → events_of 0 rows ≡ []
unfolding events_of
none rows = refl

pub rows_events : (answer : Result Outcome Refusal) (rows : List (List ℕ)) → length rows ≡ max_file → events_of (rows_written answer) rows ≡ answered_events answer rows
unfolding rows_written
rows_events (Ok o) rows e = capped o.driver.events rows e (ltb max_file o.driver.events) refl
rows_events (Err r) rows e = none rows

pub all_rows : {answer : Result Outcome Refusal} {o : outcome.Outcome} → answer ≡ Ok o → max_file < o.driver.events → max_file ≡ rows_written answer
unfolding rows_written
all_rows {answer} {o} e h = rw (e, lt-ltb max_file o.driver.events h)

pub some_rows : {answer : Result Outcome Refusal} {o : outcome.Outcome} → answer ≡ Ok o → o.driver.events ≤ max_file → o.driver.events ≡ rows_written answer
unfolding rows_written
some_rows {answer} {o} e h = rw (e, le-ltb max_file o.driver.events h)

pub no_rows : {answer : Result Outcome Refusal} {r : Refusal} → answer ≡ Err r → 0 ≡ rows_written answer
unfolding rows_written
no_rows e = rw e

within : (n : ℕ) (t : Bool) → ltb max_file n ≡ t → cond t max_file n ≤ max_file
within n true h = omega arith
within n false h = ltb-false max_file n h

pub rows_within : (answer : Result Outcome Refusal) → rows_written answer ≤ max_file
unfolding rows_written
rows_within (Ok o) = within o.driver.events (ltb max_file o.driver.events) refl
rows_within (Err r) = omega arith

-- what the run is lent, by the rows for its events
abbrev pub lent_with : List (List ℕ) → Lent
lent_with events =
    lent (replicate 5616 0) (replicate 5616 0) (replicate 256 0) (replicate 256 vacant) events (replicate 4 scheduled.vacant) (replicate 5640 0)
    (replicate 4 scheduled.vacant) (replicate 5640 0) (replicate 4 0) (replicate 4 0)

lent_zeros : {events : List (List ℕ)} → events ≡ replicate max_file vacant → lent_with events ≡ linkrun_lent
unfolding linkrun_lent
lent_zeros e = rw e

-- what the call of `run_transfer` leaves is the run's
pub run_holds : (file : List ℕ) {answer : Result Outcome Refusal} {l : Lent} {events : List (List ℕ)} {config : TransferConfig}
    → run_exit answer l ≡ run_transfer default_ceilings config (given file linkrun_rolls linkrun_rolls) (lent_with events) → config ≡ linkrun_setup
    → events ≡ replicate max_file vacant → length l.events ≡ length events → HoldsRun file l.events answer
unfolding linkrun_run
run_holds file {answer} {l} {events} e s z k =
    let size : length l.events ≡ max_file = k ∙ ap length z ∙ length-replicate max_file vacant in
    let x = rw (s, lent_zeros z) at e in
    record {
      same_answer = ap (λ (x : RunExit). x.answer) x;
      same_rows = ap (λ (x : RunExit). x.lent.events) x;
      size = sym size;
    }

pub rows_hold : {file : List ℕ} {rows : List (List ℕ)} {answer : Result Outcome Refusal} {count : ℕ} → HoldsRun file rows answer → count ≡ rows_written answer
    → (events_of count rows ≡ run_events (linkrun_run file)) × (count ≤ length rows)
unfolding run_events
rows_hold {file} {rows} {answer} {count} h n =
    let w = rows_within answer in
    let z = h.size in
    (ap (λ (m : ℕ). events_of m rows) n ∙ rows_events answer rows (sym z) ∙ rw (h.same_answer, h.same_rows), omega arith)

-- the cases of the text
module _ (buffer file : List ℕ) {exit : PlaceExit} where
  pub text_long : max_file < length file → exit ≡ place buffer 0 (ascii "long\n") → exit ≡ place buffer 0 (linkrun_text file)
  unfolding linkrun_text
  text_long h e = rw (lt-ltb max_file (length file) h) e

  pub text_events : (rows : List (List ℕ)) (count : ℕ) → length file ≤ max_file → count ≤ length rows → events_of count rows ≡ file_events file
      → exit ≡ write_events buffer count rows → exit ≡ place buffer 0 (linkrun_text file)
  unfolding linkrun_text
  text_events rows count h k f e = rw (le-ltb max_file (length file) h, ← f) (e ∙ sym (write_placed buffer count rows k))

pub no_bytes : (file : List ℕ) (rows : List (List ℕ)) → length file ≡ 0 → events_of 0 rows ≡ file_events file
unfolding file_events
no_bytes [] rows h = none rows
no_bytes (b ∷ bs) rows h = absurd (not_zero (length bs) h)
  where
    not_zero : (n : ℕ) → suc n ≡ 0 → ⊥
    not_zero n h = omega arith

pub some_bytes : (file : List ℕ) → (length file ≡ 0 → ⊥) → run_events (linkrun_run file) ≡ file_events file
unfolding file_events
some_bytes [] h = absurd (h refl)
some_bytes (b ∷ bs) h = refl
