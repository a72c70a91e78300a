-- What a run of a file leaves, and how many of its rows are printed; no definition of an entry point uses it.
use Rattle.std.specs.Prelude.{ℕ, ◌≡◌, cond, List, ltb, length, Err, Ok, Result}
use Rattle.linkrun_text.specs.Linkrun.{max_file, linkrun_run}
use Rattle.transfer.specs.declared.Outcome.{Outcome}
use Rattle.refusal.specs.declared.Refusal.{Refusal}

-- at most as many as are lent
unfoldable pub rows_written : Result Outcome Refusal → ℕ
rows_written (Ok o) = cond (ltb max_file o.driver.events) max_file o.driver.events
rows_written (Err r) = 0

pub record HoldsRun (file : List ℕ) (rows : List (List ℕ)) (answer : Result Outcome Refusal) : Type 0 where
  pub same_answer : answer ≡ (linkrun_run file).answer
  pub same_rows : rows ≡ (linkrun_run file).lent.events
  pub size : max_file ≡ length rows
