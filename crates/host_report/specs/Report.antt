-- The page of a run's forward events for a host: done with its length, or refused and the buffer as it was.
use Rattle.std.specs.Prelude.{ℕ, List, Result}
use Rattle.host_answer.specs.Answer.{count_answer}
use Rattle.text.specs.Place.{PlaceExit}
use Rattle.report.specs.Page.{write_report}
use Rattle.refusal.specs.declared.Refusal.{Refusal}

-- the answer, and the lent buffer when the call returns
pub record ReportExit : Type 0 where
  pub answer : ℕ
  pub out : List ℕ

abbrev pub report_exit : ℕ → List ℕ → ReportExit
report_exit answer out = record { answer = answer; out = out }

abbrev pub place_code : Result ℕ Refusal → ℕ
place_code = count_answer

abbrev pub reported : PlaceExit → ReportExit
reported x = report_exit (place_code x.answer) x.buffer

abbrev pub report : List (List ℕ) → ℕ → List ℕ → ReportExit
report rows count out = reported (write_report out count rows)
