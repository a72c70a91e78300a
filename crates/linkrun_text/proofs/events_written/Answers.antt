use native.Mathlib.Omega.{arith}
use Rattle.linkrun_text.proofs.Runs.{all_rows, some_rows, no_rows}
use Rattle.linkrun_text.proofs.events_written.Goals as goal

pub returns-then-count-gt-MAX_FILE : goal.returns-then-count-gt-MAX_FILE
returns-then-count-gt-MAX_FILE c = all_rows c.in-Ok.is (omega arith)

pub returns-else-count-gt-MAX_FILE : goal.returns-else-count-gt-MAX_FILE
returns-else-count-gt-MAX_FILE c = some_rows c.in-Ok.is (omega arith)

pub returns-in-Err : goal.returns-in-Err
returns-in-Err c = no_rows c.in-Err.is
