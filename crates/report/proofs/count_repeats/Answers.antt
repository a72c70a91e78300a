use Rattle.std.proofs.Common.{◌≡◌, ℕ, List, eqb, get_or, sym, ◌∙◌, rules}
use Rattle.std.specs.List.{count_by}
use Rattle.std.proofs.iter.runs.Made.{chains}
use Rattle.report.proofs.Counts.{repeats_counted}
use Rattle.report.proofs.count_repeats.Goals as goal

pub returns : goal.returns
returns c = let e : c.count.result ≡ count_by (λ (row : List ℕ). eqb (get_or row 1 0) 1) c.args.rows.now = search (rules, chains) in e ∙ sym (repeats_counted c.args.rows.now)
