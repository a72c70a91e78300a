use Rattle.std.specs.Prelude.{Err, Result, ℕ}
use mathlib.Core.Path.{sym, ap, ◌∙◌}
use lib.Seq.{length-take-le}
use Rattle.std.proofs.lemmas.Result.{err_from_is_err_and}
use Rattle.refusal.specs.declared.Refusal.{Refusal}
use Rattle.text.specs.Place.{place_exit}
use Rattle.lent_events.proofs.Laws.{accepted_count, accepted_rows}
use Rattle.report.proofs.Writing.{report_placed, report_refused}
use Rattle.report.proofs.write_report.Goals as goal

pub slice_bounds-place_page-end : goal.slice_bounds-place_page-end
slice_bounds-place_page-end c = let a = c.args in
    sym (length-take-le a.count a.rows.now (accepted_count a.count a.rows.now (sym c.check_events.ensures ∙ c.in_ok-check_events.was)))

pub place_page-requires : goal.place_page-requires
place_page-requires c = let a = c.args in accepted_rows a.count a.rows.now (sym c.check_events.ensures ∙ c.in_ok-check_events.was)

pub returns-in_err-check_events : goal.returns-in_err-check_events
returns-in_err-check_events c =
    let a = c.args in
    let p = err_from_is_err_and c.from_residual.result c.from_residual.ensures.1 in
    ap (λ (r : Result ℕ Refusal). place_exit a.out.now r) (p.1 ∙ ap Err p.2)
    ∙ report_refused a.out.now a.count a.rows.now c.check_events.ensures c.in_err-check_events.was

pub returns : goal.returns
returns c = let a = c.args in
    report_placed a.out.now a.count a.rows.now c.check_events.ensures c.in_ok-check_events.was c.place_page.ensures
