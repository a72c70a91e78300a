-- Laws of the page for a host: a refused call changes nothing; one that is done answers the page's length.
use Rattle.std.specs.Prelude.{Err, Ok, Result}
use Prim.Native.Nat.{ℕ, ◌+◌, ◌*◌, ◌^◌, ◌≤◌, ◌<◌}
use mathlib.Core.Path.{◌≡◌, refl, ap, subst, ◌∙◌}
use mathlib.Core.Logic.{◌⊎◌, inl, inr}
use mathlib.Core.Bool.{Bool, true, false, cond}
use mathlib.Core.List.{List}
use lib.ListN.{length}
use lib.Dec.{leb}
use Rattle.refusal.specs.declared.Refusal.TheVariants.{Full}
use Rattle.refusal.specs.Order.{verdict}
use Rattle.refusal.proofs.Laws.{either_answer}
use Rattle.text.specs.Place.{PlaceExit, written_at, place_exit, place}
use Rattle.events.specs.Events.{events_of}
use Rattle.lent_events.specs.Checks.{event_checks}
use Rattle.report.specs.Page.{page, write_report}
use Rattle.report.specs.Lines.{Answered}
use Rattle.report.proofs.Laws.{report_answered}
use Rattle.host_answer.specs.Answer.{packed, done_status, count_answer, Refusing}
use Rattle.host_answer.proofs.Laws.{refusal_refusing, done_not_refusing}
use Rattle.host_report.specs.Report.{report_exit, reported, report}
use Rattle.refusal.specs.declared.Refusal.{Refusal}

-- what the call answers, from the equations of the calls below it
pub on_reported : {x : ℕ} {a : Result ℕ Refusal} {o : List ℕ} {w : PlaceExit} → x ≡ count_answer a → place_exit o a ≡ w → report_exit x o ≡ reported w
on_reported {x} {a} {o} {w} e f = ap (λ (y : ℕ). report_exit y o) e ∙ ap reported f

abbrev Kept : List ℕ → PlaceExit → Type 0
Kept out x = Refusing (count_answer x.answer) → x.buffer ≡ out

place_kept : (out text : List ℕ) → Kept out (place out 0 text)
unfolding place count_answer
place_kept out text = by_room (leb (0 + length text) (length out))
  where
    by_room : (t : Bool) → Kept out (cond t (place_exit (written_at out 0 text) (Ok (0 + length text))) (place_exit out (Err Full)))
    by_room true = λ h. absurd (done_not_refusing (0 + length text) h)
    by_room false = λ h. refl

pub report_refused : (rows : List (List ℕ)) (count : ℕ) (out : List ℕ) → Refusing (report rows count out).answer → (report rows count out).out ≡ out
unfolding write_report
report_refused rows count out =
    either_answer (Kept out) (verdict (event_checks count rows)) (λ r. place_exit out (Err r)) (place out 0 (page (events_of count rows))) (λ r h. refl)
    (λ e. place_kept out (page (events_of count rows)))

-- refused, or done with the page's length, which the buffer has
abbrev pub Sized : List ℕ → ℕ → ℕ → Type 0
Sized out count answer = Refusing answer ⊎ ((answer ≡ packed done_status ((count + 2) * 73)) × ((count + 2) * 73 ≤ length out))

sized : (out : List ℕ) (count : ℕ) (a : Result ℕ Refusal) (after : List ℕ) → Answered out count a after → Sized out count (count_answer a)
unfolding count_answer
sized out count (Ok n) after d = inr (ap (packed done_status) d.size, subst (λ (m : ℕ). m ≤ length out) d.size d.room)
sized out count (Err r) after d = inl (refusal_refusing r)

pub report_sized : (rows : List (List ℕ)) (count : ℕ) (out : List ℕ) → count < 2 ^ 64 → Sized out count (report rows count out).answer
report_sized rows count out k =
    let x = write_report out count rows in sized out count x.answer x.buffer (report_answered out count rows k)
