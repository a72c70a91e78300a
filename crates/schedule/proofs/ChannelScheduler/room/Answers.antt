use Rattle.std.specs.Prelude.{Err, Ok}
use mathlib.Core.Path.{sym, ap, ◌∙◌}
use Rattle.std.proofs.lemmas.Result.{err_from_is_err_and}
use Rattle.schedule.specs.State.{schedule}
use Rattle.schedule.specs.Schedule.{room}
use Rattle.schedule.proofs.Calls.{answered_refused, answered, read_sound}
use Rattle.schedule.proofs.ChannelScheduler.room.Goals as goal

pub room_unchecked-requires : goal.room_unchecked-requires
room_unchecked-requires c = read_sound (schedule c.args.records.now c.args.places.now c.args.self) (sym c.read_verdict.ensures ∙ c.in_ok-read_verdict.was)

pub returns-in_err-read_verdict : goal.returns-in_err-read_verdict
unfolding room
returns-in_err-read_verdict c =
    let p = err_from_is_err_and c.from_residual.result c.from_residual.ensures.1 in
    p.1 ∙ ap Err p.2 ∙ answered_refused _ _ c.read_verdict.ensures c.in_err-read_verdict.was

pub returns : goal.returns
unfolding room
returns c = answered _ _ c.read_verdict.ensures c.in_ok-read_verdict.was (ap Ok c.room_unchecked.ensures)
