use mathlib.Core.Path.{sym, ap, ◌∙◌}
use mathlib.Core.Bool.{true, false}
use Rattle.receiving.proofs.Calls.{arrives}
use Rattle.receiving.specs.Internal.{arrival_of}
use Rattle.refusal.proofs.Laws.{ok_is}
use Rattle.receiving.proofs.arrival_of.Goals as goal

pub returns-in-Ok-Valid : goal.returns-in-Ok-Valid
returns-in-Ok-Valid c = arrives _ _ true c.read_datagram.ensures (ok_is c.in-Ok-Valid.is c.in-Ok-Valid.field-0-is) c.data_arrival.ensures

pub returns-in-Ok-Corrupted : goal.returns-in-Ok-Corrupted
returns-in-Ok-Corrupted c = arrives _ _ false c.read_datagram.ensures (ok_is c.in-Ok-Corrupted.is c.in-Ok-Corrupted.field-0-is) c.data_arrival-in-Ok-Corrupted.ensures

pub returns-in-Err : goal.returns-in-Err
returns-in-Err c = ap arrival_of (sym c.in-Err.is ∙ c.read_datagram.ensures)
