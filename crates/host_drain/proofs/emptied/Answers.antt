use mathlib.Core.Path.{refl}
use Rattle.host_drain.proofs.emptied.Goals as goal

pub returns-in-StopAndWait : goal.returns-in-StopAndWait
returns-in-StopAndWait c = rw c.in-StopAndWait.is refl

pub returns-in-GoBackN : goal.returns-in-GoBackN
returns-in-GoBackN c = rw c.in-GoBackN.is refl

pub returns-in-SelectiveRepeat : goal.returns-in-SelectiveRepeat
returns-in-SelectiveRepeat c = rw c.in-SelectiveRepeat.is refl
