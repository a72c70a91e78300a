use mathlib.Core.Path.{ap}
use mathlib.Core.Bool.{not}
use Rattle.setup.specs.Setup.{clock_broken}
use Rattle.setup.proofs.clock_broken.Goals as goal

pub returns-in-Source : goal.returns-in-Source
unfolding clock_broken
returns-in-Source c = rw c.in-Source.is

pub returns-in-StopAndWait : goal.returns-in-StopAndWait
unfolding clock_broken
returns-in-StopAndWait c = rw (c.in-Edition.is, c.in-StopAndWait.is) (ap not c.is_edition.ensures)

pub returns-in-GoBackN : goal.returns-in-GoBackN
unfolding clock_broken
returns-in-GoBackN c = rw (c.in-Edition.is, c.in-GoBackN.is) (ap not c.is_edition-in-GoBackN.ensures)

pub returns-in-SelectiveRepeat : goal.returns-in-SelectiveRepeat
unfolding clock_broken
returns-in-SelectiveRepeat c = rw (c.in-Edition.is, c.in-SelectiveRepeat.is)
