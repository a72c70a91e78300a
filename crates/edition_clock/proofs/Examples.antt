-- What the laws along a run ask is met: one byte by Go-Back-N on the edition clock.
use native.Mathlib.Omega.{arith}
use mathlib.Core.Path.{refl}
use mathlib.Core.List.{[]}
use lib.Ieee.{nan, fits}
use lib.ListN.{get_or-replicate}
use Rattle.rtt.specs.Rtt.{zero64}
use Rattle.protocol.specs.declared.ProtocolType.TheVariants.{GoBackN}
use Rattle.path.specs.Rolls.{packet_rolls, Doubles}
use Rattle.clock.specs.Estimator.{Factors}
use Rattle.setup.specs.Setup.{Start}
use Rattle.setup.proofs.Laws.{start_accepted}
use Rattle.setup.proofs.Examples.{edition, edition_accepted}
use Rattle.step.specs.State.{Given, given, Lent, lent}
use Rattle.transfer.specs.Start.{new_run}
use Rattle.transfer.specs.Transfer.{default_ceilings}
use Rattle.edition_clock.specs.AlongARun.{OnTheClock, start}
use Rattle.edition_clock.proofs.Run.{edition_run, default_patient}

abbrev begun : Start
begun = edition GoBackN 60000000000

abbrev file : Given
file = given begun.file begun.forward_rolls begun.reverse_rolls

abbrev memory : Lent
memory = lent begun.sender_store begun.receiver_store begun.output begun.notes [] [] [] [] [] begun.keys begun.deadlines

doubles : Doubles begun.forward_rolls
unfolding fits
doubles = record { each = λ i h. rw (get_or-replicate packet_rolls i zero64 nan) tt; size = omega arith }

factors : Factors begun.config.rto
unfolding fits
factors = record { alpha = tt; beta = tt; k = tt; multiplier = tt }

pub one_byte : OnTheClock (new_run default_ceilings begun.config memory)
one_byte = edition_run default_ceilings begun.config file memory (start_accepted begun edition_accepted) refl doubles doubles factors default_patient start
