use native.Mathlib.Omega.{arith}
use Rattle.refusal.specs.Order.{order, or_else, numbered, first_of, verdict, decide}
use Rattle.packet.specs.Reading.{try_from}
use Rattle.packet.proofs.Types.{other_type}
use Rattle.packet.proofs.PacketTypeTryFromU8.try_from.Goals as goal

pub returns-in-1 : goal.returns-in-1
unfolding try_from verdict first_of numbered or_else decide order
returns-in-1 c = rw c.in-1.is

pub returns-in-2 : goal.returns-in-2
unfolding try_from verdict first_of numbered or_else decide order
returns-in-2 c = rw c.in-2.is

pub returns-in-3 : goal.returns-in-3
unfolding try_from verdict first_of numbered or_else decide order
returns-in-3 c = rw c.in-3.is

pub returns-in_default : goal.returns-in_default
unfolding try_from verdict first_of numbered or_else decide order
returns-in_default c = simp (other_type c.args.byte (λ e. omega arith) (λ e. omega arith) (λ e. omega arith))
