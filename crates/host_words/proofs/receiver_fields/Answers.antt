use Rattle.host_words.specs.Words.{receiver_fields}
use Rattle.host_words.proofs.receiver_fields.Goals as goal

pub returns-in-StopAndWait : goal.returns-in-StopAndWait
unfolding receiver_fields
returns-in-StopAndWait c = rw c.in-StopAndWait.is

pub returns-in-GoBackN : goal.returns-in-GoBackN
unfolding receiver_fields
returns-in-GoBackN c = rw c.in-GoBackN.is

pub returns-in-SelectiveRepeat : goal.returns-in-SelectiveRepeat
unfolding receiver_fields
returns-in-SelectiveRepeat c = rw c.in-SelectiveRepeat.is
