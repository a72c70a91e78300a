-- app/transfer.rs, `run_transfer`: a run that ends before its first packet.
use Rattle.std.specs.Prelude.{◌≡◌, false}
use Rattle.session.specs.Sending.{window_of}
use Rattle.session.specs.Receiving.{filled}
use Rattle.setup.specs.declared.TransferConfig.{TransferConfig}
use Rattle.step.specs.State.{Lent}
use Rattle.step.specs.Settle.{over}
use Rattle.step.specs.declared.End.TheVariants.{Ended}
use Rattle.transfer.specs.Start.{new_run}
use Rattle.transfer.specs.Transfer.{RunExit, ended}
use Rattle.transfer.specs.declared.Ceilings.{Ceilings}
use Rattle.transfer.specs.declared.Outcome.{Outcome}

-- both ends, both lines and all that is lent as made, at time 0
abbrev pub ended_at_start : Ceilings → TransferConfig → Lent → RunExit
ended_at_start k c l = ended (over (new_run k c l) Ended 0)

-- nothing was sent or written
pub record NothingSent (before : Lent) (o : Outcome) (after : Lent) : Type 0 where
  pub ends : o.end ≡ Ended
  pub finished : o.finished_at ≡ 0
  pub completed : o.completed ≡ false
  pub number : (window_of o.sender).next_seq_num ≡ 0
  pub carried : o.forward.packets_seen ≡ 0
  pub events : o.driver.events ≡ 0
  pub written : filled o.receiver ≡ 0
  pub output : after.output ≡ before.output
