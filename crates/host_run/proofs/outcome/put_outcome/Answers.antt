use Rattle.host_run.proofs.Ends.{outcome_put}
use Rattle.host_run.proofs.outcome.put_outcome.Goals as goal

pub returns : goal.returns
returns c = rw (c.put_channel-2.ensures, c.put_channel.ensures, c.put_receiver.ensures, c.put_sender.ensures, c.put_driver.ensures, c.put_course.ensures) (outcome_put c.args.words.now c.args.o c.requires)
