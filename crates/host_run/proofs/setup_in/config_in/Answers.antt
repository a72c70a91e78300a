use Rattle.host_run.proofs.setup_in.config_in.Goals as goal

pub returns : goal.returns
returns c = rw (c.channel_in-channel.ensures, c.rto_in-rto.ensures)
