use lib.Ieee.{of_bits}
use Rattle.linkrun_text.specs.Linkrun.{linkrun_rolls}
use Rattle.linkrun_text.proofs.Runs.{run_holds}
use Rattle.linkrun_text.proofs.run_file_unchecked.Goals as goal

pub returns : goal.returns
unfolding of_bits linkrun_rolls
returns c = let t = c.run_transfer in
    run_holds c.args.file.now t.ensures c.setup.ensures c.requires t.auto.events
