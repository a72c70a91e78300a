use mathlib.Core.Path.{refl}
use lib.Ieee.{of_bits}
use Rattle.linkrun_text.specs.Linkrun.{linkrun_setup}
use Rattle.linkrun_text.proofs.setup.Goals as goal

pub returns : goal.returns
unfolding of_bits linkrun_setup
returns c = refl
