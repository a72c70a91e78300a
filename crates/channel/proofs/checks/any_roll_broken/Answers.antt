use mathlib.Core.Path.{◌∙◌}
use Rattle.channel.proofs.checks.any_roll_broken.Goals as goal

pub returns : goal.returns
returns c = c.any_false.ensures ∙ simp (c.roll_in_bounds.ensures, c.roll_in_bounds-2.ensures, c.roll_in_bounds-3.ensures, c.roll_in_bounds-4.ensures)
