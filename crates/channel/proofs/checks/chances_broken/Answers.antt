use mathlib.Core.Path.{◌∙◌}
use Rattle.channel.proofs.checks.chances_broken.Goals as goal

pub returns : goal.returns
returns c = c.any_false.ensures ∙ simp (c.chance_in_bounds.ensures, c.chance_in_bounds-2.ensures, c.chance_in_bounds-3.ensures, c.chance_in_bounds-4.ensures)
