use mathlib.Core.Path.{◌∙◌}
use Rattle.host_estimator.proofs.Held.{words_put, doubles_put}
use Rattle.host_estimator.proofs.words.put_estimator.Goals as goal

pub returns : goal.returns
returns c = record { state_after = (rw (c.put_third.ensures, c.put_second.ensures, c.put_first.ensures) (words_put c.args.state.now c.args.e c.requires.words)); doubles_after = c.put_doubles.ensures ∙ doubles_put c.args.doubles.now c.args.e c.requires.doubles }
