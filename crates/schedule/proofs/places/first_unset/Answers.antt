use mathlib.Core.Path.{◌∙◌, ap}
use mathlib.Core.Bool.{not}
use Rattle.std.specs.Option.{unwrap_or}
use Rattle.std.proofs.Common.{rules, tests}
use Rattle.std.proofs.lemmas.Iterator.{YieldsList-from_slice}
use Rattle.std.proofs.lemmas.Iterator.Search.{position_from_yields_List}
use Rattle.schedule.proofs.Marks.{unset_position}
use Rattle.schedule.proofs.places.first_unset.Goals as goal

pub returns : goal.returns
returns c = let found = position_from_yields_List not _ _ c.position.result c.position.ensures.ran (YieldsList-from_slice c.args.used.now cc) (λ x b q k. search (rules, tests)) in
    c.unwrap_or.ensures ∙ ap (λ r. unwrap_or r 256) found ∙ unset_position c.args.used.now 256 c.told-used
