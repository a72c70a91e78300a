use Rattle.std.proofs.Common.{sym, ◌∙◌, rules, tests}
use Rattle.std.proofs.lemmas.Iterator.{YieldsList-from_slice}
use Rattle.std.proofs.lemmas.Iterator.Search.{all_from_yields_List}
use Rattle.text.specs.Hexadecimal.{is_hex}
use Rattle.text.proofs.Hex.{all_hex_each}
use Rattle.text.proofs.is_hex_text.Goals as goal

pub returns : goal.returns
returns c = all_from_yields_List is_hex _ _ _ c.all.ensures.ran (YieldsList-from_slice c.args.s.now cc) (λ x b q h. search (rules, tests)) ∙ sym (all_hex_each c.args.s.now)
