use mathlib.Core.Path.{sym, ap, ◌∙◌}
use Prim.Native.Nat.{ℕ}
use lib.ListN.{set}
use lib.Seq.{set-get_or}
use Rattle.host_words.proofs.put_word.Goals as goal

pub returns-else-state-i : goal.returns-else-state-i
returns-else-state-i c = let a = c.args in sym (ap (λ (w : ℕ). set a.state.now a.i w) (sym c.if-state-i.false) ∙ set-get_or a.state.now a.i 0)
