use mathlib.Core.Path.{sym, ◌∙◌}
use Rattle.store.proofs.Laws.{slot_in}
use Rattle.selective_repeat.proofs.SelectiveRepeatSender.is_due_unchecked.Goals as goal

pub returns-else-is_outstanding : goal.returns-else-is_outstanding
returns-else-is_outstanding c = c.if-is_outstanding.false ∙ simp (sym c.is_outstanding.ensures ∙ c.if-is_outstanding.false)

pub mark_unchecked-requires : goal.mark_unchecked-requires
mark_unchecked-requires c = slot_in c.args.store.now c.args.seq_num c.args.self.window.window_size c.requires.window_size_nonzero c.requires.slot_size_in_bounds

pub returns-then-is_outstanding : goal.returns-then-is_outstanding
returns-then-is_outstanding c = simp (sym c.is_outstanding.ensures ∙ c.if-is_outstanding.true, c.mark_unchecked.ensures)
