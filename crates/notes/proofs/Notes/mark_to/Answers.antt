use Rattle.notes.proofs.Marks.{mark_none, mark_more}
use Rattle.notes.specs.Notes.{seg_metas}
use Rattle.notes.proofs.Notes.mark_to.Goals as goal

pub returns-then-end-from : goal.returns-then-end-from
returns-then-end-from c = mark_none (seg_metas c.args.self c.args.rows.now) c.args.end c.requires.1 c.if-end-from.true

pub returns : goal.returns
returns c = mark_more (seg_metas c.args.self c.args.rows.now) c.args.end c.if-end-from.false c.mark_rows.ensures
