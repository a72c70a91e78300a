use Rattle.notes.specs.Notes.{new_notes}
use Rattle.notes.proofs.Notes.new.Goals as goal

pub returns : goal.returns
unfolding new_notes
returns c = rw c.clear_rows.ensures
